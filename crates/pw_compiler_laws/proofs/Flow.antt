-- A program from one of its paragraphs on.
use Rattle.std.proofs.Common.{◌≡◌, ℕ, ◌+◌, false, List, [], ◌∷◌, Some, None, inl, refl, ◌∙◌, arith}
use Rattle.pw_words.specs.Words.{Word}
use Rattle.pw_forms.specs.declared.statement.Paragraph.{Paragraph}
use Rattle.pw_operands.specs.Resolved.{Each}
use Rattle.pw_code.specs.declared.instr.Instr.TheVariants as instr
use Rattle.pw_code.specs.declared.system.System.{System}
use Rattle.pw_tree_meaning.specs.Setting.{Setting}
use Rattle.pw_tree_meaning.specs.State.{ProgramState, Out, Goes, Leaves, Asks, then_do}
use Rattle.pw_tree_meaning.specs.Performs.{budget}
use Rattle.pw_tree_meaning.specs.Statements.{body}
use Rattle.pw_tree_meaning.specs.Runs.{performed, flow, program_run, most_performs}
use Rattle.pw_code_meaning.specs.Config.{code_at}
use Rattle.pw_code_meaning.specs.Turns as turning
use Rattle.pw_compile.specs.Emitted.{procedure_code}
use Rattle.pw_compile.specs.Sizes.{body_size}
use Rattle.pw_compiler_laws.proofs.Ground.{Ground}
use Rattle.pw_compiler_laws.proofs.Leading.{Env, Marks, mach, DoesFrom, Finishes, finishes_after, one}
use Rattle.pw_compiler_laws.specs.Systems.{plan_in}
use Rattle.pw_compiler_laws.proofs.Suits.{Suits, Performed}
use Rattle.pw_compiler_laws.proofs.Calls.{CallDoes}
use Rattle.pw_compiler_laws.proofs.Whole.{IsSet, StandsIn, body_does}
use Rattle.pw_compiler_laws.proofs.Placed.{HasFrom, from-start, stands-in, suits-named}
use Rattle.pw_compiler_laws.proofs.Depths.{full_at, inside_at, Inside}

module _ (system : System) (setting : Setting) (e : Env) (set : IsSet system setting e)
    (call : ℕ → List (List ℕ) → ProgramState → Out)
    (stands : (name : Word) → Performed system setting name → StandsIn system setting e set name)
    (calling : setting.is_server ≡ false → CallDoes system setting e call)
    (d : ℕ) (all : turning.most_performs ≡ d)
    (inside : Inside system setting e set call stands calling d) where
  pub flow_does : (ps : List Paragraph) (at : ℕ) (s : ProgramState) (m : Marks) → Ground setting.program s.store → HasFrom system setting e at ps
      → Each (λ (q : Paragraph). Each (Suits system setting) q.body) ps
      → Finishes system setting.program e (budget s) (mach e at [] s m) s.answers (flow setting (performed d setting call) call ps s)
  flow_does [] at s m ground has fit =
      record { at = at; returns = []; marks = m; quiet = inl has; ground = ground; less = omega arith; leads = one system e at [] s m s.answers None has }
  flow_does (paragraph ∷ rest) at s m ground has fit =
      by (λ t n t_ground. flow_does rest (at + body_size paragraph.body + 1) t n t_ground has.2 fit.1) (body setting (performed d setting call) call paragraph.body s)
      (body_does system setting e set (performed d setting call) call d stands
      (full_at system setting e set call stands calling d) inside calling
      paragraph.body at [] s m start ground fit.0 has.0)
    where
      start : 0 + d ≡ turning.most_performs
      start = omega (arith, all)

      by : ((t : ProgramState) (n : Marks) → Ground setting.program t.store → Finishes system setting.program e (budget t) (mach e (at + body_size paragraph.body + 1) [] t n) t.answers (flow setting (performed d setting call) call rest t))
          → (o : Out) → DoesFrom system setting.program e s (mach e at [] s m) (at + body_size paragraph.body) [] o
          → Finishes system setting.program e (budget s) (mach e at [] s m) s.answers (then_do o (flow setting (performed d setting call) call rest))
      by next (Goes t) r =
          let ends = one system e (at + body_size paragraph.body) [] t r.marks t.answers (Some (instr.ParagraphEnd at)) has.1 in
          finishes_after system setting.program e (budget t) (budget s) _ (mach e (at + body_size paragraph.body + 1) [] t r.marks) s.answers t.answers (flow setting (performed d setting call) call rest t) r.less
          (λ k. let y = ends k in let x = r.leads y.0 in (x.0, x.1 ∙ y.1)) (next t r.marks r.ground)
      by next (Leaves t) r = r
      by next (Asks v t) r = r

-- a program from its first paragraph on
pub program_does : (system : System) (setting : Setting) (e : Env) → IsSet system setting e → (call : ℕ → List (List ℕ) → ProgramState → Out) → (setting.is_server ≡ false → CallDoes system setting e call)
    → (code_at system e.program).instrs ≡ procedure_code (plan_in setting) 0 setting.program.paragraphs
    → Each (λ (q : Paragraph). Each (Suits system setting) q.body) setting.program.paragraphs
    → (s : ProgramState) (m : Marks) → Ground setting.program s.store
    → Finishes system setting.program e (budget s) (mach e 0 [] s m) s.answers (program_run setting call s)
program_does system setting e set call calling emitted suits s m ground =
    let has = from-start system setting e setting.program.paragraphs emitted in
    let stands : (name : Word) → Performed system setting name → StandsIn system setting e set name = λ name performed. stands-in system setting e set name has performed in
    flow_does system setting e set call stands calling most_performs refl
    (inside_at system setting e set call stands calling (λ name performed. suits-named system setting e suits name) most_performs)
    setting.program.paragraphs 0 s m ground has suits
