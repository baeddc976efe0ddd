-- Paragraphs at each depth of PERFORM, and a whole program.
use Rattle.std.proofs.Common.{◌≡◌, ℕ, zero, suc, ◌+◌, ◌<◌, ◌≤◌, true, false, List, [], ◌∷◌, ◌++◌, length, refl, arith}
use Rattle.std.specs.Prelude.{nat_lt}
use Rattle.std.proofs.lemmas.Bool.{ltb-true, ltb-false}
use Rattle.std.proofs.lemmas.List.{length-append}
use Rattle.pw_words.specs.Words.{Word}
use Rattle.pw_operands.specs.Resolved.{Each}
use Rattle.pw_code.specs.declared.context.Return.{Return}
use Rattle.pw_code.specs.declared.system.System.{System}
use Rattle.pw_tree_meaning.specs.Program.{body_named}
use Rattle.pw_tree_meaning.specs.Setting.{Setting}
use Rattle.pw_tree_meaning.specs.State.{ProgramState, Out}
use Rattle.pw_tree_meaning.specs.State as source
use Rattle.pw_tree_meaning.specs.Performs.{budget}
use Rattle.pw_tree_meaning.specs.Runs.{performed}
use Rattle.pw_code_meaning.specs.Turns as turning
use Rattle.pw_compile.specs.Plan.{turn_of}
use Rattle.pw_compiler_laws.specs.Systems.{plan_in}
use Rattle.pw_compiler_laws.proofs.Ground.{Ground}
use Rattle.pw_compiler_laws.proofs.Leading.{Env, Marks, mach, DoesFrom, ends_at}
use Rattle.pw_compiler_laws.proofs.Suits.{Suits, Performed}
use Rattle.pw_compiler_laws.proofs.Calls.{CallDoes}
use Rattle.pw_compiler_laws.proofs.Whole.{IsSet, StandsIn, body_does}

module _ (system : System) (setting : Setting) (e : Env) (set : IsSet system setting e)
    (call : ℕ → List (List ℕ) → ProgramState → Out)
    (stands : (name : Word) → Performed system setting name → StandsIn system setting e set name)
    (calling : setting.is_server ≡ false → CallDoes system setting e call) where
  abbrev pub Full : ℕ → Type 0
  Full d = (name : Word) (rs : List Return) (t : ProgramState) → length rs + d ≡ turning.most_performs → nat_lt (length rs) turning.most_performs ≡ false → performed d setting call name t ≡ source.faults 202 t

  abbrev pub Inside : ℕ → Type 0
  Inside d = (name : Word) → Performed system setting name → (rs : List Return) (r : Return) (t : ProgramState) (m : Marks) → length rs + d ≡ turning.most_performs → nat_lt (length rs) turning.most_performs ≡ true → Ground setting.program t.store
      → DoesFrom system setting.program e t (mach e (turn_of (plan_in setting) name).start (rs ++ r ∷ []) t m)
      (turn_of (plan_in setting) name).end (rs ++ r ∷ []) (performed d setting call name t)

  pub full_at : (d : ℕ) → Full d
  full_at zero name rs t is f = refl
  full_at (suc d) name rs t is f = let most : turning.most_performs ≤ length rs = ltb-false (length rs) turning.most_performs f in absurd (omega (arith, is, most))

  pub inside_at : ((name : Word) → Performed system setting name → Each (Suits system setting) (body_named setting.program name)) → (d : ℕ) → Inside d
  inside_at suits zero name is_there rs r t m is f ground = let less : length rs < turning.most_performs = ltb-true (length rs) turning.most_performs f in absurd (omega (arith, is, less))
  inside_at suits (suc d) name is_there rs r t m is f ground =
      let below = inside_at suits d in
      let at = stands name is_there in
      let more : length (rs ++ r ∷ []) + d ≡ turning.most_performs = omega (arith, is, length-append rs (r ∷ [])) in
      ends_at system setting.program e (budget t) _ t.answers _ _ (rs ++ r ∷ []) (performed (suc d) setting call name t) at.long
      (body_does system setting e set (performed d setting call) call d stands (full_at d) below calling
      (body_named setting.program name) _ (rs ++ r ∷ []) t m more ground (suits name is_there) at.here)
