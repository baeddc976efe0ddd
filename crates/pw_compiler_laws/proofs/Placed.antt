-- Where the paragraphs of a program stand in its code.
use Rattle.std.proofs.Common.{◌≡◌, ℕ, suc, ◌+◌, Bool, true, false, cond, List, [], ◌∷◌, ◌++◌, length, find, Option, Some, None, IsSome, refl, sym, ap, ◌∙◌, subst, append_assoc, arith}
use Rattle.std.specs.Prelude.{slice_get, slice_index_or, position, unwrap_or, bytes_eq}
use Rattle.std.specs.List.{position_from}
use Rattle.std.proofs.lemmas.Iterator.Adapters.{position_from-zero}
use Rattle.std.proofs.lemmas.List.{length-append}
use Rattle.pw_words.specs.Words.{Word}
use Rattle.pw_forms.specs.declared.statement.Paragraph.{Paragraph}
use Rattle.pw_code.specs.declared.instr.Instr.{Instr}
use Rattle.pw_code.specs.declared.instr.Instr.TheVariants as instr
use Rattle.pw_code.specs.declared.instr.Turn.{Turn}
use Rattle.pw_code.specs.declared.system.System.{System}
use Rattle.pw_operands.specs.Resolved.{Each}
use Rattle.pw_tree_meaning.specs.Program.{body_by, body_named}
use Rattle.pw_tree_meaning.specs.Setting.{Setting}
use Rattle.pw_code_meaning.specs.Config.{code_at}
use Rattle.pw_compile.specs.Emitted.{body_code, procedure_code}
use Rattle.pw_compile.specs.Sizes.{body_size, turns_from}
use Rattle.pw_tree_meaning.proofs.Resolved.{each-found}
use Rattle.pw_compiler_laws.specs.Systems.{plan_in}
use Rattle.pw_compiler_laws.proofs.Leading.{Env}
use Rattle.pw_compile.proofs.Lengths.{body_length}
use Rattle.pw_compiler_laws.proofs.Statements.{HasAt, has_front, has_back, Stands}
use Rattle.pw_compiler_laws.proofs.Suits.{Suits, Performed}
use Rattle.pw_compiler_laws.proofs.Whole.{IsSet, StandsIn, is_plan_in}

-- ---- instructions where they stand

got-behind : (front xs : List Instr) (x : Instr) → slice_get (front ++ x ∷ xs) (length front) ≡ Some x
got-behind [] xs x = refl
got-behind (y ∷ ys) xs x = got-behind ys xs x

has-behind : (front xs : List Instr) → HasAt (front ++ xs) (length front) xs
has-behind front [] = tt
has-behind front (x ∷ xs) =
    let next = has-behind (front ++ x ∷ []) xs in
    let same : length (front ++ x ∷ []) ≡ length front + 1 = length-append front (x ∷ []) in
    (got-behind front xs x, subst (λ n. HasAt (front ++ x ∷ xs) n xs) same (subst (λ all. HasAt all (length (front ++ x ∷ [])) xs) (append_assoc front (x ∷ []) xs) next))

got-none : (xs : List Instr) → slice_get xs (length xs) ≡ None
got-none [] = refl
got-none (x ∷ xs) = got-none xs

module _ (system : System) (setting : Setting) (e : Env) where
  -- the paragraphs stand in the code from a place on, and nothing behind them
  abbrev pub HasFrom : ℕ → List Paragraph → Type 0
  HasFrom at [] = slice_get (code_at system e.program).instrs at ≡ None
  HasFrom at (paragraph ∷ rest) =
      HasAt (code_at system e.program).instrs at (body_code (plan_in setting) paragraph.body)
      × (slice_get (code_at system e.program).instrs (at + body_size paragraph.body) ≡ Some (instr.ParagraphEnd at))
      × HasFrom (at + body_size paragraph.body + 1) rest

  has-from : (ps : List Paragraph) (at : ℕ) → HasAt (code_at system e.program).instrs at (procedure_code (plan_in setting) at ps)
      → slice_get (code_at system e.program).instrs (at + length (procedure_code (plan_in setting) at ps)) ≡ None → HasFrom at ps
  has-from [] at has none = let same : at + 0 ≡ at = omega arith in subst (λ n. slice_get (code_at system e.program).instrs n ≡ None) same none
  has-from (p ∷ ps) at has none =
      let plan = plan_in setting in
      let all = (code_at system e.program).instrs in
      let later = procedure_code plan (at + body_size p.body + 1) ps in
      let long : length (body_code plan p.body) ≡ body_size p.body = body_length plan p.body in
      let back = has_back all at (body_code plan p.body) (instr.ParagraphEnd at ∷ later) (at + body_size p.body) (omega (arith, long)) has in
      let whole : length (body_code plan p.body ++ instr.ParagraphEnd at ∷ later) ≡ length (body_code plan p.body) + suc (length later) = length-append (body_code plan p.body) (instr.ParagraphEnd at ∷ later) in
      let same : at + length (body_code plan p.body ++ instr.ParagraphEnd at ∷ later) ≡ at + body_size p.body + 1 + length later = omega (arith, long, whole) in (
        has_front all at (body_code plan p.body) (instr.ParagraphEnd at ∷ later) has,
        back.0,
        has-from ps (at + body_size p.body + 1) back.1 (subst (λ n. slice_get all n ≡ None) same none),
      )

  -- those of a code that is theirs
  pub from-start : (ps : List Paragraph) → (code_at system e.program).instrs ≡ procedure_code (plan_in setting) 0 ps → HasFrom 0 ps
  from-start ps is =
      let code = procedure_code (plan_in setting) 0 ps in
      let same : 0 + length code ≡ length code = omega arith in
      has-from ps 0 (subst (λ all. HasAt all 0 code) (sym is) (has-behind [] code))
      (subst (λ all. slice_get all (0 + length code) ≡ None) (sym is) (subst (λ n. slice_get code n ≡ None) (sym same) (got-none code)))

  module _ (set : IsSet system setting e) (name : Word) where
    abbrev test : Paragraph → Bool
    test paragraph = bytes_eq paragraph.name name

    abbrev nowhere : Turn
    nowhere = record { start = 0; end = 0 }

    record Placed (at k : ℕ) (ps : List Paragraph) : Type 0 where
      number : ℕ
      found : position_from test k ps ≡ Some (k + number)
      stands : Stands system setting set.known e (plan_in setting) (is_plan_in setting) (slice_index_or (turns_from at ps) number nowhere) (body_by (find test ps))

    record PlacedBy (at k : ℕ) (p : Paragraph) (ps : List Paragraph) (b : Bool) : Type 0 where
      number : ℕ
      found : cond b (Some k) (position_from test (k + 1) ps) ≡ Some (k + number)
      stands : Stands system setting set.known e (plan_in setting) (is_plan_in setting) (slice_index_or (turns_from at (p ∷ ps)) number nowhere) (body_by (cond b (Some p) (find test ps)))

    -- the paragraph of a name
    placed-in : (ps : List Paragraph) (at k : ℕ) → HasFrom at ps → IsSome (position_from test k ps) → Placed at k ps
    placed-in [] at k has some = absurd cc
    placed-in (p ∷ ps) at k has some =
        let r = by (test p) some (λ later. placed-in ps (at + body_size p.body + 1) (k + 1) has.2 later) in
        record { number = r.number; found = r.found; stands = r.stands }
      where
        by : (b : Bool) → IsSome (cond b (Some k) (position_from test (k + 1) ps)) → (IsSome (position_from test (k + 1) ps) → Placed (at + body_size p.body + 1) (k + 1) ps) → PlacedBy at k p ps b
        by true here later = record {
          number = 0;
          found = let same : k ≡ k + 0 = omega arith in ap Some same;
          stands = record { here = has.0; end = has.1; long = refl };
        }
        by false there later =
            let r = later there in
            let same : k + 1 + r.number ≡ k + suc r.number = omega arith in
            record { number = suc r.number; found = r.found ∙ ap Some same; stands = r.stands }

    pub stands-in : HasFrom 0 setting.program.paragraphs → Performed system setting name → StandsIn system setting e set name
    stands-in has performed =
        let r = placed-in setting.program.paragraphs 0 0 has performed in
        let same : 0 + r.number ≡ r.number = omega arith in
        let number : unwrap_or (position test setting.program.paragraphs) 0 ≡ r.number =
        ap (λ o. unwrap_or o 0) (position_from-zero test setting.program.paragraphs ∙ r.found) ∙ same in
        subst (λ n. Stands system setting set.known e (plan_in setting) (is_plan_in setting) (slice_index_or (turns_from 0 setting.program.paragraphs) n nowhere) (body_named setting.program name)) (sym number) r.stands

  -- the statements of the paragraph of a name
  pub suits-named : Each (λ (p : Paragraph). Each (Suits system setting) p.body) setting.program.paragraphs → (name : Word) → Each (Suits system setting) (body_named setting.program name)
  suits-named all name = by (find (λ (p : Paragraph). bytes_eq p.name name) setting.program.paragraphs) refl
    where
      by : (o : Option Paragraph) → find (λ (p : Paragraph). bytes_eq p.name name) setting.program.paragraphs ≡ o → Each (Suits system setting) (body_by o)
      by None is = tt
      by (Some p) is = each-found (λ (one : Paragraph). Each (Suits system setting) one.body) (λ (one : Paragraph). bytes_eq one.name name) setting.program.paragraphs p all is
