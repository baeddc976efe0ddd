-- Operands and conditions by what is known.
use Rattle.std.proofs.Common.{◌≡◌, ℕ, Bool, true, false, ◌&&◌, ◌||◌, List, [], ◌∷◌, Option, Some, None, refl, ap, ◌∙◌}
use Rattle.pw_data.specs.declared.item.Item.{Item}
use Rattle.pw_forms.specs.declared.cond.ComparisonForm.{ComparisonForm}
use Rattle.pw_forms.specs.declared.cond.ComparisonForm.TheVariants as comparison
use Rattle.pw_forms.specs.declared.operand.Operand.{Operand}
use Rattle.pw_forms.specs.declared.operand.Operand.TheVariants as operands
use Rattle.pw_forms.specs.declared.operand.Subscript.{Subscript}
use Rattle.pw_forms.specs.declared.operand.Subscript.TheVariants as subscripts
use Rattle.pw_program_laws.proofs.Texts.{value_in-texts}
use Rattle.pw_program_laws.specs.Known.{IsKnownAt, KnownMoment}
use Rattle.pw_program_laws.specs.Meets.{AllMeet, AnyMeets, ComparisonMeets, WithAllKnown, WithKnown, WithTaken, known_subscript}
use Rattle.pw_program_laws.specs.Texts.{said}
use Rattle.pw_tree_meaning.specs.Conditions.{any_holds, all_hold, compared, comparison_holds, condition_turned, holds_by, is_numeric, of_both, of_one, of_two}
use Rattle.pw_tree_meaning.specs.Operands.{ResolvedOperand, Fixed, one_more, operand_taken, plain, subscript_value, taken_all, taken_item, value_in}
use Rattle.pw_tree_meaning.specs.Program.{Program, item_named}
use Rattle.pw_tree_meaning.specs.State.{ProgramState, Registers}
use Rattle.pw_tree_meaning.specs.Values.{Number', Spaces', Text', Zeros', number_of, whole_part}
use Rattle.pw_words.specs.Words.{Word}

taken-plain : (o : Option Item) (registers : Registers) (name : Word) → taken_item o registers name None ≡ Some (plain o registers name)
taken-plain None registers name = refl
taken-plain (Some item) registers name = refl

module _ (program : Program) (sizes : List ℕ) (k : KnownMoment) where
  -- a subscript has its value
  subscript-known : (subscript : Subscript) (s : ProgramState) → IsKnownAt sizes k s → subscript_value program s subscript ≡ known_subscript program sizes k subscript
  subscript-known (subscripts.Number spelling) s known = refl
  subscript-known (subscripts.Item name) s known =
      ap (λ (r : Registers). whole_part (number_of (value_in (plain (item_named program name) r name) s.store))) known.registers
      ∙ ap (λ v. whole_part (number_of v)) (value_in-texts (plain (item_named program name) k.registers name) sizes s.store k.texts known.texts known.sized)

  occurrence-known : (o : Option ResolvedOperand) (P : ResolvedOperand → Type 0) → WithTaken program sizes k o P
      → (found : ResolvedOperand) × (o ≡ Some found) × P found
  occurrence-known None P now = absurd now
  occurrence-known (Some found) P now = (found, refl, now)

  -- an operand is taken as it is known
  pub known-taken : (operand : Operand) (P : ResolvedOperand → Type 0) → WithKnown program sizes k operand P
      → (found : ResolvedOperand) × ((s : ProgramState) → IsKnownAt sizes k s → operand_taken program s operand ≡ Some found) × P found
  known-taken (operands.Item name None) P now = (
    plain (item_named program name) k.registers name,
    λ s known. ap (λ r. taken_item (item_named program name) r name None) known.registers ∙ taken-plain (item_named program name) k.registers name,
    now,
  )
  known-taken (operands.Item name (Some subscript)) P now =
      let x = occurrence-known (taken_item (item_named program name) k.registers name (Some (known_subscript program sizes k subscript))) P now in (
        x.0,
        λ s known.
            ap (λ r. taken_item (item_named program name) r name (Some (subscript_value program s subscript))) known.registers
            ∙ ap (λ n. taken_item (item_named program name) k.registers name (Some n)) (subscript-known subscript s known)
            ∙ x.1,
        x.2,
      )
  known-taken (operands.Number spelling) P now = (Fixed (Number' spelling), λ s known. refl, now)
  known-taken (operands.Text chars) P now = (Fixed (Text' chars), λ s known. refl, now)
  known-taken operands.Spaces P now = (Fixed Spaces', λ s known. refl, now)
  known-taken operands.Zeros P now = (Fixed Zeros', λ s known. refl, now)

  pub all-taken : (all : List Operand) (P : List ResolvedOperand → Type 0) → WithAllKnown program sizes k all P
      → (found : List ResolvedOperand) × ((s : ProgramState) → IsKnownAt sizes k s → taken_all program s all ≡ Some found) × P found
  all-taken [] P now = ([], λ s known. refl, now)
  all-taken (operand ∷ rest) P now =
      let one = known-taken operand (λ x. WithAllKnown program sizes k rest (λ xs. P (x ∷ xs))) now in
      let others = all-taken rest (λ xs. P (one.0 ∷ xs)) one.2 in (
        one.0 ∷ others.0,
        λ s known. ap (λ x. one_more x (taken_all program s rest)) (one.1 s known) ∙ ap (λ xs. one_more (Some one.0) xs) (others.1 s known),
        others.2,
      )

and-true : (b : Bool) → (b && true) ≡ b
and-true true = refl
and-true false = refl

or-false : (b : Bool) → (b || false) ≡ b
or-false true = refl
or-false false = refl

module _ (program : Program) (sizes : List ℕ) (k : KnownMoment) (s : ProgramState) (known : IsKnownAt sizes k s) where
  -- a comparison holds as it is known to
  comparison-known : (c : ComparisonForm) (P : Bool → Type 0) → ComparisonMeets program sizes k c P
      → (b : Bool) × (comparison_holds program s c ≡ Some b) × P b
  comparison-known (comparison.Compare left negated op right) P now =
      let a = known-taken program sizes k left
      (λ a. WithKnown program sizes k right (λ b. P (condition_turned negated (holds_by op (compared (said sizes k.texts a) (said sizes k.texts b)))))) now in
      let b = known-taken program sizes k right
      (λ b. P (condition_turned negated (holds_by op (compared (said sizes k.texts a.0) (said sizes k.texts b))))) a.2 in
      let test : ResolvedOperand → ResolvedOperand → Bool =
      λ x y. condition_turned negated (holds_by op (compared (value_in x s.store) (value_in y s.store))) in (
        condition_turned negated (holds_by op (compared (said sizes k.texts a.0) (said sizes k.texts b.0))),
        ap (λ x. of_two test x (operand_taken program s right)) (a.1 s known)
            ∙ ap (λ y. of_two test (Some a.0) y) (b.1 s known)
            ∙ ap (λ x. Some (condition_turned negated (holds_by op (compared x (value_in b.0 s.store))))) (value_in-texts a.0 sizes s.store k.texts known.texts known.sized)
            ∙ ap (λ y. Some (condition_turned negated (holds_by op (compared (said sizes k.texts a.0) y)))) (value_in-texts b.0 sizes s.store k.texts known.texts known.sized),
        b.2,
      )
  comparison-known (comparison.Numeric operand negated) P now =
      let a = known-taken program sizes k operand (λ a. P (condition_turned negated (is_numeric (said sizes k.texts a)))) now in (
        condition_turned negated (is_numeric (said sizes k.texts a.0)),
        ap (λ x. of_one (λ y. condition_turned negated (is_numeric (value_in y s.store))) x) (a.1 s known)
            ∙ ap (λ x. Some (condition_turned negated (is_numeric x))) (value_in-texts a.0 sizes s.store k.texts known.texts known.sized),
        a.2,
      )

  all-known : (cs : List ComparisonForm) (P : Bool → Type 0) → AllMeet program sizes k cs P → (b : Bool) × (all_hold program s cs ≡ Some b) × P b
  all-known [] P now = (true, refl, now)
  all-known (c ∷ []) P now =
      let one = comparison-known c P now in
      (one.0, ap (λ x. of_both (λ a b. a && b) x (Some true)) one.1 ∙ ap Some (and-true one.0), one.2)
  all-known (c ∷ d ∷ cs) P now =
      let one = comparison-known c (λ a. AllMeet program sizes k (d ∷ cs) (λ b. P (a && b))) now in
      let others = all-known (d ∷ cs) (λ b. P (one.0 && b)) one.2 in (
        one.0 && others.0,
        ap (λ x. of_both (λ a b. a && b) x (all_hold program s (d ∷ cs))) one.1 ∙ ap (λ x. of_both (λ a b. a && b) (Some one.0) x) others.1,
        others.2,
      )

  pub any-known : (css : List (List ComparisonForm)) (P : Bool → Type 0) → AnyMeets program sizes k css P → (b : Bool) × (any_holds program s css ≡ Some b) × P b
  any-known [] P now = (false, refl, now)
  any-known (cs ∷ []) P now =
      let one = all-known cs P now in
      (one.0, ap (λ x. of_both (λ a b. a || b) x (Some false)) one.1 ∙ ap Some (or-false one.0), one.2)
  any-known (cs ∷ ds ∷ css) P now =
      let one = all-known cs (λ a. AnyMeets program sizes k (ds ∷ css) (λ b. P (a || b))) now in
      let others = any-known (ds ∷ css) (λ b. P (one.0 || b)) one.2 in (
        one.0 || others.0,
        ap (λ x. of_both (λ a b. a || b) x (any_holds program s (ds ∷ css))) one.1 ∙ ap (λ x. of_both (λ a b. a || b) (Some one.0) x) others.1,
        others.2,
      )
