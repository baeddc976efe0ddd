-- Operands and conditions: they read the store and the registers alone.
use Rattle.std.proofs.Common.{◌≡◌, ℕ, Bool, List, [], ◌∷◌, ◌&&◌, ◌||◌, Option, Some, None, refl, ap, ◌∙◌}
use Rattle.pw_code.specs.declared.verb.Answer.{Answer}
use Rattle.pw_forms.specs.declared.operand.Operand.{Operand}
use Rattle.pw_forms.specs.declared.operand.Operand.TheVariants as operands
use Rattle.pw_forms.specs.declared.operand.Subscript.TheVariants as subscripts
use Rattle.pw_forms.specs.declared.cond.ConditionForm.{ConditionForm}
use Rattle.pw_forms.specs.declared.cond.ComparisonForm.{ComparisonForm}
use Rattle.pw_forms.specs.declared.cond.ComparisonForm.TheVariants as comparison
use Rattle.pw_tree_meaning.specs.Program.{Program}
use Rattle.pw_tree_meaning.specs.State.{ProgramState, Out}
use Rattle.pw_tree_meaning.specs.Operands.{ResolvedOperand, value_in, operand_taken, taken_all, one_more, with_taken, with_operand, with_operands}
use Rattle.pw_tree_meaning.specs.Conditions.{compared, holds_by, condition_turned, is_numeric, of_one, of_two, of_both, comparison_holds, all_hold, any_holds, holds}
use Rattle.pw_tree_meaning.proofs.trees.Trees.{Files, at, Rules, Found}
use Rattle.pw_tree_meaning.proofs.trees.Found.{found-same, found-fault}

module _ (program : Program) (answers : List Answer) (files : Files) (s : ProgramState) where
  pub taken-at : (operand : Operand) → operand_taken program (at answers files s) operand ≡ operand_taken program s operand
  taken-at (operands.Item name None) = refl
  taken-at (operands.Item name (Some (subscripts.Number spelling))) = refl
  taken-at (operands.Item name (Some (subscripts.Item index))) = refl
  taken-at (operands.Number spelling) = refl
  taken-at (operands.Text chars) = refl
  taken-at operands.Spaces = refl
  taken-at operands.Zeros = refl

  pub taken_all-at : (all : List Operand) → taken_all program (at answers files s) all ≡ taken_all program s all
  taken_all-at [] = refl
  taken_all-at (operand ∷ rest) =
      ap (λ x. one_more x (taken_all program (at answers files s) rest)) (taken-at operand)
      ∙ ap (λ xs. one_more (operand_taken program s operand) xs) (taken_all-at rest)

  comparison-at : (c : ComparisonForm) → comparison_holds program (at answers files s) c ≡ comparison_holds program s c
  comparison-at (comparison.Compare left negated op right) =
      ap (λ x. of_two (λ a b. condition_turned negated (holds_by op (compared (value_in a s.store) (value_in b s.store)))) x (operand_taken program (at answers files s) right)) (taken-at left)
      ∙ ap (λ x. of_two (λ a b. condition_turned negated (holds_by op (compared (value_in a s.store) (value_in b s.store)))) (operand_taken program s left) x) (taken-at right)
  comparison-at (comparison.Numeric operand negated) =
      ap (λ x. of_one (λ a. condition_turned negated (is_numeric (value_in a s.store))) x) (taken-at operand)

  all-at : (cs : List ComparisonForm) → all_hold program (at answers files s) cs ≡ all_hold program s cs
  all-at [] = refl
  all-at (c ∷ cs) =
      ap (λ x. of_both (λ a b. a && b) x (all_hold program (at answers files s) cs)) (comparison-at c)
      ∙ ap (λ x. of_both (λ a b. a && b) (comparison_holds program s c) x) (all-at cs)

  any-at : (css : List (List ComparisonForm)) → any_holds program (at answers files s) css ≡ any_holds program s css
  any-at [] = refl
  any-at (cs ∷ css) =
      ap (λ x. of_both (λ a b. a || b) x (any_holds program (at answers files s) css)) (all-at cs)
      ∙ ap (λ x. of_both (λ a b. a || b) (all_hold program s cs) x) (any-at css)

  pub holds-at : (cond : ConditionForm) → holds program (at answers files s) cond ≡ holds program s cond
  holds-at cond = any-at cond.any

-- what is done with what was taken, where something was
module _ {A : Type 0} (r : Rules) (c : ℕ) (inside : Bool) (s : ProgramState) where
  pub found-taken : (o : Option A) (run : List Answer → Files → A → Out) (alone : Files → A → Out)
      → ((x : A) → o ≡ Some x → Found r c inside (λ answers files. run answers files x) (λ files. alone files x))
      → Found r c inside (λ answers files. with_taken o (at answers files s) (run answers files)) (λ files. with_taken o (at [] files s) (alone files))
  found-taken None run alone h = found-fault r c inside 203 s
  found-taken (Some x) run alone h = h x refl

module _ (r : Rules) (c : ℕ) (inside : Bool) (program : Program) (s : ProgramState) where
  -- a statement with an operand
  pub found-operand : (operand : Operand) (run : List Answer → Files → ResolvedOperand → Out) (alone : Files → ResolvedOperand → Out)
      → ((x : ResolvedOperand) → operand_taken program s operand ≡ Some x → Found r c inside (λ answers files. run answers files x) (λ files. alone files x))
      → Found r c inside (λ answers files. with_operand program operand (at answers files s) (run answers files))
      (λ files. with_operand program operand (at [] files s) (alone files))
  found-operand operand run alone h =
      found-same r c inside _ _ _ _
      (found-taken r c inside s (operand_taken program s operand) run alone h)
      (λ answers files. ap (λ o. with_taken o (at answers files s) (run answers files)) (taken-at program answers files s operand))
      (λ files. ap (λ o. with_taken o (at [] files s) (alone files)) (taken-at program [] files s operand))

  -- a statement with some operands
  pub found-operands : (all : List Operand) (run : List Answer → Files → List ResolvedOperand → Out) (alone : Files → List ResolvedOperand → Out)
      → ((xs : List ResolvedOperand) → taken_all program s all ≡ Some xs → Found r c inside (λ answers files. run answers files xs) (λ files. alone files xs))
      → Found r c inside (λ answers files. with_operands program all (at answers files s) (run answers files))
      (λ files. with_operands program all (at [] files s) (alone files))
  found-operands all run alone h =
      found-same r c inside _ _ _ _
      (found-taken r c inside s (taken_all program s all) run alone h)
      (λ answers files. ap (λ o. with_taken o (at answers files s) (run answers files)) (taken_all-at program answers files s all))
      (λ files. ap (λ o. with_taken o (at [] files s) (alone files)) (taken_all-at program [] files s all))
