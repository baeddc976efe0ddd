-- Where each name resolves and each operand fits its place, nothing is wrong with them.
use Rattle.std.proofs.Common.{◌≡◌, ℕ, ◌<◌, Bool, true, false, not, List, [], ◌∷◌, ◌++◌, Option, Some, None, refl, ap, ◌∙◌, arith}
use Rattle.std.specs.Prelude.{◌==◌, is_some}
use Rattle.std.proofs.lemmas.Bool.Decides.{nat_tests}
use Rattle.std.proofs.lemmas.Bool.{and_from}
use Rattle.pw_base.specs.declared.fault_code.FaultCode.{FaultCode}
use Rattle.pw_base.specs.declared.fault_code.FaultCode.TheVariants.{UnknownItem, WrongKind, UnknownName, WrongLength, UnknownParagraph}
use Rattle.pw_words.specs.Words.{Word}
use Rattle.pw_code.specs.declared.file.FileInfo.{FileInfo}
use Rattle.pw_forms.specs.declared.operand.Subscript.{Subscript}
use Rattle.pw_forms.specs.declared.operand.Subscript.TheVariants as subscripts
use Rattle.pw_forms.specs.declared.operand.Operand.{Operand}
use Rattle.pw_forms.specs.declared.operand.Operand.TheVariants as operands
use Rattle.pw_operands.specs.declared.variable.Variable.{Variable}
use Rattle.pw_operands.specs.Variables.{is_any, is_item, is_number_variable, is_index}
use Rattle.pw_operands.specs.Scope.{Scope, variable_in, paragraph_of, screen_of, program_of, class_of, file_of}
use Rattle.pw_operands.specs.Uses.{Use}
use Rattle.pw_operands.specs.Uses as place
use Rattle.pw_operands.specs.Resolved.{IsSubscript, HasSubscript, NamesVariable, IsItem, IsAny, IsAmount, IsShownName, IsDisplayOperand, IsOfFile, is_key, is_record, is_sum, FitsPlace, Each}
use Rattle.pw_names.specs.Flaws.{unless_holds, knows_subscript, knows, passes, is_subscript, has_subscript, is_of_kind, named_flaws, item_flaws, any_flaws, amount_flaws, shown_name_flaws, shown_flaws, variable_at, has_length, file_flaws, flaws, flaws_of}

pub no-code : (test : Bool) (code : FaultCode) → test ≡ true → unless_holds test code ≡ []
no-code true code is = refl
no-code false code is = absurd cc

pub no-parts : {A : Type 0} (xs ys : List A) → xs ≡ [] → ys ≡ [] → xs ++ ys ≡ []
no-parts [] ys front back = back
no-parts (x ∷ xs) ys front back = absurd cc

module _ (scope : Scope) where
  subscript-known : (variable : Variable) (subscript : Option Subscript) → HasSubscript scope variable subscript → knows_subscript scope subscript ≡ true
  subscript-known variable None has = refl
  subscript-known variable (Some (subscripts.Number digits)) has = refl
  subscript-known variable (Some (subscripts.Item name)) has = ap is_some has.1.found

  subscript-right : (subscript : Subscript) → IsSubscript scope subscript → is_subscript scope subscript ≡ true
  subscript-right (subscripts.Number digits) is = is
  subscript-right (subscripts.Item name) is = ap (passes is_index) is.found ∙ is.passes

  has_subscript-right : (variable : Variable) (subscript : Option Subscript) → HasSubscript scope variable subscript → has_subscript scope subscript variable ≡ true
  has_subscript-right variable None has = let none : variable.occurs ≡ 0 = has in grind (arith, nat_tests)
  has_subscript-right variable (Some subscript) has =
      let some : 0 < variable.occurs = has.0 in
      let within : not (variable.occurs == 0) ≡ true = grind (arith, nat_tests) in
      and_from (not (variable.occurs == 0)) (is_subscript scope subscript) within (subscript-right subscript has.1)

  named-none : (test : Variable → Bool) (name : Word) (subscript : Option Subscript) → NamesVariable scope test name subscript → named_flaws scope test name subscript ≡ []
  named-none test name subscript named =
      no-parts (unless_holds (knows scope name subscript) UnknownItem) _
      (no-code (knows scope name subscript) UnknownItem (and_from (is_some (variable_in scope name)) _ (ap is_some named.found) (subscript-known named.variable subscript named.subscripted)))
      (no-code (passes (is_of_kind scope test subscript) (variable_in scope name)) WrongKind
      (ap (passes (is_of_kind scope test subscript)) named.found ∙ and_from (test named.variable) _ named.passes (has_subscript-right named.variable subscript named.subscripted)))

  item-none : (test : Variable → Bool) (operand : Operand) → IsItem scope test operand → item_flaws scope test operand ≡ []
  item-none test (operands.Item name subscript) is = named-none test name subscript is
  item-none test (operands.Number digits) is = absurd is
  item-none test (operands.Text chars) is = absurd is
  item-none test operands.Spaces is = absurd is
  item-none test operands.Zeros is = absurd is

  any-none : (operand : Operand) → IsAny scope operand → any_flaws scope operand ≡ []
  any-none (operands.Item name subscript) is = named-none is_any name subscript is
  any-none (operands.Number digits) is = refl
  any-none (operands.Text chars) is = refl
  any-none operands.Spaces is = refl
  any-none operands.Zeros is = refl

  amount-none : (operand : Operand) → IsAmount scope operand → amount_flaws scope operand ≡ []
  amount-none (operands.Item name subscript) is = named-none is_number_variable name subscript is
  amount-none (operands.Number digits) is = refl
  amount-none (operands.Text chars) is = absurd is
  amount-none operands.Spaces is = absurd is
  amount-none operands.Zeros is = absurd is

  shown_name-none : (name : Word) (subscript : Option Subscript) (screen : Option ℕ) → IsShownName scope name subscript screen → shown_name_flaws scope name subscript (is_some screen) ≡ []
  shown_name-none name subscript (Some screen) is =
      no-parts (unless_holds (knows_subscript scope subscript) UnknownItem) _
      (no-code (knows_subscript scope subscript) UnknownItem (ap (knows_subscript scope) is)) (no-code (not (is_some subscript)) WrongKind (ap (λ s. not (is_some s)) is))
  shown_name-none name subscript None is = named-none is_any name subscript is

  shown-none : (operand : Operand) → IsDisplayOperand scope operand → shown_flaws scope operand ≡ []
  shown-none (operands.Item name subscript) is = shown_name-none name subscript (screen_of scope name) is
  shown-none (operands.Number digits) is = refl
  shown-none (operands.Text chars) is = refl
  shown-none operands.Spaces is = refl
  shown-none operands.Zeros is = refl

  named-any : (test : Variable → Bool) (name : Word) (subscript : Option Subscript) → NamesVariable scope test name subscript → NamesVariable scope is_any name subscript
  named-any test name subscript named = record { variable = named.variable; found = named.found; passes = refl; subscripted = named.subscripted }

  item-any : (test : Variable → Bool) (operand : Operand) → IsItem scope test operand → IsItem scope is_any operand
  item-any test (operands.Item name subscript) is = named-any test name subscript is
  item-any test (operands.Number digits) is = is
  item-any test (operands.Text chars) is = is
  item-any test operands.Spaces is = is
  item-any test operands.Zeros is = is

  item-passes : (test : Variable → Bool) (operand : Operand) → IsItem scope test operand → passes test (variable_at scope operand) ≡ true
  item-passes test (operands.Item name subscript) is = ap (passes test) is.found ∙ is.passes
  item-passes test (operands.Number digits) is = absurd is
  item-passes test (operands.Text chars) is = absurd is
  item-passes test operands.Spaces is = absurd is
  item-passes test operands.Zeros is = absurd is

  file-none : (test : FileInfo → Variable → Bool) (name : Word) (operand : Operand) → IsOfFile scope test name operand → file_flaws scope test name operand ≡ []
  file-none test name operand is =
      no-parts (unless_holds (is_some (file_of scope name)) UnknownName) _ (no-code (is_some (file_of scope name)) UnknownName (ap is_some is.found))
      (no-parts (unless_holds (has_length test (file_of scope name) (variable_at scope operand)) WrongLength) _
      (no-code (has_length test (file_of scope name) (variable_at scope operand)) WrongLength
      (ap (λ file. has_length test file (variable_at scope operand)) is.found ∙ item-passes (test is.file) operand is.item))
      (item-none is_any operand (item-any (test is.file) operand is.item)))

  -- nothing is wrong with what fits its place
  none : (one : Use) → FitsPlace scope one → flaws scope one ≡ []
  none (place.Paragraph name) fits = no-code (is_some (paragraph_of scope name)) UnknownParagraph fits
  none (place.Screen name) fits = no-code (is_some (screen_of scope name)) UnknownName fits
  none (place.Program name) fits = no-code (is_some (program_of scope name)) UnknownName fits
  none (place.Class name) fits = no-code (is_some (class_of scope name)) UnknownName fits
  none (place.Any operand) fits = any-none operand fits
  none (place.Shown operand) fits = shown-none operand fits
  none (place.Amount operand) fits = amount-none operand fits
  none (place.Position operand) fits = item-none is_number_variable operand fits
  none (place.Sent operand) fits = item-none is_any operand fits
  none (place.Receiver operand) fits = item-none is_item operand fits
  none (place.Sum operand) fits = item-none is_sum operand fits
  none (place.Key file operand) fits = file-none is_key file operand fits
  none (place.Record file operand) fits = file-none is_record file operand fits

  pub none-of : (uses : List Use) → Each (FitsPlace scope) uses → flaws_of scope uses ≡ []
  none-of [] fit = refl
  none-of (one ∷ uses) fit = no-parts (flaws scope one) (flaws_of scope uses) (none one fit.0) (none-of uses fit.1)
