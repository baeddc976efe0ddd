-- Where nothing is wrong with a program's names and operands, each resolves and has its kind and length.
use Rattle.std.proofs.Common.{◌≡◌, ℕ, Bool, true, false, not, List, [], ◌∷◌, ◌++◌, Option, Some, None, IsSome, refl, sym, ap, ◌∙◌, arith}
use Rattle.std.specs.Prelude.{◌==◌, is_some}
use Rattle.std.proofs.lemmas.Bool.Decides.{nat_tests}
use Rattle.pw_base.specs.declared.fault_code.FaultCode.{FaultCode}
use Rattle.pw_base.specs.declared.fault_code.FaultCode.TheVariants.{UnknownItem, WrongKind, UnknownName, WrongLength, UnknownParagraph}
use Rattle.pw_base.proofs.Plain.{and-first, and-second}
use Rattle.pw_words.specs.Words.{Word}
use Rattle.pw_code.specs.declared.file.FileInfo.{FileInfo}
use Rattle.pw_forms.specs.declared.operand.Subscript.{Subscript}
use Rattle.pw_forms.specs.declared.operand.Subscript.TheVariants as subscripts
use Rattle.pw_forms.specs.declared.operand.Operand.{Operand}
use Rattle.pw_forms.specs.declared.operand.Operand.TheVariants as operands
use Rattle.pw_operands.specs.declared.variable.Variable.{Variable}
use Rattle.pw_operands.specs.Variables.{is_any, is_item, is_number_variable, is_index}
use Rattle.pw_operands.specs.Scope.{Scope, variable_in, paragraph_of, screen_of, program_of, class_of, file_of}
use Rattle.pw_operands.specs.Uses.{Use}
use Rattle.pw_operands.specs.Uses as place
use Rattle.pw_operands.specs.Resolved.{IsVariable, IsSubscript, HasSubscript, NamesVariable, IsItem, IsAny, IsAmount, IsShownName, IsDisplayOperand, IsOfFile, is_key, is_record, is_sum, FitsPlace, Each}
use Rattle.pw_names.specs.Flaws.{unless_holds, knows_subscript, knows, passes, is_subscript, has_subscript, is_of_kind, named_flaws, item_flaws, any_flaws, amount_flaws, shown_name_flaws, shown_flaws, variable_at, has_length, file_flaws, flaws, flaws_of}

-- of two lists without a member together, neither has one
pub none-front : {A : Type 0} (xs ys : List A) → xs ++ ys ≡ [] → xs ≡ []
none-front [] ys none = refl
none-front (x ∷ xs) ys none = absurd cc

pub none-back : {A : Type 0} (xs ys : List A) → xs ++ ys ≡ [] → ys ≡ []
none-back [] ys none = none
none-back (x ∷ xs) ys none = absurd cc

-- a test with no code holds
pub holds : (test : Bool) (code : FaultCode) → unless_holds test code ≡ [] → test ≡ true
holds true code none = refl
holds false code none = absurd cc

module _ (scope : Scope) where
  -- what a subscript names is there, and may be one
  index-found : (name : Word) (found : Option Variable) → variable_in scope name ≡ found → is_some found ≡ true → passes is_index found ≡ true → IsVariable scope is_index name
  index-found name None is there good = absurd cc
  index-found name (Some variable) is there good = record { variable = variable; found = is; passes = good }

  subscript-good : (subscript : Subscript) → knows_subscript scope (Some subscript) ≡ true → is_subscript scope subscript ≡ true → IsSubscript scope subscript
  subscript-good (subscripts.Number digits) there good = good
  subscript-good (subscripts.Item name) there good = index-found name (variable_in scope name) refl there good

  has_subscript-good : (variable : Variable) (subscript : Option Subscript) → knows_subscript scope subscript ≡ true → has_subscript scope subscript variable ≡ true → HasSubscript scope variable subscript
  has_subscript-good variable None there good = grind (arith, nat_tests)
  has_subscript-good variable (Some subscript) there good =
      let some : not (variable.occurs == 0) ≡ true = and-first _ _ good in
      (grind (arith, nat_tests), subscript-good subscript there (and-second (not (variable.occurs == 0)) _ good))

  named-found : (test : Variable → Bool) (name : Word) (subscript : Option Subscript) (found : Option Variable) → variable_in scope name ≡ found → is_some found ≡ true
      → knows_subscript scope subscript ≡ true → passes (is_of_kind scope test subscript) found ≡ true → NamesVariable scope test name subscript
  named-found test name subscript None is there known good = absurd cc
  named-found test name subscript (Some variable) is there known good = record {
    variable = variable;
    found = is;
    passes = and-first (test variable) _ good;
    subscripted = has_subscript-good variable subscript known (and-second (test variable) _ good);
  }

  named-good : (test : Variable → Bool) (name : Word) (subscript : Option Subscript) → named_flaws scope test name subscript ≡ [] → NamesVariable scope test name subscript
  named-good test name subscript none =
      let known : knows scope name subscript ≡ true = holds _ UnknownItem (none-front _ _ none) in
      named-found test name subscript (variable_in scope name) refl (and-first _ _ known) (and-second (is_some (variable_in scope name)) _ known)
      (holds _ WrongKind (none-back (unless_holds (knows scope name subscript) UnknownItem) _ none))

  item-good : (test : Variable → Bool) (operand : Operand) → item_flaws scope test operand ≡ [] → IsItem scope test operand
  item-good test (operands.Item name subscript) none = named-good test name subscript none
  item-good test (operands.Number digits) none = cc
  item-good test (operands.Text chars) none = cc
  item-good test operands.Spaces none = cc
  item-good test operands.Zeros none = cc

  any-good : (operand : Operand) → any_flaws scope operand ≡ [] → IsAny scope operand
  any-good (operands.Item name subscript) none = named-good is_any name subscript none
  any-good (operands.Number digits) none = tt
  any-good (operands.Text chars) none = tt
  any-good operands.Spaces none = tt
  any-good operands.Zeros none = tt

  amount-good : (operand : Operand) → amount_flaws scope operand ≡ [] → IsAmount scope operand
  amount-good (operands.Item name subscript) none = named-good is_number_variable name subscript none
  amount-good (operands.Number digits) none = tt
  amount-good (operands.Text chars) none = cc
  amount-good operands.Spaces none = cc
  amount-good operands.Zeros none = cc

  no_subscript : (subscript : Option Subscript) → not (is_some subscript) ≡ true → subscript ≡ None
  no_subscript None is = refl
  no_subscript (Some subscript) is = absurd cc

  shown_name-good : (name : Word) (subscript : Option Subscript) (screen : Option ℕ) → shown_name_flaws scope name subscript (is_some screen) ≡ [] → IsShownName scope name subscript screen
  shown_name-good name subscript (Some screen) none =
      no_subscript subscript (holds _ WrongKind (none-back (unless_holds (knows_subscript scope subscript) UnknownItem) _ none))
  shown_name-good name subscript None none = named-good is_any name subscript none

  shown-good : (operand : Operand) → shown_flaws scope operand ≡ [] → IsDisplayOperand scope operand
  shown-good (operands.Item name subscript) none = shown_name-good name subscript (screen_of scope name) none
  shown-good (operands.Number digits) none = tt
  shown-good (operands.Text chars) none = tt
  shown-good operands.Spaces none = tt
  shown-good operands.Zeros none = tt

  -- an item or register with a length that the file takes passes that test too
  named-long : (test : Variable → Bool) (name : Word) (subscript : Option Subscript) → NamesVariable scope is_any name subscript → passes test (variable_in scope name) ≡ true → NamesVariable scope test name subscript
  named-long test name subscript named long =
      record { variable = named.variable; found = named.found; passes = sym (ap (passes test) named.found) ∙ long; subscripted = named.subscripted }

  item-long : (test : Variable → Bool) (operand : Operand) → IsItem scope is_any operand → passes test (variable_at scope operand) ≡ true → IsItem scope test operand
  item-long test (operands.Item name subscript) named long = named-long test name subscript named long
  item-long test (operands.Number digits) never long = never
  item-long test (operands.Text chars) never long = never
  item-long test operands.Spaces never long = never
  item-long test operands.Zeros never long = never

  file-found : (test : FileInfo → Variable → Bool) (name : Word) (operand : Operand) (found : Option FileInfo) → file_of scope name ≡ found → is_some found ≡ true
      → has_length test found (variable_at scope operand) ≡ true → IsItem scope is_any operand → IsOfFile scope test name operand
  file-found test name operand None is there long item = absurd cc
  file-found test name operand (Some file) is there long item = record { file = file; found = is; item = item-long (test file) operand item long }

  file-good : (test : FileInfo → Variable → Bool) (name : Word) (operand : Operand) → file_flaws scope test name operand ≡ [] → IsOfFile scope test name operand
  file-good test name operand none =
      let rest = none-back (unless_holds (is_some (file_of scope name)) UnknownName) _ none in
      file-found test name operand (file_of scope name) refl (holds _ UnknownName (none-front _ _ none)) (holds _ WrongLength (none-front _ _ rest))
      (item-good is_any operand (none-back (unless_holds (has_length test (file_of scope name) (variable_at scope operand)) WrongLength) _ rest))

  some-good : (o : Option ℕ) (code : FaultCode) → unless_holds (is_some o) code ≡ [] → IsSome o
  some-good o code none = holds _ code none

  -- nothing is wrong with a name or operand in its place
  pub fits : (one : Use) → flaws scope one ≡ [] → FitsPlace scope one
  fits (place.Paragraph name) none = some-good (paragraph_of scope name) UnknownParagraph none
  fits (place.Screen name) none = some-good (screen_of scope name) UnknownName none
  fits (place.Program name) none = some-good (program_of scope name) UnknownName none
  fits (place.Class name) none = some-good (class_of scope name) UnknownName none
  fits (place.Any operand) none = any-good operand none
  fits (place.Shown operand) none = shown-good operand none
  fits (place.Amount operand) none = amount-good operand none
  fits (place.Position operand) none = item-good is_number_variable operand none
  fits (place.Sent operand) none = item-good is_any operand none
  fits (place.Receiver operand) none = item-good is_item operand none
  fits (place.Sum operand) none = item-good is_sum operand none
  fits (place.Key file operand) none = file-good is_key file operand none
  fits (place.Record file operand) none = file-good is_record file operand none

  pub all-fit : (uses : List Use) → flaws_of scope uses ≡ [] → Each (FitsPlace scope) uses
  all-fit [] none = tt
  all-fit (one ∷ uses) none = (fits one (none-front _ _ none), all-fit uses (none-back (flaws scope one) _ none))
