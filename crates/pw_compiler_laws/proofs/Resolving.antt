-- Statements whose names resolve suit the simulation.
use Rattle.std.proofs.Common.{◌≡◌, Bool, true, List, [], ◌∷◌, ◌++◌, map, flat_map, Option, Some, None}
use Rattle.pw_words.specs.Words.{Word}
use Rattle.pw_forms.specs.declared.cond.ComparisonForm.{ComparisonForm}
use Rattle.pw_forms.specs.declared.cond.ComparisonForm.TheVariants as comparisons
use Rattle.pw_forms.specs.declared.cond.ConditionForm.{ConditionForm}
use Rattle.pw_forms.specs.declared.lists.SendCode.{SendCode}
use Rattle.pw_forms.specs.declared.operand.Operand.{Operand}
use Rattle.pw_forms.specs.declared.operand.Operand.TheVariants as operands
use Rattle.pw_forms.specs.declared.operand.Subscript.{Subscript}
use Rattle.pw_forms.specs.declared.statement.ArithmeticForm.{ArithmeticForm}
use Rattle.pw_forms.specs.declared.statement.Statement.{Statement, Row_of-Statement, end_of-Statement, more_of-Statement}
use Rattle.pw_forms.specs.declared.statement.Statement as form
use Rattle.pw_code.specs.declared.system.System.{System}
use Rattle.pw_operands.specs.Resolved.{Each, NamesVariable, IsItem, IsAny, IsAmount, FitsPlace, Resolves, RowResolves, is_key, is_record, is_sum}
use Rattle.pw_operands.specs.Scope.{Scope}
use Rattle.pw_operands.specs.Uses.{Use, cond_uses, comparison_uses, uses}
use Rattle.pw_operands.specs.Uses as place
use Rattle.pw_operands.specs.Variables.{is_any, is_item, is_number_variable}
use Rattle.pw_operands.specs.declared.variable.Variable.{Variable}
use Rattle.pw_tree_meaning.specs.Setting.{Setting}
use Rattle.pw_tree_meaning.specs.Sends.{yields_of}
use Rattle.pw_tree_meaning.specs.Sound.{scope_of}
use Rattle.pw_compiler_laws.proofs.Readings.{ComparisonIndexed}
use Rattle.pw_tree_meaning.specs.Arithmetic as computing
use Rattle.pw_compiler_laws.proofs.Suits as suits
use Rattle.pw_compiler_laws.proofs.Suits.{Own, Performed, Shows, ShowsScreen, CallSuits, Suits, RowSuits}

module _ (system : System) (setting : Setting) where
  abbrev scope : Scope
  scope = scope_of setting.is_server setting.deck setting.program

  abbrev own : Operand → Type 0
  own one = Own system setting one

  -- what resolves says nothing of: the screens and the calls
  abbrev mutual
    pub Shaped : Statement → Type 0
    Shaped (form.OnSizeError' line a n first m second) = RowShaped first × RowShaped second
    Shaped (form.If' line cond n first m second) = RowShaped first × RowShaped second
    Shaped (form.DisplayBase line name) = ShowsScreen system setting name
    Shaped (form.Display line shown) = Shows system setting shown
    Shaped (form.Accept line name keys) = ShowsScreen system setting name
    Shaped (form.Call line name arguments) = CallSuits system setting name arguments
    Shaped (form.Receive line into) = setting.is_server ≡ true
    Shaped _ = Unit {0}

    pub RowShaped : {n : _} → Row_of-Statement n → Type 0
    RowShaped end_of-Statement = Unit {0}
    RowShaped (more_of-Statement one rest) = Shaped one × RowShaped rest

  pub named-own : (test : Variable → Bool) (name : Word) (subscript : Option Subscript) → NamesVariable scope test name subscript → own (operands.Item name subscript)
  named-own test name None is = tt
  named-own test name (Some one) is = is.subscripted.1

  any-own : (one : Operand) → IsAny scope one → own one
  any-own (operands.Item name subscript) is = named-own is_any name subscript is
  any-own (operands.Number digits) is = tt
  any-own (operands.Text chars) is = tt
  any-own operands.Spaces is = tt
  any-own operands.Zeros is = tt

  amount-own : (one : Operand) → IsAmount scope one → own one
  amount-own (operands.Item name subscript) is = named-own is_number_variable name subscript is
  amount-own (operands.Number digits) is = tt
  amount-own (operands.Text chars) is = tt
  amount-own operands.Spaces is = tt
  amount-own operands.Zeros is = tt

  item-own : (test : Variable → Bool) (one : Operand) → IsItem scope test one → own one
  item-own test (operands.Item name subscript) is = named-own test name subscript is
  item-own test (operands.Number digits) is = tt
  item-own test (operands.Text chars) is = tt
  item-own test operands.Spaces is = tt
  item-own test operands.Zeros is = tt

  pub receivers-own : (ones : List Operand) → Each (FitsPlace scope) (map place.Receiver ones) → Each own ones
  receivers-own [] each = tt
  receivers-own (one ∷ ones) each = (item-own is_item one each.0, receivers-own ones each.1)

  yields-own : (codes : List SendCode) → Each (FitsPlace scope) (map (λ (code : SendCode). place.Receiver code.yields) codes) → Each own (yields_of codes)
  yields-own [] each = tt
  yields-own (code ∷ codes) each = (item-own is_item code.yields each.0, yields-own codes each.1)

  each-front : (xs ys : List Use) → Each (FitsPlace scope) (xs ++ ys) → Each (FitsPlace scope) xs
  each-front [] ys each = tt
  each-front (x ∷ xs) ys each = (each.0, each-front xs ys each.1)

  each-back : (xs ys : List Use) → Each (FitsPlace scope) (xs ++ ys) → Each (FitsPlace scope) ys
  each-back [] ys each = each
  each-back (x ∷ xs) ys each = each-back xs ys each.1

  paragraphs-own : (names : List Word) (more : List Use) → Each (FitsPlace scope) (map place.Paragraph names ++ more) → Each (Performed system setting) names × Each (FitsPlace scope) more
  paragraphs-own [] more each = (tt, each)
  paragraphs-own (name ∷ names) more each = let rest = paragraphs-own names more each.1 in ((each.0, rest.0), rest.1)

  comparison-own : (one : ComparisonForm) → Each (FitsPlace scope) (comparison_uses one) → ComparisonIndexed setting.is_server setting.deck setting.program one
  comparison-own (comparisons.Compare left negated op right) each = (any-own left each.0, any-own right each.1.0)
  comparison-own (comparisons.Numeric one negated) each = any-own one each.0

  all-own : (ones : List ComparisonForm) → Each (FitsPlace scope) (flat_map comparison_uses ones) → Each (ComparisonIndexed setting.is_server setting.deck setting.program) ones
  all-own [] each = tt
  all-own (one ∷ ones) each = (
    comparison-own one (each-front (comparison_uses one) (flat_map comparison_uses ones) each),
    all-own ones (each-back (comparison_uses one) (flat_map comparison_uses ones) each),
  )

  lists-own : (lists : List (List ComparisonForm)) → Each (FitsPlace scope) (flat_map (λ all. flat_map comparison_uses all) lists)
      → Each (Each (ComparisonIndexed setting.is_server setting.deck setting.program)) lists
  lists-own [] each = tt
  lists-own (list ∷ lists) each = (
    all-own list (each-front (flat_map comparison_uses list) (flat_map (λ all. flat_map comparison_uses all) lists) each),
    lists-own lists (each-back (flat_map comparison_uses list) (flat_map (λ all. flat_map comparison_uses all) lists) each),
  )

  cond-own : (cond : ConditionForm) → Each (FitsPlace scope) (cond_uses cond) → Each (Each (ComparisonIndexed setting.is_server setting.deck setting.program)) cond.any
  cond-own cond each = lists-own cond.any each

  arithmetic-own : (a : ArithmeticForm) → Each (FitsPlace scope) (place.arithmetic_uses a) → suits.ArithmeticOwn system setting a
  arithmetic-own a each = by a.giving each.1
    where
      by : (giving : Option Operand) → Each (FitsPlace scope) (place.result_uses a.second giving) → own a.first × own a.second × own (computing.receiver_by giving a.second)
      by None rest = (amount-own a.first each.0, item-own is_sum a.second rest.0, item-own is_sum a.second rest.0)
      by (Some item) rest = (amount-own a.first each.0, amount-own a.second rest.0, item-own is_sum item rest.1.0)

  mutual
    pub suited : (one : Statement) → Resolves scope one → Shaped one → Suits system setting one
    suited (form.Move line from to) is has = (any-own from is.0, receivers-own to is.1)
    suited (form.Arithmetic line a) is has = arithmetic-own a is
    suited (form.OnSizeError' line a n first m second) is has = (arithmetic-own a is.0, row-suited first is.1 has.0, row-suited second is.2 has.1)
    suited (form.If' line cond n first m second) is has = (cond-own cond is.0, row-suited first is.1 has.0, row-suited second is.2 has.1)
    suited (form.Perform line name) is has = is.0
    suited (form.PerformTimes line name times) is has = (is.0, amount-own times is.1.0)
    suited (form.PerformUntil line name cond) is has = (is.0, cond-own cond is.1)
    suited (form.PerformOneOf line names position) is has =
        let parts = paragraphs-own names (place.Position position ∷ []) is in (parts.0, item-own is_number_variable position parts.1.0)
    suited (form.DisplayBase line name) is has = has
    suited (form.Display line shown) is has = has
    suited (form.Accept line name keys) is has = has
    suited (form.Call line name arguments) is has = has
    suited (form.Send line message class codes) is has = (item-own is_any message is.0, yields-own codes is.1.1)
    suited (form.Receive line into) is has = (item-own is_item into is.0, has)
    suited (form.Reply line from) is has = item-own is_any from is.0
    suited (form.Read line file locking key into) is has = (item-own (is_key is.0.file) key is.0.item, item-own is_item into is.1.0)
    suited (form.ReadNext line file locking key into) is has = (item-own (is_key is.0.file) key is.0.item, item-own is_item into is.1.0)
    suited (form.Write line file from) is has = item-own (is_record is.0.file) from is.0.item
    suited (form.Rewrite line file from) is has = item-own (is_record is.0.file) from is.0.item
    suited (form.Delete line file key) is has = item-own (is_key is.0.file) key is.0.item
    suited (form.Exit line) is has = tt
    suited (form.ExitProgram line) is has = tt
    suited (form.StopRun line) is has = tt
    suited (form.Begin line) is has = tt
    suited (form.End line) is has = tt
    suited (form.Abort line) is has = tt
    suited (form.Restart line) is has = tt

    pub row-suited : {n : _} (row : Row_of-Statement n) → RowResolves scope row → RowShaped row → RowSuits system setting row
    row-suited end_of-Statement is has = tt
    row-suited (more_of-Statement one rest) is has = (suited one is.0 has.0, row-suited rest is.1 has.1)
