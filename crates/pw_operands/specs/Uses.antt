-- What a program names, and which operand stands in which place of its forms.
use Rattle.std.specs.Prelude.{List, [], ◌∷◌, ◌++◌, map, flat_map, Option, Some, None}
use Rattle.pw_words.specs.Words.{Word}
use Rattle.pw_forms.specs.declared.operand.Operand.{Operand}
use Rattle.pw_forms.specs.declared.cond.ComparisonForm.{ComparisonForm}
use Rattle.pw_forms.specs.declared.cond.ComparisonForm.TheVariants as comparisons
use Rattle.pw_forms.specs.declared.cond.ConditionForm.{ConditionForm}
use Rattle.pw_forms.specs.declared.statement.ArithmeticForm.{ArithmeticForm}
use Rattle.pw_forms.specs.declared.statement.Statement.{Statement}
use Rattle.pw_forms.specs.declared.statement.Statement as form

-- a name, or an operand in its place
pub data Use : Type 0 where
  -- names of a paragraph, a screen, a program and a class
  Paragraph : (name : Word) → Use
  Screen : (name : Word) → Use
  Program : (name : Word) → Use
  Class : (name : Word) → Use
  -- an item or register, a literal, SPACES or ZEROS
  Any : (operand : Operand) → Use
  -- a screen, or any of these
  Shown : (operand : Operand) → Use
  -- a Number or a number literal
  Amount : (operand : Operand) → Use
  -- a Number whose value is a position
  Position : (operand : Operand) → Use
  -- an item or register whose characters are sent
  Sent : (operand : Operand) → Use
  -- an item that receives, and a Number that receives
  Receiver : (operand : Operand) → Use
  Sum : (operand : Operand) → Use
  -- a key of a file, and a record of a file
  Key : (file : Word) → (operand : Operand) → Use
  Record : (file : Word) → (operand : Operand) → Use

-- the second operand of arithmetic receives, or the item of GIVING
abbrev pub result_uses : Operand → Option Operand → List Use
result_uses second None = Sum second ∷ []
result_uses second (Some item) = Amount second ∷ Sum item ∷ []

-- first TO second, FROM second, BY second or INTO second, with GIVING item
abbrev pub arithmetic_uses : ArithmeticForm → List Use
arithmetic_uses arithmetic =
    Amount arithmetic.first ∷ result_uses arithmetic.second arithmetic.giving

-- left op right, or operand NUMERIC
abbrev pub comparison_uses : ComparisonForm → List Use
comparison_uses (comparisons.Compare left negated operator right) = Any left ∷ Any right ∷ []
comparison_uses (comparisons.Numeric operand negated) = Any operand ∷ []

-- comparisons joined by AND and OR
abbrev pub cond_uses : ConditionForm → List Use
cond_uses cond = flat_map (λ all. flat_map comparison_uses all) cond.any

-- what a statement names and works on, form by form; not what the statements of its branches do
abbrev pub uses : Statement → List Use
uses (form.Move line from to) = Any from ∷ map Receiver to
uses (form.Arithmetic line arithmetic) = arithmetic_uses arithmetic
uses (form.OnSizeError' line arithmetic n first m second) = arithmetic_uses arithmetic
uses (form.If' line cond n first m second) = cond_uses cond
uses (form.Perform line paragraph) = Paragraph paragraph ∷ []
uses (form.PerformTimes line paragraph times) = Paragraph paragraph ∷ Amount times ∷ []
uses (form.PerformUntil line paragraph cond) = Paragraph paragraph ∷ cond_uses cond
uses (form.PerformOneOf line paragraphs position) =
    map Paragraph paragraphs ++ Position position ∷ []
uses (form.Exit line) = []
uses (form.ExitProgram line) = []
uses (form.StopRun line) = []
uses (form.DisplayBase line screen) = Screen screen ∷ []
uses (form.Display line shown) = Shown shown ∷ []
uses (form.Accept line screen keys) = Screen screen ∷ []
uses (form.Call line program arguments) = Program program ∷ map Receiver arguments
uses (form.Send line message class codes) =
    Sent message ∷ Class class ∷ map (λ code. Receiver code.yields) codes
uses (form.Begin line) = []
uses (form.End line) = []
uses (form.Abort line) = []
uses (form.Restart line) = []
uses (form.Receive line into) = Receiver into ∷ []
uses (form.Reply line from) = Sent from ∷ []
uses (form.Read line file locking key into) = Key file key ∷ Receiver into ∷ []
uses (form.ReadNext line file locking after into) = Key file after ∷ Receiver into ∷ []
uses (form.Write line file from) = Record file from ∷ []
uses (form.Rewrite line file from) = Record file from ∷ []
uses (form.Delete line file key) = Key file key ∷ []
