-- The forms of statements: each reads what stands behind its verb, to the end of the piece.
use Rattle.std.specs.Prelude.{ℕ, List, [], Bool, true, false, nat_le, length, codes, Option, Some, None, if◌then◌else◌}
use Rattle.pw_words.specs.Words.{Word}
use Rattle.pw_forms.specs.declared.mark.TransactionVerb.{TransactionVerb}
use Rattle.pw_forms.specs.declared.mark.TransactionVerb.TheVariants as transactions
use Rattle.pw_forms.specs.declared.mark.TerminalVerb.{TerminalVerb}
use Rattle.pw_forms.specs.declared.mark.TerminalVerb.TheVariants as terminals
use Rattle.pw_forms.specs.declared.mark.StatementVerb.{StatementVerb}
use Rattle.pw_forms.specs.declared.mark.StatementVerb.TheVariants as verb
use Rattle.pw_forms.specs.declared.operand.Operand.{Operand}
use Rattle.pw_forms.specs.declared.lists.SendCode.{SendCode}
use Rattle.pw_forms.specs.declared.statement.Operation.{Operation}
use Rattle.pw_forms.specs.declared.statement.Operation.TheVariants as operation
use Rattle.pw_forms.specs.declared.statement.ArithmeticForm.{ArithmeticForm}
use Rattle.pw_forms.specs.declared.statement.Statement.{Statement}
use Rattle.pw_forms.specs.declared.statement.Statement.TheVariants as statement
use Rattle.pw_forms.specs.declared.form.Head.TheVariants as head
use Rattle.pw_forms.specs.declared.form.Form.{Form}
use Rattle.pw_forms.specs.declared.form.Form.TheVariants.{Whole, Opens}
use Rattle.pw_forms.specs.Readers.{Reader, ◌>>=◌, ◌>>◌, pure, fails, eats, expects, ends, is_done, some, up_to}
use Rattle.pw_forms.specs.Operands.{operand, name, program_name, key, code}
use Rattle.pw_forms.specs.Conditions.{condition}
use Rattle.pw_forms.specs.FileForms.{file_form}

-- the list is no longer than an ACCEPT or a SEND may have it
unfoldable pub at_most : ℕ → ℕ → Reader (Unit {0})
at_most most count = if nat_le count most then pure tt else fails

-- the most keys of an ACCEPT, and the most codes of a SEND
abbrev pub most : ℕ
most = 9999

-- MOVE any TO item ..
unfoldable pub move_form : ℕ → Reader Form
move_form line = do
  from ← operand
  expects (codes "TO")
  to ← some operand
  pure (Whole (statement.Move line from to))

-- GIVING item, if it comes next
unfoldable pub giving : Reader (Option Operand)
giving = do
  found ← eats (codes "GIVING")
  if found then (do item ← operand; pure (Some item)) else pure None

-- ON SIZE ERROR, if it comes next
unfoldable pub on_size_error : Reader Bool
on_size_error = do
  found ← eats (codes "ON")
  if found then (do expects (codes "SIZE"); expects (codes "ERROR"); pure true) else pure false

-- arithmetic, which ON SIZE ERROR makes one that opens a branch
abbrev pub arithmetic_by : ℕ → Bool → ArithmeticForm → Form
arithmetic_by line true found = Opens (head.OnSizeError line found)
arithmetic_by line false found = Whole (statement.Arithmetic line found)

-- ADD num TO num, SUBTRACT num FROM num, MULTIPLY num BY num, DIVIDE num INTO num,
-- each [GIVING item] [ON SIZE ERROR]
unfoldable pub arithmetic : ℕ → Operation → Word → Reader Form
arithmetic line operation word = do
  first ← operand
  expects word
  second ← operand
  item ← giving
  opens ← on_size_error
  ends
  pure (arithmetic_by line opens
      (record { operation = operation; first = first; second = second; giving = item }))

-- IF cond [THEN]
unfoldable pub if_form : ℕ → Reader Form
if_form line = do
  cond ← condition
  eats (codes "THEN")
  ends
  pure (Opens (head.If line cond))

-- PERFORM p UNTIL cond, behind UNTIL
unfoldable pub perform_until : ℕ → Word → Reader Form
perform_until line paragraph = do
  cond ← condition
  ends
  pure (Whole (statement.PerformUntil line paragraph cond))

-- PERFORM p num TIMES, behind the name
unfoldable pub perform_times : ℕ → Word → Reader Form
perform_times line paragraph = do
  times ← operand
  expects (codes "TIMES")
  ends
  pure (Whole (statement.PerformTimes line paragraph times))

-- PERFORM p, PERFORM p UNTIL cond, PERFORM p num TIMES
unfoldable pub perform_one : ℕ → Reader Form
perform_one line = do
  paragraph ← name
  until ← eats (codes "UNTIL")
  if until then perform_until line paragraph
      else (λ rest.
      if is_done rest then Some (Whole (statement.Perform line paragraph), rest)
      else perform_times line paragraph rest)

-- PERFORM ONE OF p .. DEPENDING ON item, behind ONE
unfoldable pub perform_one_of : ℕ → Reader Form
perform_one_of line = do
  expects (codes "OF")
  paragraphs ← up_to (codes "DEPENDING") name
  expects (codes "ON")
  position ← operand
  ends
  pure (Whole (statement.PerformOneOf line paragraphs position))

-- the four forms of PERFORM
unfoldable pub perform : ℕ → Reader Form
perform line = do
  several ← eats (codes "ONE")
  if several then perform_one_of line else perform_one line

-- EXIT, EXIT PROGRAM
unfoldable pub exit : ℕ → Reader Form
exit line = do
  program ← eats (codes "PROGRAM")
  ends
  pure (Whole (if program then statement.ExitProgram line else statement.Exit line))

-- STOP RUN
unfoldable pub stop : ℕ → Reader Form
stop line = do
  expects (codes "RUN")
  ends
  pure (Whole (statement.StopRun line))

-- DISPLAY BASE screen, behind BASE
unfoldable pub display_base : ℕ → Reader Form
display_base line = do
  screen ← name
  ends
  pure (Whole (statement.DisplayBase line screen))

-- DISPLAY screen, DISPLAY any: the name of a screen reads as that of an item
unfoldable pub display_any : ℕ → Reader Form
display_any line = do
  shown ← operand
  ends
  pure (Whole (statement.Display line shown))

-- the forms of DISPLAY
unfoldable pub display : ℕ → Reader Form
display line = do
  base ← eats (codes "BASE")
  if base then display_base line else display_any line

-- ACCEPT screen UNTIL key ..
unfoldable pub accept : ℕ → Reader Form
accept line = do
  screen ← name
  expects (codes "UNTIL")
  keys ← some key
  at_most most (length keys)
  pure (Whole (statement.Accept line screen keys))

-- USING item .., or nothing
unfoldable pub using : Reader (List Operand)
using = do
  found ← eats (codes "USING")
  if found then some operand else (do ends; pure [])

-- CALL program [USING item ..]
unfoldable pub call : ℕ → Reader Form
call line = do
  program ← program_name
  arguments ← using
  pure (Whole (statement.Call line program arguments))

-- CODE n YIELDS item
unfoldable pub code_clause : Reader SendCode
code_clause = do
  expects (codes "CODE")
  number ← code
  expects (codes "YIELDS")
  item ← operand
  pure (record { number = number; yields = item })

-- SEND item TO class REPLY CODE n YIELDS item [CODE n YIELDS item] ..
unfoldable pub send : ℕ → Reader Form
send line = do
  message ← operand
  expects (codes "TO")
  class ← program_name
  expects (codes "REPLY")
  clauses ← some code_clause
  at_most most (length clauses)
  pure (Whole (statement.Send line message class clauses))

-- the word between the operands
abbrev pub between : Operation → Word
between operation.Add = codes "TO"
between operation.Subtract = codes "FROM"
between operation.Multiply = codes "BY"
between operation.Divide = codes "INTO"

-- the statement of a verb of transactions
abbrev pub transaction : TransactionVerb → ℕ → Statement
transaction transactions.Begin line = statement.Begin line
transaction transactions.End line = statement.End line
transaction transactions.Abort line = statement.Abort line
transaction transactions.Restart line = statement.Restart line

-- BEGIN-TRANSACTION, END-TRANSACTION, ABORT-TRANSACTION, RESTART-TRANSACTION
unfoldable pub transaction_form : TransactionVerb → ℕ → Reader Form
transaction_form found line = do
  ends
  pure (Whole (transaction found line))

-- the form of a verb of requesters
abbrev pub terminal_form : TerminalVerb → ℕ → Reader Form
terminal_form terminals.Accept line = accept line
terminal_form terminals.Call line = call line
terminal_form terminals.Display line = display line
terminal_form terminals.Send line = send line
terminal_form (terminals.Transaction found) line = transaction_form found line

-- the form of a verb, which reads the piece behind it to its end
unfoldable pub form : StatementVerb → ℕ → Reader Form
form verb.Exit line = exit line
form verb.If line = if_form line
form verb.Move line = move_form line
form verb.Perform line = perform line
form verb.Stop line = stop line
form (verb.Arithmetic operation) line = arithmetic line operation (between operation)
form (verb.File found) line = file_form found line
form (verb.Terminal found) line = terminal_form found line
