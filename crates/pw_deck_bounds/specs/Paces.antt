-- Whether a requester goes on by itself: how many answers in a row it takes that are no entries.
use Rattle.std.specs.Prelude.{ℕ, zero, suc, ◌+◌, ◌*◌, ◌==◌, ◌||◌, ◌&&◌, Bool, true, false, max, List, [], ◌∷◌, length, Option, Some, None, Result, Ok, Err, if◌then◌else◌}
use Rattle.pw_words.specs.Words.{Word}
use Rattle.pw_code.specs.declared.field.ScreenTable.{ScreenTable}
use Rattle.pw_code.specs.declared.system.TermInfo.{TermInfo}
use Rattle.pw_forms.specs.declared.operand.Operand.{Operand}
use Rattle.pw_forms.specs.declared.operand.Operand.TheVariants as operands
use Rattle.pw_forms.specs.declared.statement.Paragraph.{Paragraph}
use Rattle.pw_forms.specs.declared.statement.Statement.{Statement}
use Rattle.pw_forms.specs.declared.statement.Statement as form
use Rattle.pw_forms.specs.declared.statement.Statement.{Row_of-Statement, end_of-Statement, more_of-Statement}
use Rattle.pw_tree_meaning.specs.Program.{DeckModel, Program, body_named, program_at, program_number, screen_named}
use Rattle.pw_tree_meaning.specs.Runs.{most_calls, most_performs}
use Rattle.pw_tree_meaning.specs.Values.{number_in, whole_part}

-- Of statements: the most answers in a row that are no entries, and whether control never comes
-- behind them without an entry.
pub record Pace : Type 0 where
  pub row : ℕ
  pub enters : Bool

-- a PERFORM that may go on by itself: its program, its paragraph and its line
pub record OpenLoop : Type 0 where
  pub program : Word
  pub paragraph : Word
  pub line : ℕ

-- no answer is taken
abbrev pub silent : Pace
silent = record { row = 0; enters = false }

-- one answer is taken that is no entry
abbrev pub asking : Pace
asking = record { row = 1; enters = false }

-- an entry is taken; behind a wrong one an advisory is shown
abbrev pub entering : Pace
entering = record { row = 1; enters = true }

-- control does not come behind it
abbrev pub final : Pace
final = record { row = 0; enters = true }

-- one after the other
abbrev pub followed : Pace → Pace → Pace
followed a b = record { row = a.row + b.row; enters = a.enters || b.enters }

-- one or the other
abbrev pub either : Pace → Pace → Pace
either a b = record { row = max a.row b.row; enters = a.enters && b.enters }

-- perhaps, so that control may come behind it without an entry
abbrev pub perhaps : Pace → Pace
perhaps a = record { row = a.row; enters = false }

-- two paces together, or the first loop that may go on by itself
abbrev pub together : (Pace → Pace → Pace) → Result Pace OpenLoop → Result Pace OpenLoop → Result Pace OpenLoop
together join (Err loop) b = Err loop
together join (Ok a) (Err loop) = Err loop
together join (Ok a) (Ok b) = Ok (join a b)

-- of what may be left out
abbrev pub optional : Result Pace OpenLoop → Result Pace OpenLoop
optional (Err loop) = Err loop
optional (Ok a) = Ok (perhaps a)

-- Of turns of a paragraph. Where they take nothing but entries, or each of them an entry, no row is
-- longer than two turns; else it is as `otherwise` says.
abbrev pub of_turns : (Pace → Result Pace OpenLoop) → Result Pace OpenLoop → Result Pace OpenLoop
of_turns otherwise (Err loop) = Err loop
of_turns otherwise (Ok a) =
    if a.row == 0 then Ok silent
    else if a.enters then Ok (record { row = a.row + a.row; enters = false })
    else otherwise a

-- so many turns: what a literal says
abbrev pub told_turns : Operand → Option ℕ
told_turns (operands.Number spelling) = Some (whole_part (number_in spelling))
told_turns _ = None

-- turns that are counted by a literal end by themselves
abbrev pub counted_turns : Option ℕ → OpenLoop → Pace → Result Pace OpenLoop
counted_turns (Some turns) loop a = Ok (record { row = turns * a.row; enters = false })
counted_turns None loop a = Err loop

-- an ACCEPT of a screen that is there
abbrev pub accepting : Option ScreenTable → Pace
accepting None = silent
accepting (Some table) = entering

-- one paragraph of several
abbrev pub one_of : (Word → Result Pace OpenLoop) → List Word → Result Pace OpenLoop
one_of perform [] = Ok silent
one_of perform (name ∷ names) = together either (perform name) (one_of perform names)

-- perform: the pace of a paragraph. call: that of a program. name: the paragraph of the statements.
module _ (program : Program) (perform call : Word → Result Pace OpenLoop) (name : Word) where
  -- a loop at a line
  abbrev loop_at : ℕ → OpenLoop
  loop_at line = record { program = program.name; paragraph = name; line = line }

  abbrev mutual
    -- the pace of a statement
    pub statement_pace : Statement → Result Pace OpenLoop
    statement_pace (form.Move line from to) = Ok silent
    statement_pace (form.Arithmetic line a) = Ok silent
    statement_pace (form.OnSizeError' line a n first m second) =
        together either (row_pace first) (row_pace second)
    statement_pace (form.If' line cond n first m second) =
        together either (row_pace first) (row_pace second)
    statement_pace (form.Perform line paragraph) = perform paragraph
    statement_pace (form.PerformTimes line paragraph times) =
        of_turns (counted_turns (told_turns times) (loop_at line)) (perform paragraph)
    statement_pace (form.PerformUntil line paragraph cond) =
        of_turns (counted_turns None (loop_at line)) (perform paragraph)
    statement_pace (form.PerformOneOf line paragraphs position) = optional (one_of perform paragraphs)
    statement_pace (form.Exit line) = Ok silent
    statement_pace (form.ExitProgram line) = Ok final
    statement_pace (form.StopRun line) = Ok final
    statement_pace (form.DisplayBase line screen) = Ok asking
    statement_pace (form.Display line shown) = Ok asking
    statement_pace (form.Accept line screen keys) = Ok (accepting (screen_named program screen))
    statement_pace (form.Call line callee arguments) = optional (call callee)
    statement_pace (form.Send line message class codes) = Ok asking
    statement_pace (form.Begin line) = Ok asking
    statement_pace (form.End line) = Ok asking
    statement_pace (form.Abort line) = Ok asking
    statement_pace (form.Restart line) = Ok final
    statement_pace (form.Receive line into) = Ok silent
    statement_pace (form.Reply line from) = Ok final
    statement_pace (form.Read line file locking key into) = Ok asking
    statement_pace (form.ReadNext line file locking after into) = Ok asking
    statement_pace (form.Write line file from) = Ok asking
    statement_pace (form.Rewrite line file from) = Ok asking
    statement_pace (form.Delete line file key) = Ok asking

    -- that of a branch
    pub row_pace : {n : _} → Row_of-Statement n → Result Pace OpenLoop
    row_pace end_of-Statement = Ok silent
    row_pace (more_of-Statement one rest) = together followed (statement_pace one) (row_pace rest)

  -- that of the statements of a paragraph
  abbrev pub body_pace : List Statement → Result Pace OpenLoop
  body_pace [] = Ok silent
  body_pace (one ∷ rest) = together followed (statement_pace one) (body_pace rest)

-- a paragraph that is performed; d: how many more PERFORMs may be active
abbrev pub performed_pace : ℕ → Program → (Word → Result Pace OpenLoop) → Word → Result Pace OpenLoop
performed_pace zero program call name = Ok final
performed_pace (suc d) program call name =
    body_pace program (performed_pace d program call) call name (body_named program name)

-- the paragraphs from one on
abbrev pub flow_pace : Program → (perform call : Word → Result Pace OpenLoop) → List Paragraph → Result Pace OpenLoop
flow_pace program perform call [] = Ok silent
flow_pace program perform call (paragraph ∷ paragraphs) =
    together followed (body_pace program perform call paragraph.name paragraph.body)
    (flow_pace program perform call paragraphs)

-- a program from its first paragraph on
abbrev pub program_pace : Program → (Word → Result Pace OpenLoop) → Result Pace OpenLoop
program_pace program call =
    flow_pace program (performed_pace most_performs program call) call program.paragraphs

-- a program that is called, by its number; n: how many more CALLs may be active
abbrev pub called_pace : ℕ → DeckModel → ℕ → Result Pace OpenLoop
called_pace zero deck q = Ok final
called_pace (suc n) deck q =
    program_pace (program_at deck.programs q) (λ name. called_pace n deck (program_number deck name))

-- the first program of a terminal
abbrev pub requester_pace : DeckModel → ℕ → Result Pace OpenLoop
requester_pace deck q = called_pace (suc most_calls) deck q

-- the most answers of a terminal with so many entry lines: a row behind each entry, and one before
abbrev pub answers_within : Pace → ℕ → ℕ
answers_within a entries = a.row + entries * (a.row + 1)

-- the larger of two bounds, or the first loop that may go on by itself
abbrev pub larger : ℕ → Result Pace OpenLoop → Result ℕ OpenLoop → Result ℕ OpenLoop
larger entries (Err loop) rest = Err loop
larger entries (Ok a) (Err loop) = Err loop
larger entries (Ok a) (Ok most) = Ok (max (answers_within a entries) most)

-- the most answers that any of these terminals takes
abbrev pub most_answers : DeckModel → List TermInfo → Result ℕ OpenLoop
most_answers deck [] = Ok 0
most_answers deck (terminal ∷ terminals) =
    larger (length terminal.entries) (requester_pace deck terminal.program) (most_answers deck terminals)

-- whether the programs of a deck end: the most answers on a path of its terminals, or the first
-- loop that may go on by itself
abbrev pub programs_end : DeckModel → Result ℕ OpenLoop
programs_end deck = most_answers deck deck.terminals
