-- What a statement does, by recursion on the tree.
use Rattle.std.specs.Prelude.{ℕ, Bool, true, false, List, [], ◌∷◌, map, Option, Some, None}
use Rattle.pw_words.specs.Words.{Word}
use Rattle.pw_forms.specs.declared.statement.Statement.{Statement}
use Rattle.pw_forms.specs.declared.statement.Statement as form
use Rattle.pw_forms.specs.declared.statement.Statement.{Row_of-Statement, end_of-Statement, more_of-Statement}
use Rattle.pw_forms.specs.declared.operand.Operand.{Operand}
use Rattle.pw_code.specs.declared.file.FileOp.TheVariants.{Write, Rewrite}
use Rattle.pw_tree_meaning.specs.Program.{screen_named}
use Rattle.pw_tree_meaning.specs.State.{ProgramState, Out, Goes, Leaves, then_do, faults, statement_counted}
use Rattle.pw_tree_meaning.specs.Setting.{Setting}
use Rattle.pw_tree_meaning.specs.Operands.{spot_in, with_operand, with_operands}
use Rattle.pw_tree_meaning.specs.Moves.{moves}
use Rattle.pw_tree_meaning.specs.Arithmetic.{arithmetic_on}
use Rattle.pw_tree_meaning.specs.Conditions.{holds}
use Rattle.pw_tree_meaning.specs.Screens.{display_table, display, accept}
use Rattle.pw_tree_meaning.specs.Sends.{send, begin, end, abort, restart, stop}
use Rattle.pw_tree_meaning.specs.Files.{read, read_next, write_by, delete, receive, reply}
use Rattle.pw_tree_meaning.specs.Performs.{perform_times, perform_until, perform_one_of, call_program}

-- MOVE from TO to ..
abbrev pub move_all : Setting → Operand → List Operand → ProgramState → Out
move_all setting from to s =
    with_operand setting.program from s (λ source.
    with_operands setting.program to s (λ targets.
    Goes (record s { store = moves source (map spot_in targets) s.store })))

-- the branches of an IF
abbrev pub branch : Option Bool → (ProgramState → Out) → (ProgramState → Out) → ProgramState → Out
branch None first second s = faults 203 s
branch (Some true) first second s = first s
branch (Some false) first second s = second s

-- perform: one turn of a paragraph. call: a program of a number with its arguments, in a state of
-- its own store.
module _ (setting : Setting) (perform : Word → ProgramState → Out)
    (call : ℕ → List (List ℕ) → ProgramState → Out) where
  abbrev mutual
    -- a statement begins, which counts one, and does what its form says
    pub statement : Statement → ProgramState → Out
    statement (form.Move line from to) = statement_counted (move_all setting from to)
    statement (form.Arithmetic line a) = statement_counted (arithmetic_on setting.program a Goes Goes)
    statement (form.OnSizeError' line a n first m second) =
        statement_counted (arithmetic_on setting.program a (branch_row first) (branch_row second))
    statement (form.If' line cond n first m second) =
        statement_counted (λ s.
        branch (holds setting.program s cond) (branch_row first) (branch_row second) s)
    statement (form.Perform line paragraph) = statement_counted (statement_counted (perform paragraph))
    statement (form.PerformTimes line paragraph times) =
        statement_counted (perform_times setting (perform paragraph) times)
    statement (form.PerformUntil line paragraph cond) =
        statement_counted (perform_until setting (perform paragraph) cond)
    statement (form.PerformOneOf line paragraphs position) =
        statement_counted (perform_one_of setting perform paragraphs position)
    statement (form.Exit line) = statement_counted Goes
    statement (form.ExitProgram line) = statement_counted Leaves
    statement (form.StopRun line) = statement_counted (stop setting)
    statement (form.DisplayBase line screen) =
        statement_counted (display_table true (screen_named setting.program screen))
    statement (form.Display line shown) = statement_counted (display setting shown)
    statement (form.Accept line screen keys) = statement_counted (accept setting screen keys)
    statement (form.Call line program arguments) =
        statement_counted (call_program setting call program arguments)
    statement (form.Send line message class codes) = statement_counted (send setting message class codes)
    statement (form.Begin line) = statement_counted begin
    statement (form.End line) = statement_counted end
    statement (form.Abort line) = statement_counted abort
    statement (form.Restart line) = statement_counted restart
    statement (form.Receive line into) = statement_counted (receive setting into)
    statement (form.Reply line from) = statement_counted (reply setting from)
    statement (form.Read line file locking key into) = statement_counted (read setting file locking key into)
    statement (form.ReadNext line file locking after into) =
        statement_counted (read_next setting file locking after into)
    statement (form.Write line file from) = statement_counted (write_by setting Write file from)
    statement (form.Rewrite line file from) = statement_counted (write_by setting Rewrite file from)
    statement (form.Delete line file key) = statement_counted (delete setting file key)

    -- the statements of a branch, one after the other
    pub branch_row : {n : _} → Row_of-Statement n → ProgramState → Out
    branch_row end_of-Statement s = Goes s
    branch_row (more_of-Statement one rest) s = then_do (statement one s) (branch_row rest)

  -- the statements of a paragraph, one after the other
  abbrev pub body : List Statement → ProgramState → Out
  body [] s = Goes s
  body (one ∷ rest) s = then_do (statement one s) (body rest)
