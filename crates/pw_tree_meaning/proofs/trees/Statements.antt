-- What statements do is a tree, by induction on them.
use Rattle.std.proofs.Common.{◌≡◌, ℕ, Bool, true, false, List, [], ◌∷◌, Some, None}
use Rattle.pw_words.specs.Words.{Word}
use Rattle.pw_forms.specs.declared.operand.Operand.{Operand}
use Rattle.pw_forms.specs.declared.statement.Statement.{Statement}
use Rattle.pw_forms.specs.declared.statement.Statement as form
use Rattle.pw_forms.specs.declared.statement.Statement.{Row_of-Statement, end_of-Statement, more_of-Statement}
use Rattle.pw_code.specs.declared.file.FileOp.{FileOp}
use Rattle.pw_code.specs.declared.file.FileOp.TheVariants.{Read, Next, Write, Rewrite, Delete, ReadLock, NextLock}
use Rattle.pw_code.specs.declared.verb.Verb.TheVariants as verb
use Rattle.pw_tree_meaning.specs.Program.{Program, screen_named, class_number}
use Rattle.pw_tree_meaning.specs.Setting.{Setting}
use Rattle.pw_tree_meaning.specs.State.{ProgramState, Out, Goes, Leaves, statement_counted}
use Rattle.pw_tree_meaning.specs.Operands.{ResolvedOperand, operand_taken, spot_in, chars_in}
use Rattle.pw_tree_meaning.specs.Files.{read_by, read, read_next, write_by, delete, receive, reply, call_by_key, call_by_record}
use Rattle.pw_tree_meaning.specs.Performs.{perform_times, perform_until, perform_one_of, call_program}
use Rattle.pw_tree_meaning.specs.Arithmetic.{arithmetic_on}
use Rattle.pw_tree_meaning.specs.Conditions.{holds}
use Rattle.pw_tree_meaning.specs.Screens.{display_table, display, accept}
use Rattle.pw_tree_meaning.specs.Sends.{send, begin, end, abort, restart, stop}
use Rattle.pw_tree_meaning.specs.Statements.{move_all, branch, statement, branch_row, body}
use Rattle.std.specs.Prelude.{if◌then◌else◌}
use Rattle.pw_tree_meaning.proofs.trees.Trees.{Rules, Behaves, Steps}
use Rattle.pw_tree_meaning.proofs.trees.Found.{found-here, found-left, IsAt-own, counted-behaves, counted-steps, then-behaves}
use Rattle.pw_tree_meaning.proofs.trees.Taken.{found-operand}
use Rattle.pw_tree_meaning.proofs.trees.Forms.{own, by_itself, arithmetic-behaves, branch-behaves, move-behaves, times-behave, perform_until-behaves, one_of-behaves, stop-behaves, table-behaves, display-behaves, accept-behaves, send-behaves, begin-behaves, end-behaves, abort-behaves, restart-behaves, receive-behaves, reply-behaves, operates-found}

module _ (r : Rules) (program : Program) (first : ℕ) (is_server : Bool) (message : List ℕ) where
  abbrev here : Setting
  here = own r program first is_server message

  abbrev here_alone : Setting
  here_alone = by_itself r program first is_server message

  -- each operation of an operand that was taken is right
  abbrev pub KeyRight : FileOp → Word → Operand → Type 0
  KeyRight op file key =
      (s : ProgramState) (found : ResolvedOperand) → r.Fits s.store → operand_taken program s key ≡ Some found
      → r.Right (verb.File (call_by_key here op file (chars_in found s.store)))

  abbrev pub RecordRight : FileOp → Word → Operand → Type 0
  RecordRight op file from =
      (s : ProgramState) (found : ResolvedOperand) → r.Fits s.store → operand_taken program s from ≡ Some found
      → r.Right (verb.File (call_by_record here op file (chars_in found s.store)))

  -- what statements ask is right
  abbrev mutual
    pub Suited : Statement → Type 0
    Suited (form.OnSizeError' line a n first m second) = SuitedRow first × SuitedRow second
    Suited (form.If' line cond n first m second) = SuitedRow first × SuitedRow second
    Suited (form.StopRun line) = is_server ≡ false → r.Right verb.Stop
    Suited (form.DisplayBase line screen) = r.Right verb.Show
    Suited (form.Display line shown) = r.Right verb.Show
    Suited (form.Accept line screen keys) = ((number : ℕ) → r.Right (verb.Accept number)) × r.Right verb.Show
    Suited (form.Send line sent class codes) = (chars : List ℕ) → r.Right (verb.Send (class_number r.deck class) chars)
    Suited (form.Begin line) = r.Right verb.Begin
    Suited (form.End line) = r.Right verb.End
    Suited (form.Abort line) = r.Right verb.Drop
    Suited (form.Restart line) = r.Right verb.Redo
    Suited (form.Reply line from) = (chars : List ℕ) → r.Right (verb.Reply chars)
    Suited (form.Read line file locking key into) = KeyRight (if locking then ReadLock else Read) file key
    Suited (form.ReadNext line file locking after into) = KeyRight (if locking then NextLock else Next) file after
    Suited (form.Write line file from) = RecordRight Write file from
    Suited (form.Rewrite line file from) = RecordRight Rewrite file from
    Suited (form.Delete line file key) = KeyRight Delete file key
    Suited _ = Unit {0}

    pub SuitedRow : {n : _} → Row_of-Statement n → Type 0
    SuitedRow end_of-Statement = Unit {0}
    SuitedRow (more_of-Statement one rest) = Suited one × SuitedRow rest

  abbrev pub SuitedBody : List Statement → Type 0
  SuitedBody [] = Unit {0}
  SuitedBody (one ∷ rest) = Suited one × SuitedBody rest

  -- ---- file operations

  read_by-steps : (op : FileOp) (file : Word) (key into : Operand) → KeyRight op file key
      → Steps r (read_by here op file key into) (read_by here_alone op file key into)
  read_by-steps op file key into right s ok count below most =
      found-operand r count s.in_unit program s key _ _ (λ found e1.
      found-operand r count s.in_unit program s into _ _ (λ item e2.
      operates-found r program first is_server message (call_by_key here op file (chars_in found s.store)) (Some (spot_in item)) s
      (right s found ok e1) ok count below most))

  write_by-steps : (op : FileOp) (file : Word) (from : Operand) → RecordRight op file from
      → Steps r (write_by here op file from) (write_by here_alone op file from)
  write_by-steps op file from right s ok count below most =
      found-operand r count s.in_unit program s from _ _ (λ found e1.
      operates-found r program first is_server message (call_by_record here op file (chars_in found s.store)) None s
      (right s found ok e1) ok count below most)

  delete-steps : (file : Word) (key : Operand) → KeyRight Delete file key
      → Steps r (delete here file key) (delete here_alone file key)
  delete-steps file key right s ok count below most =
      found-operand r count s.in_unit program s key _ _ (λ found e1.
      operates-found r program first is_server message (call_by_key here Delete file (chars_in found s.store)) None s
      (right s found ok e1) ok count below most)

  -- ---- all statements

  module _ (perform perform' : Word → ProgramState → Out) (performs : (name : Word) → Behaves r (perform name) (perform' name))
      (call call' : ℕ → List (List ℕ) → ProgramState → Out)
      (calls : (name : Word) (arguments : List Operand)
      → Behaves r (call_program here call name arguments) (call_program here_alone call' name arguments)) where
    mutual
      pub statement-behaves : (one : Statement) → Suited one
          → Behaves r (statement here perform call one) (statement here_alone perform' call' one)
      statement-behaves (form.Move line from to) fit = counted-behaves r (move_all here from to) (move_all here_alone from to) (move-behaves r program first is_server message from to)
      statement-behaves (form.Arithmetic line a) fit =
          counted-behaves r (arithmetic_on program a Goes Goes) (arithmetic_on program a Goes Goes) (arithmetic-behaves r Goes Goes Goes Goes (λ s ok. found-here r s.count s.in_unit s (IsAt-own r s ok))
          (λ s ok. found-here r s.count s.in_unit s (IsAt-own r s ok)) program a)
      statement-behaves (form.OnSizeError' line a n first m second) fit =
          counted-behaves r (arithmetic_on program a (branch_row here perform call first) (branch_row here perform call second)) (arithmetic_on program a (branch_row here_alone perform' call' first) (branch_row here_alone perform' call' second)) (arithmetic-behaves r (branch_row here perform call first) (branch_row here_alone perform' call' first) (branch_row here perform call second) (branch_row here_alone perform' call' second) (row-behaves first fit.0) (row-behaves second fit.1) program a)
      statement-behaves (form.If' line cond n first m second) fit =
          counted-behaves r (λ s. branch (holds program s cond) (branch_row here perform call first) (branch_row here perform call second) s) (λ s. branch (holds program s cond) (branch_row here_alone perform' call' first) (branch_row here_alone perform' call' second) s) (branch-behaves r program cond (branch_row here perform call first) (branch_row here_alone perform' call' first) (branch_row here perform call second) (branch_row here_alone perform' call' second) (row-behaves first fit.0) (row-behaves second fit.1))
      statement-behaves (form.Perform line paragraph) fit =
          counted-behaves r (statement_counted (perform paragraph)) (statement_counted (perform' paragraph)) (counted-behaves r (perform paragraph) (perform' paragraph) (performs paragraph))
      statement-behaves (form.PerformTimes line paragraph times) fit =
          counted-behaves r (perform_times here (perform paragraph) times) (perform_times here_alone (perform' paragraph) times) (times-behave r program first is_server message (perform paragraph) (perform' paragraph) times (performs paragraph))
      statement-behaves (form.PerformUntil line paragraph cond) fit =
          counted-behaves r (perform_until here (perform paragraph) cond) (perform_until here_alone (perform' paragraph) cond) (perform_until-behaves r program first is_server message (perform paragraph) (perform' paragraph) cond (performs paragraph))
      statement-behaves (form.PerformOneOf line paragraphs position) fit =
          counted-behaves r (perform_one_of here perform paragraphs position) (perform_one_of here_alone perform' paragraphs position) (one_of-behaves r program first is_server message perform perform' paragraphs position performs)
      statement-behaves (form.Exit line) fit = counted-behaves r Goes Goes (λ s ok. found-here r s.count s.in_unit s (IsAt-own r s ok))
      statement-behaves (form.ExitProgram line) fit = counted-behaves r Leaves Leaves (λ s ok. found-left r s.count s.in_unit s (IsAt-own r s ok))
      statement-behaves (form.StopRun line) fit = counted-behaves r (stop here) (stop here_alone) (stop-behaves r program first is_server message fit)
      statement-behaves (form.DisplayBase line screen) fit = counted-behaves r (display_table true (screen_named program screen)) (display_table true (screen_named program screen)) (table-behaves r program first is_server message fit true (screen_named program screen))
      statement-behaves (form.Display line shown) fit = counted-behaves r (display here shown) (display here_alone shown) (display-behaves r program first is_server message fit shown)
      statement-behaves (form.Accept line screen keys) fit = counted-behaves r (accept here screen keys) (accept here_alone screen keys) (accept-behaves r program first is_server message fit.0 fit.1 screen keys)
      statement-behaves (form.Call line name arguments) fit = counted-behaves r (call_program here call name arguments) (call_program here_alone call' name arguments) (calls name arguments)
      statement-behaves (form.Send line sent class codes) fit = counted-behaves r (send here sent class codes) (send here_alone sent class codes) (send-behaves r program first is_server message sent class codes fit)
      statement-behaves (form.Begin line) fit = counted-behaves r begin begin (begin-behaves r program first is_server message fit)
      statement-behaves (form.End line) fit = counted-behaves r end end (end-behaves r program first is_server message fit)
      statement-behaves (form.Abort line) fit = counted-behaves r abort abort (abort-behaves r program first is_server message fit)
      statement-behaves (form.Restart line) fit = counted-behaves r restart restart (restart-behaves r program first is_server message fit)
      statement-behaves (form.Receive line into) fit = counted-behaves r (receive here into) (receive here_alone into) (receive-behaves r program first is_server message into)
      statement-behaves (form.Reply line from) fit = counted-behaves r (reply here from) (reply here_alone from) (reply-behaves r program first is_server message from fit)
      statement-behaves (form.Read line file locking key into) fit = counted-steps r (read here file locking key into) (read here_alone file locking key into) (read_by-steps (if locking then ReadLock else Read) file key into fit)
      statement-behaves (form.ReadNext line file locking after into) fit = counted-steps r (read_next here file locking after into) (read_next here_alone file locking after into) (read_by-steps (if locking then NextLock else Next) file after into fit)
      statement-behaves (form.Write line file from) fit = counted-steps r (write_by here Write file from) (write_by here_alone Write file from) (write_by-steps Write file from fit)
      statement-behaves (form.Rewrite line file from) fit = counted-steps r (write_by here Rewrite file from) (write_by here_alone Rewrite file from) (write_by-steps Rewrite file from fit)
      statement-behaves (form.Delete line file key) fit = counted-steps r (delete here file key) (delete here_alone file key) (delete-steps file key fit)

      pub row-behaves : {n : _} → (row : Row_of-Statement n) → SuitedRow row
          → Behaves r (branch_row here perform call row) (branch_row here_alone perform' call' row)
      row-behaves end_of-Statement fit = λ s ok. found-here r s.count s.in_unit s (IsAt-own r s ok)
      row-behaves (more_of-Statement one rest) fit = then-behaves r (statement here perform call one) (statement here_alone perform' call' one) (branch_row here perform call rest) (branch_row here_alone perform' call' rest) (statement-behaves one fit.0) (row-behaves rest fit.1)

    -- each statement of a paragraph is right
    pub body-behaves : (statements : List Statement) → SuitedBody statements
        → Behaves r (body here perform call statements) (body here_alone perform' call' statements)
    body-behaves [] fit = λ s ok. found-here r s.count s.in_unit s (IsAt-own r s ok)
    body-behaves (one ∷ rest) fit = then-behaves r (statement here perform call one) (statement here_alone perform' call' one) (body here perform call rest) (body here_alone perform' call' rest) (statement-behaves one fit.0) (body-behaves rest fit.1)
