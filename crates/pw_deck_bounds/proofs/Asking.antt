-- The paces of statements that ask one thing, and of ACCEPT.
use Rattle.std.proofs.Common.{◌≡◌, inl, inr, ℕ, zero, suc, ◌+◌, ◌==◌, ◌<◌, ◌≤◌, Bool, true, false, List, [], ◌∷◌, length, map, if◌then◌else◌, Option, Some, None, Result, Ok, Err, refl, arith}
use Rattle.pw_code.specs.Entry.{EntryLineModel}
use Rattle.pw_code.specs.declared.field.ScreenTable.{ScreenTable}
use Rattle.pw_code.specs.declared.file.FileCall.{FileCall}
use Rattle.pw_code.specs.declared.verb.Verb.TheVariants as verb
use Rattle.pw_code.specs.declared.verb.Answer.{Answer}
use Rattle.pw_code.specs.declared.verb.Answer.TheVariants as answer
use Rattle.pw_data.specs.Store.{joined}
use Rattle.pw_forms.specs.declared.lists.SendCode.{SendCode}
use Rattle.pw_forms.specs.declared.operand.Operand.{Operand}
use Rattle.pw_forms.specs.declared.statement.ArithmeticForm as arithmetic
use Rattle.pw_number.specs.Number.{Number}
use Rattle.pw_number.specs.declared.size_error.SizeError.{SizeError}
use Rattle.pw_picture.specs.Stored.{is_kept, moved}
use Rattle.pw_picture.specs.declared.picture.Picture.{Picture}
use Rattle.pw_terminal.specs.Entries.{check, with_advice}
use Rattle.pw_terminal.specs.Screen.{with_message}
use Rattle.pw_terminal.specs.Shown.{with_screen}
use Rattle.pw_terminal.specs.declared.entries.EntryAnswer.{EntryAnswer}
use Rattle.pw_terminal.specs.declared.entries.EntryAnswer.TheVariants.{BadField, BadKey, Valid}
use Rattle.pw_words.specs.Words.{Word}
use Rattle.pw_tree_meaning.specs.Arithmetic.{arithmetic_on, operated, or_else, receiver_decimals, receiver_of, stored_by, stored_in}
use Rattle.pw_tree_meaning.specs.Files.{call_by_key, call_by_record, delete, file_answered, moved_into, operation_asked, read_by, receive, reply, write_by}
use Rattle.pw_tree_meaning.specs.Moves.{move_text, moves}
use Rattle.pw_tree_meaning.specs.Operands.{chars_in, spot_in, value_in}
use Rattle.pw_tree_meaning.specs.Program.{DeckModel, Program, class_number, program_at, screen_named, screen_number}
use Rattle.pw_tree_meaning.specs.Runs.{setting_of}
use Rattle.pw_tree_meaning.specs.Screens.{accept, accept_by, advised, awaited, display, display_by, display_table, entry_checked, entry_taken, screen_in, shows, store_entered}
use Rattle.pw_tree_meaning.specs.Sends.{abort, after_begin_answer, after_send_answer, begin, end, found_by, outside, restart, send, stop, yielded, yields_of}
use Rattle.pw_tree_meaning.specs.Setting.{Setting}
use Rattle.pw_tree_meaning.specs.State.{Asks, Goes, Out, ProgramState, faults}
use Rattle.pw_tree_meaning.specs.Statements.{move_all}
use Rattle.pw_tree_meaning.specs.Store.{Spot, put_at}
use Rattle.pw_tree_meaning.specs.Values.{number_of}
use Rattle.pw_code.specs.declared.file.FileOp.{FileOp}
use Rattle.pw_code.specs.declared.file.FileOp.TheVariants.{Delete}
use Rattle.pw_tree_meaning.proofs.trees.Trees.{Files, Here, Stuck, Tree, Waits, at, play}
use Rattle.pw_deck_bounds.specs.Paces.{Pace, accepting, asking, entering, final, silent}
use Rattle.pw_deck_bounds.proofs.Walks.{Keeps, Paced, Walks, behind, walks-asks, walks-by, walks-fault, walks-here, walks-operand, walks-operands, walks-stuck}

-- ---- arithmetic

module _ (most : ℕ) (pace : Pace) (on_error else' : ProgramState → Out) (e : Paced most pace on_error) (l : Paced most pace else') where
  kept-by : (b : Bool) (spot : Spot) (chars : List ℕ) (s : ProgramState)
      → Walks most pace (λ answers files. or_else (if b then Some (record (at answers files s) { store = put_at spot chars s.store }) else None) (at answers files s) on_error else')
  kept-by true spot chars s = l (record s { store = put_at spot chars s.store })
  kept-by false spot chars s = e s

  stored-by : (p : Option Picture) (spot : Spot) (n : Number) (s : ProgramState)
      → Walks most pace (λ answers files. or_else (stored_by p spot n (at answers files s)) (at answers files s) on_error else')
  stored-by None spot n s = e s
  stored-by (Some p) spot n s = kept-by (is_kept p n) spot (moved p n) s

  stored-in : (result : Result Number SizeError) (spot : Spot) (s : ProgramState)
      → Walks most pace (λ answers files. or_else (stored_in spot result (at answers files s)) (at answers files s) on_error else')
  stored-in (Ok n) spot s = stored-by spot.picture spot n s
  stored-in (Err error) spot s = e s

  pub paced-arithmetic : (program : Program) (a : arithmetic.ArithmeticForm) → Paced most pace (arithmetic_on program a on_error else')
  paced-arithmetic program a s =
      walks-operand most pace program s a.first _ (λ first e1.
      walks-operand most pace program s a.second _ (λ second e2.
      walks-operand most pace program s (receiver_of a) _ (λ receiver e3.
      stored-in
      (operated a.operation (receiver_decimals (spot_in receiver).picture) (number_of (value_in first s.store)) (number_of (value_in second s.store)))
      (spot_in receiver) s)))

-- ---- ACCEPT

module _ (table : ScreenTable) (keys : List ℕ) (number : ℕ) where
  -- what an entry leads to, where wrong is what follows a wrong one
  abbrev checked_tree : EntryLineModel → EntryAnswer → (ProgramState → Tree) → ProgramState → Tree
  checked_tree line (Valid position) wrong s =
      Here (record s { store = store_entered table.fields line.fields s.store; registers = record s.registers { termination = position } })
  checked_tree line BadKey wrong s = wrong (record s { screen = with_advice BadKey line s.screen })
  checked_tree line (BadField place) wrong s = wrong (record s { screen = with_advice (BadField place) line s.screen })

  abbrev entry_tree : Answer → (ProgramState → Tree) → ProgramState → Tree
  entry_tree (answer.Entry line) wrong s = checked_tree line (check table keys line) wrong s
  entry_tree _ wrong s = Here s

  -- so many answers are looked at
  abbrev awaiting : ℕ → ProgramState → Tree
  awaiting zero s = Waits (verb.Accept number) s (λ a. Stuck (verb.Fault 201) s)
  awaiting (suc n) s =
      Waits (verb.Accept number) s (λ a.
      entry_tree a (λ t. Waits verb.Show t (λ b. awaiting n (record t { count = 0 }))) (record s { count = 0 }))

  -- behind an entry, where what follows a wrong one keeps the pace
  keeps-checked : (wrong : ProgramState → Tree) → ((u : ProgramState) → Keeps entering 0 true (wrong u)) → (line : EntryLineModel) (found : EntryAnswer) (s : ProgramState)
      → Keeps entering 0 true (checked_tree line found wrong s)
  keeps-checked wrong keeps line (Valid position) s = λ is. refl
  keeps-checked wrong keeps line BadKey s = keeps _
  keeps-checked wrong keeps line (BadField place) s = keeps _

  -- each entry ends the row, and one advisory begins the next
  keeps-awaiting : (n taken : ℕ) (entered : Bool) (s : ProgramState) → Keeps entering taken entered (awaiting n s)
  keeps-awaiting zero taken entered s = inl (refl, λ line. tt)
  keeps-awaiting (suc n) taken entered s =
      inl (
        refl,
        λ line. keeps-checked (λ u. Waits verb.Show u (λ b. awaiting n (record u { count = 0 })))
            (λ u. inr (let one : 0 < 1 = omega arith in one, λ b. keeps-awaiting n 1 true (record u { count = 0 }))) line (check table keys line) (record s { count = 0 }),
      )

  plays-checked : (line : EntryLineModel) (found : EntryAnswer) (wrong : ProgramState → Out) (tree : ProgramState → Tree) (s : ProgramState) (answers : List Answer) (files : Files)
      → ((t : ProgramState) → wrong (at answers files t) ≡ play (tree t) answers files)
      → entry_checked table line found wrong (at answers files s) ≡ play (checked_tree line found tree s) answers files
  plays-checked line (Valid position) wrong tree s answers files h = refl
  plays-checked line BadKey wrong tree s answers files h = h _
  plays-checked line (BadField place) wrong tree s answers files h = h _

  plays-entry : (a : Answer) (wrong : ProgramState → Out) (tree : ProgramState → Tree) (s : ProgramState) (answers : List Answer) (files : Files)
      → ((t : ProgramState) → wrong (at answers files t) ≡ play (tree t) answers files)
      → entry_taken table keys a wrong (at answers files s) ≡ play (entry_tree a tree s) answers files
  plays-entry (answer.Entry line) wrong tree s answers files h = plays-checked line (check table keys line) wrong tree s answers files h
  plays-entry _ wrong tree s answers files h = refl

  plays-advised : (n : ℕ) (files : Files)
      → ((t : ProgramState) (rest : List Answer) → length rest ≤ n → awaited table keys (verb.Accept number) rest (at rest files t) ≡ play (awaiting n t) rest files)
      → (t : ProgramState) (answers : List Answer) → length answers ≤ n
      → advised table keys (verb.Accept number) answers (at answers files t) ≡ play (Waits verb.Show t (λ b. awaiting n (record t { count = 0 }))) answers files
  plays-advised n files h t [] low = refl
  plays-advised n files h t (a ∷ answers) low = h (record t { count = 0 }) answers (omega (arith, low))

  plays-awaiting : (n : ℕ) (s : ProgramState) (answers : List Answer) (files : Files) → length answers ≤ n
      → awaited table keys (verb.Accept number) answers (at answers files s) ≡ play (awaiting n s) answers files
  plays-awaiting zero s [] files low = refl
  plays-awaiting zero s (a ∷ answers) files low = absurd (omega (arith, low))
  plays-awaiting (suc n) s [] files low = refl
  plays-awaiting (suc n) s (a ∷ answers) files low =
      plays-entry a (advised table keys (verb.Accept number) answers) (λ t. Waits verb.Show t (λ b. awaiting n (record t { count = 0 })))
      (record s { count = 0 }) answers files
      (λ t. plays-advised n files (λ u rest short. plays-awaiting n u rest files short) t answers (omega (arith, low)))

  paced-awaited : (most : ℕ) (s : ProgramState) → Walks most entering (λ answers files. awaited table keys (verb.Accept number) answers (at answers files s))
  paced-awaited most s = record {
    tree = awaiting most s;
    keeps = keeps-awaiting most 0 false s;
    plays = λ answers files low. plays-awaiting most s answers files low;
  }

module _ (most : ℕ) where
  paced-accept-by : (number : ℕ) (o : Option ScreenTable) (keys : List ℕ) → Paced most (accepting o) (accept_by o keys number)
  paced-accept-by number None keys s = walks-here most s
  paced-accept-by number (Some table) keys s = paced-awaited table keys number most s

  -- ---- screens

  paced-shows : (cells : List ℕ) (s : ProgramState) → Walks most asking (λ answers files. shows cells (at answers files s))
  paced-shows cells s = walks-asks most verb.Show (record s { screen = cells }) (λ _ t. Goes t) (λ a. walks-here most (record s { screen = cells; count = 0 }))

  pub paced-table : (base : Bool) (table : Option ScreenTable) → Paced most asking (display_table base table)
  paced-table base None s = paced-shows s.screen s
  paced-table base (Some table) s = paced-shows (with_screen base (joined s.store) table s.screen) s

  -- ---- transactions

  begun : (a : Answer) (s : ProgramState) → Walks most silent (λ answers files. after_begin_answer a (at answers files s))
  begun (answer.Begun r) s = walks-here most (record s { in_unit = true; registers = record s.registers { restarts = r } })
  begun _ s = walks-here most s

  pub paced-begin : Paced most asking begin
  paced-begin s =
      walks-by most asking s.in_unit (λ answers files. faults 205 (at answers files s)) _ (walks-fault most asking 205 s)
      (walks-asks most verb.Begin s after_begin_answer (λ a. begun a (record s { count = 0 })))

  pub paced-end : Paced most asking end
  paced-end s =
      walks-by most asking s.in_unit _ (λ answers files. faults 206 (at answers files s))
      (walks-asks most verb.End s outside (λ a. walks-here most (record s { count = 0; in_unit = false }))) (walks-fault most asking 206 s)

  pub paced-abort : Paced most asking abort
  paced-abort s =
      walks-by most asking s.in_unit _ (λ answers files. faults 206 (at answers files s))
      (walks-asks most verb.Drop s outside (λ a. walks-here most (record s { count = 0; in_unit = false }))) (walks-fault most asking 206 s)

  pub paced-restart : Paced most final restart
  paced-restart s =
      walks-by most final s.in_unit (λ answers files. Asks verb.Redo (at answers files s)) (λ answers files. faults 206 (at answers files s))
      (walks-stuck most final verb.Redo s tt) (walks-fault most final 206 s)

  -- ---- SEND

  yields : (o : Option (ℕ × Spot)) (text : List ℕ) (s : ProgramState) → Walks most silent (λ answers files. yielded o text (at answers files s))
  yields None text s = walks-fault most silent 204 s
  yields (Some found) text s = walks-here most (move_text text found.1 (record s { registers = record s.registers { termination = found.0 + 1 } }))

  replied : (codes : List SendCode) (items : List Spot) (a : Answer) (s : ProgramState) → Walks most silent (λ answers files. after_send_answer codes items a (at answers files s))
  replied codes items (answer.Replied text) s = yields (found_by codes items text) text s
  replied codes items (answer.Failed code) s = walks-fault most silent code s
  replied codes items _ s = walks-here most s

  module _ (deck : DeckModel) (q : ℕ) where
    abbrev here : Setting
    here = setting_of deck q

    abbrev program : Program
    program = program_at deck.programs q

    pub paced-move : (from : Operand) (to : List Operand) → Paced most silent (move_all here from to)
    paced-move from to s =
        walks-operand most silent program s from _ (λ source e.
        walks-operands most silent program s to _ (λ targets. walks-here most (record s { store = moves source (map spot_in targets) s.store })))

    pub paced-stop : Paced most final (stop here)
    paced-stop s =
        walks-by most final s.in_unit (λ answers files. faults 207 (at answers files s)) (λ answers files. Asks verb.Stop (at answers files s))
        (walks-fault most final 207 s) (walks-stuck most final verb.Stop s tt)

    paced-display-by : (o : Option ScreenTable) (shown : Operand) → Paced most asking (display_by o here shown)
    paced-display-by (Some table) shown s = paced-table false (Some table) s
    paced-display-by None shown s =
        walks-operand most asking program s shown _ (λ found e. paced-shows (with_message (chars_in found s.store) s.screen) s)

    pub paced-display : (shown : Operand) → Paced most asking (display here shown)
    paced-display shown = paced-display-by (screen_in program shown) shown

    pub paced-accept : (name : Word) (keys : List ℕ) → Paced most (accepting (screen_named program name)) (accept here name keys)
    paced-accept name keys = paced-accept-by (here.first + screen_number program name) (screen_named program name) keys

    pub paced-send : (sent : Operand) (class : Word) (codes : List SendCode) → Paced most asking (send here sent class codes)
    paced-send sent class codes s =
        walks-operand most asking program s sent _ (λ found e.
        walks-operands most asking program s (yields_of codes) _ (λ items.
        walks-asks most (verb.Send (class_number deck class) (chars_in found s.store)) s (after_send_answer codes (map spot_in items))
        (λ a. replied codes (map spot_in items) a (record s { count = 0 }))))

    -- ---- the statements of servers, which requesters do not have

    pub paced-receive : (into : Operand) → Paced most silent (receive here into)
    paced-receive into s = walks-operand most silent program s into _ (λ item e. walks-here most (move_text here.message (spot_in item) s))

    pub paced-reply : (from : Operand) → Paced most final (reply here from)
    paced-reply from s = walks-operand most final program s from _ (λ found e. walks-stuck most final (verb.Reply (chars_in found s.store)) s tt)

    moved-by : (b : Bool) (spot : Spot) (content : List ℕ) (s : ProgramState)
        → Walks most silent (λ answers files. Goes (if b then move_text content spot (at answers files s) else at answers files s))
    moved-by true spot content s = walks-here most (move_text content spot s)
    moved-by false spot content s = walks-here most s

    moved-in : (into : Option Spot) (status : ℕ) (content : Option (List ℕ)) (s : ProgramState)
        → Walks most silent (λ answers files. Goes (moved_into into status content (at answers files s)))
    moved-in (Some spot) status (Some content) s = moved-by (status == 0) spot content s
    moved-in (Some spot) status None s = walks-here most s
    moved-in None status (Some content) s = walks-here most s
    moved-in None status None s = walks-here most s

    answered : (into : Option Spot) (a : Answer) (s : ProgramState) → Walks most silent (λ answers files. file_answered into a (at answers files s))
    answered into (answer.FileDone status content) s = moved-in into status content (record s { registers = record s.registers { file_status = status } })
    answered into _ s = walks-here most s

    operated-on : (call : FileCall) (into : Option Spot) (s : ProgramState) → Walks most asking (λ answers files. operation_asked call into answers (at answers files s))
    operated-on call into s = record {
      tree = Waits (verb.File call) s (λ a. (answered into a s).tree);
      keeps = inr (
        let one : 0 < 1 = omega arith in one,
        λ a. behind asking silent asking 0 1 false false (answered into a s).tree refl (omega arith) (λ is. is) (λ is. absurd (cc is)) (answered into a s).keeps,
      );
      plays = by;
    }
      where
        by : (answers : List Answer) (files : Files) → length answers ≤ most
            → operation_asked call into answers (at answers files s) ≡ play (Waits (verb.File call) s (λ a. (answered into a s).tree)) answers files
        by [] files low = refl
        by (a ∷ answers) files low = (answered into a s).plays answers files (omega (arith, low))

    pub paced-read : (op : FileOp) (file : Word) (key into : Operand) → Paced most asking (read_by here op file key into)
    paced-read op file key into s =
        walks-operand most asking program s key _ (λ found e1.
        walks-operand most asking program s into _ (λ item e2. operated-on (call_by_key here op file (chars_in found s.store)) (Some (spot_in item)) s))

    pub paced-write : (op : FileOp) (file : Word) (from : Operand) → Paced most asking (write_by here op file from)
    paced-write op file from s =
        walks-operand most asking program s from _ (λ found e. operated-on (call_by_record here op file (chars_in found s.store)) None s)

    pub paced-delete : (file : Word) (key : Operand) → Paced most asking (delete here file key)
    paced-delete file key s =
        walks-operand most asking program s key _ (λ found e. operated-on (call_by_key here Delete file (chars_in found s.store)) None s)
