-- What each form of a statement does is a tree.
use Rattle.std.proofs.Common.{◌≡◌, ℕ, ◌+◌, ◌==◌, ◌<◌, ◌≤◌, Bool, true, false, List, [], ◌∷◌, length, map, if◌then◌else◌, Option, Some, None, Result, Ok, Err, refl, ap, arith}
use Rattle.pw_words.specs.Words.{Word}
use Rattle.pw_number.specs.Number.{Number}
use Rattle.pw_number.specs.declared.size_error.SizeError.{SizeError}
use Rattle.pw_picture.specs.declared.picture.Picture.{Picture}
use Rattle.pw_picture.specs.Stored.{is_kept, moved}
use Rattle.pw_forms.specs.declared.operand.Operand.{Operand}
use Rattle.pw_forms.specs.declared.cond.ConditionForm.{ConditionForm}
use Rattle.pw_forms.specs.declared.lists.SendCode.{SendCode}
use Rattle.pw_forms.specs.declared.statement.ArithmeticForm as arithmetic
use Rattle.pw_code.specs.declared.file.FileCall.{FileCall}
use Rattle.pw_code.specs.declared.field.ScreenTable.{ScreenTable}
use Rattle.pw_code.specs.declared.verb.Verb.TheVariants as verb
use Rattle.pw_code.specs.declared.verb.Answer.{Answer}
use Rattle.pw_code.specs.declared.verb.Answer.TheVariants as answer
use Rattle.pw_data.specs.Store.{joined}
use Rattle.pw_terminal.specs.Screen.{with_message}
use Rattle.pw_terminal.specs.Shown.{with_screen}
use Rattle.pw_tree_meaning.specs.Program.{Program, screen_named, screen_number, class_number}
use Rattle.pw_tree_meaning.specs.Setting.{Setting}
use Rattle.pw_tree_meaning.specs.Store.{Store, Spot, put_at}
use Rattle.pw_tree_meaning.specs.State.{ProgramState, Out, Goes, most_counted}
use Rattle.pw_tree_meaning.specs.Values.{Text', number_of, whole_part}
use Rattle.pw_tree_meaning.specs.Operands.{ResolvedOperand, spot_in, value_in, chars_in}
use Rattle.pw_tree_meaning.specs.Moves.{moves, moved_chars, move_text}
use Rattle.pw_tree_meaning.specs.Arithmetic.{arithmetic_on, or_else, stored_in, stored_by, operated, receiver_decimals, receiver_of}
use Rattle.pw_tree_meaning.specs.Conditions.{holds}
use Rattle.pw_tree_meaning.specs.Performs.{perform_times, perform_until, perform_one_of, perform_chosen, at_position}
use Rattle.pw_tree_meaning.specs.Screens.{shows, display_table, display_by, display, screen_in, accept_by, accept}
use Rattle.pw_tree_meaning.specs.Sends.{yielded, found_by, after_send_answer, yields_of, send, after_begin_answer, begin, outside, end, abort, restart, stop}
use Rattle.pw_tree_meaning.specs.Files.{moved_into, file_answered, operation_asked, operates, receive, reply}
use Rattle.pw_tree_meaning.specs.Statements.{move_all, branch}
use Rattle.pw_tree_meaning.proofs.trees.Trees.{Tree, Waits, Files, at, play, Rules, inside_after, Found, Behaves}
use Rattle.pw_tree_meaning.proofs.trees.Found.{found-same, found-test, found-here, found-stuck, found-fault, IsAt-own, counted-behaves, asks-found}
use Rattle.pw_tree_meaning.proofs.trees.Taken.{found-operand, found-operands, holds-at}
use Rattle.pw_tree_meaning.proofs.trees.Loops.{turns-behave, until-behaves}
use Rattle.pw_tree_meaning.proofs.trees.Entries.{found-awaited}

-- what a store keeps over moves
pub Fits-moves : (r : Rules) (source : ResolvedOperand) (targets : List Spot) (store : Store) → r.Fits store → r.Fits (moves source targets store)
Fits-moves r source [] store ok = ok
Fits-moves r source (target ∷ targets) store ok = Fits-moves r source targets _ (r.kept target (moved_chars target.picture target.size (value_in source store)) store ok)

-- ---- arithmetic

module _ (r : Rules) (on_error on_error' else' else'' : ProgramState → Out) (e : Behaves r on_error on_error') (l : Behaves r else' else'') where
  kept-by : (b : Bool) (spot : Spot) (chars : List ℕ) (s : ProgramState) → r.Fits s.store
      → Found r s.count s.in_unit
      (λ answers files. or_else (if b then Some (record (at answers files s) { store = put_at spot chars s.store }) else None) (at answers files s) on_error else')
      (λ files. or_else (if b then Some (record (at [] files s) { store = put_at spot chars s.store }) else None) (at [] files s) on_error' else'')
  kept-by true spot chars s ok = l (record s { store = put_at spot chars s.store }) (r.kept spot chars s.store ok)
  kept-by false spot chars s ok = e s ok

  stored-by : (p : Option Picture) (spot : Spot) (n : Number) (s : ProgramState) → r.Fits s.store
      → Found r s.count s.in_unit
      (λ answers files. or_else (stored_by p spot n (at answers files s)) (at answers files s) on_error else')
      (λ files. or_else (stored_by p spot n (at [] files s)) (at [] files s) on_error' else'')
  stored-by None spot n s ok = e s ok
  stored-by (Some p) spot n s ok = kept-by (is_kept p n) spot (moved p n) s ok

  stored-in : (result : Result Number SizeError) (spot : Spot) (s : ProgramState) → r.Fits s.store
      → Found r s.count s.in_unit
      (λ answers files. or_else (stored_in spot result (at answers files s)) (at answers files s) on_error else')
      (λ files. or_else (stored_in spot result (at [] files s)) (at [] files s) on_error' else'')
  stored-in (Ok n) spot s ok = stored-by spot.picture spot n s ok
  stored-in (Err error) spot s ok = e s ok

  pub arithmetic-behaves : (program : Program) (a : arithmetic.ArithmeticForm)
      → Behaves r (arithmetic_on program a on_error else') (arithmetic_on program a on_error' else'')
  arithmetic-behaves program a s ok =
      found-operand r s.count s.in_unit program s a.first _ _ (λ first e1.
      found-operand r s.count s.in_unit program s a.second _ _ (λ second e2.
      found-operand r s.count s.in_unit program s (receiver_of a) _ _ (λ receiver e3.
      stored-in
      (operated a.operation (receiver_decimals (spot_in receiver).picture) (number_of (value_in first s.store)) (number_of (value_in second s.store)))
      (spot_in receiver) s ok)))

-- ---- branches

branch-found : (r : Rules) (first first' second second' : ProgramState → Out) → Behaves r first first' → Behaves r second second'
    → (o : Option Bool) (s : ProgramState) → r.Fits s.store
    → Found r s.count s.in_unit (λ answers files. branch o first second (at answers files s)) (λ files. branch o first' second' (at [] files s))
branch-found r first first' second second' f g None s ok = found-fault r s.count s.in_unit 203 s
branch-found r first first' second second' f g (Some true) s ok = f s ok
branch-found r first first' second second' f g (Some false) s ok = g s ok

pub branch-behaves : (r : Rules) (program : Program) (cond : ConditionForm) (first first' second second' : ProgramState → Out) → Behaves r first first' → Behaves r second second'
    → Behaves r (λ s. branch (holds program s cond) first second s) (λ s. branch (holds program s cond) first' second' s)
branch-behaves r program cond first first' second second' f g s ok =
    found-same r s.count s.in_unit _ _ _ _
    (branch-found r first first' second second' f g (holds program s cond) s ok)
    (λ answers files. ap (λ o. branch o first second (at answers files s)) (holds-at program answers files s cond))
    (λ files. ap (λ o. branch o first' second' (at [] files s)) (holds-at program [] files s cond))

-- ---- what stands in a program

module _ (r : Rules) (program : Program) (first : ℕ) (is_server : Bool) (message : List ℕ) where
  -- the setting with the answers of a list, and by itself
  abbrev pub own : Setting
  own = record { deck = r.deck; program = program; first = first; is_server = is_server; message = message; alone = false }

  abbrev pub by_itself : Setting
  by_itself = record { deck = r.deck; program = program; first = first; is_server = is_server; message = message; alone = true }

  pub move-behaves : (from : Operand) (to : List Operand) → Behaves r (move_all own from to) (move_all by_itself from to)
  move-behaves from to s ok =
      found-operand r s.count s.in_unit program s from _ _ (λ source e1.
      found-operands r s.count s.in_unit program s to _ _ (λ targets e2.
      found-here r s.count s.in_unit (record s { store = moves source (map spot_in targets) s.store })
      (record { counted = omega arith; in_place = refl; fits = Fits-moves r source (map spot_in targets) s.store ok })))

  -- ---- PERFORM

  pub times-behave : (turn turn' : ProgramState → Out) (times : Operand) → Behaves r turn turn' → Behaves r (perform_times own turn times) (perform_times by_itself turn' times)
  times-behave turn turn' times h s ok =
      found-operand r s.count s.in_unit program s times _ _ (λ found e.
      turns-behave r (whole_part (number_of (value_in found s.store))) turn turn' h s ok)

  pub perform_until-behaves : (turn turn' : ProgramState → Out) (cond : ConditionForm) → Behaves r turn turn' → Behaves r (perform_until own turn cond) (perform_until by_itself turn' cond)
  perform_until-behaves turn turn' cond h =
      until-behaves r turn turn' (λ s. holds program s cond) (λ s. holds program s cond)
      (λ s answers files. holds-at program answers files s cond) (λ s files. holds-at program [] files s cond) h

  chosen-found : (perform perform' : Word → ProgramState → Out) → ((name : Word) → Behaves r (perform name) (perform' name))
      → (o : Option Word) (s : ProgramState) → r.Fits s.store
      → Found r s.count s.in_unit (λ answers files. perform_chosen perform o (at answers files s)) (λ files. perform_chosen perform' o (at [] files s))
  chosen-found perform perform' h None s ok = found-here r s.count s.in_unit s (IsAt-own r s ok)
  chosen-found perform perform' h (Some name) s ok = counted-behaves r (perform name) (perform' name) (h name) s ok

  pub one_of-behaves : (perform perform' : Word → ProgramState → Out) (names : List Word) (position : Operand) → ((name : Word) → Behaves r (perform name) (perform' name))
      → Behaves r (perform_one_of own perform names position) (perform_one_of by_itself perform' names position)
  one_of-behaves perform perform' names position h s ok =
      found-operand r s.count s.in_unit program s position _ _ (λ found e.
      chosen-found perform perform' h (at_position names (whole_part (number_of (value_in found s.store)))) s ok)

  pub stop-found : (is_server ≡ false → r.Right verb.Stop) → (s : ProgramState)
      → Found r s.count s.in_unit (λ answers files. stop own (at answers files s)) (λ files. stop by_itself (at [] files s))
  stop-found right s =
      found-test r s.count s.in_unit is_server _ _ _ _
      (λ yes. found-fault r s.count s.in_unit 209 s)
      (λ no. found-test r s.count s.in_unit s.in_unit _ _ _ _
      (λ yes. found-fault r s.count s.in_unit 207 s)
      (λ outside. found-stuck r s.count s.in_unit verb.Stop s outside (right no) tt))

  pub stop-behaves : (is_server ≡ false → r.Right verb.Stop) → Behaves r (stop own) (stop by_itself)
  stop-behaves right s ok = stop-found right s

  -- ---- screens

  shows-found : r.Right verb.Show → (cells : List ℕ) (s : ProgramState) → r.Fits s.store
      → Found r s.count s.in_unit (λ answers files. shows cells (at answers files s)) (λ files. shows cells (at [] files s))
  shows-found right cells s ok =
      asks-found r verb.Show (record s { screen = cells }) (λ _ t. Goes t) (λ _ t. Goes t) tt right (λ k files. refl) tt
      (λ a. found-here r 0 s.in_unit (record s { screen = cells; count = 0 }) (record { counted = omega arith; in_place = refl; fits = ok })) tt

  pub table-behaves : r.Right verb.Show → (base : Bool) (table : Option ScreenTable) → Behaves r (display_table base table) (display_table base table)
  table-behaves right base None s ok = shows-found right s.screen s ok
  table-behaves right base (Some table) s ok = shows-found right (with_screen base (joined s.store) table s.screen) s ok

  display-by : r.Right verb.Show → (o : Option ScreenTable) (shown : Operand) → Behaves r (display_by o own shown) (display_by o by_itself shown)
  display-by right (Some table) shown s ok = table-behaves right false (Some table) s ok
  display-by right None shown s ok =
      found-operand r s.count s.in_unit program s shown _ _ (λ found e.
      shows-found right (with_message (chars_in found s.store) s.screen) s ok)

  pub display-behaves : r.Right verb.Show → (shown : Operand) → Behaves r (display own shown) (display by_itself shown)
  display-behaves right shown = display-by right (screen_in program shown) shown

  accept-by : (number : ℕ) → r.Right (verb.Accept number) → r.Right verb.Show → (o : Option ScreenTable) (keys : List ℕ)
      → Behaves r (accept_by o keys number) (accept_by o keys number)
  accept-by number accepts shows None keys s ok = found-here r s.count s.in_unit s (IsAt-own r s ok)
  accept-by number accepts shows (Some table) keys s ok = found-awaited r table keys number accepts shows s ok

  pub accept-behaves : ((number : ℕ) → r.Right (verb.Accept number)) → r.Right verb.Show → (name : Word) (keys : List ℕ)
      → Behaves r (accept own name keys) (accept by_itself name keys)
  accept-behaves accepts shows name keys =
      accept-by (first + screen_number program name) (accepts _) shows (screen_named program name) keys

  -- ---- SEND and transactions

  abbrev yielded-found : (o : Option (ℕ × Spot)) (reply : List ℕ) (s : ProgramState) → r.Fits s.store
      → Found r s.count s.in_unit (λ answers files. yielded o reply (at answers files s)) (λ files. yielded o reply (at [] files s))
  yielded-found None reply s ok = found-fault r s.count s.in_unit 204 s
  yielded-found (Some found) reply s ok =
      found-here r s.count s.in_unit
      (move_text reply found.1 (record s { registers = record s.registers { termination = found.0 + 1 } }))
      (record { counted = omega arith; in_place = refl; fits = r.kept found.1 (moved_chars found.1.picture found.1.size (Text' reply)) s.store ok })

  abbrev replied-found : (codes : List SendCode) (items : List Spot) (a : Answer) (s : ProgramState) → r.Fits s.store
      → Found r s.count s.in_unit (λ answers files. after_send_answer codes items a (at answers files s)) (λ files. after_send_answer codes items a (at [] files s))
  replied-found codes items (answer.Replied reply) s ok = yielded-found (found_by codes items reply) reply s ok
  replied-found codes items (answer.Failed code) s ok = found-fault r s.count s.in_unit code s
  replied-found codes items _ s ok = found-here r s.count s.in_unit s (IsAt-own r s ok)

  pub send-behaves : (sent : Operand) (class : Word) (codes : List SendCode) → ((chars : List ℕ) → r.Right (verb.Send (class_number r.deck class) chars))
      → Behaves r (send own sent class codes) (send by_itself sent class codes)
  send-behaves sent class codes right s ok =
      found-operand r s.count s.in_unit program s sent _ _ (λ found e1.
      found-operands r s.count s.in_unit program s (yields_of codes) _ _ (λ items e2.
      asks-found r (verb.Send (class_number r.deck class) (chars_in found s.store)) s
      (after_send_answer codes (map spot_in items)) (after_send_answer codes (map spot_in items)) tt (right _) (λ k files. refl) tt
      (λ a. replied-found codes (map spot_in items) a (record s { count = 0 }) ok)
      (λ x. refl)))

  begun-found : (a : Answer) (s : ProgramState) → r.Fits s.store
      → Found r s.count (inside_after verb.Begin a s.in_unit) (λ answers files. after_begin_answer a (at answers files s)) (λ files. after_begin_answer a (at [] files s))
  begun-found (answer.Begun n) s ok = found-here r s.count true (record s { in_unit = true; registers = record s.registers { restarts = n } }) (record { counted = omega arith; in_place = refl; fits = ok })
  begun-found _ s ok = found-here r s.count s.in_unit s (IsAt-own r s ok)

  pub begin-behaves : r.Right verb.Begin → Behaves r begin begin
  begin-behaves right s ok =
      found-test r s.count s.in_unit s.in_unit _ _ _ _
      (λ yes. found-fault r s.count s.in_unit 205 s)
      (λ no. asks-found r verb.Begin s after_begin_answer after_begin_answer no right (λ k files. refl) tt (λ a. begun-found a (record s { count = 0 }) ok) tt)

  pub end-behaves : r.Right verb.End → Behaves r end end
  end-behaves right s ok =
      found-test r s.count s.in_unit s.in_unit _ _ _ _
      (λ yes. asks-found r verb.End s outside outside yes right (λ k files. refl) tt
      (λ a. found-here r 0 false (record s { in_unit = false; count = 0 }) (record { counted = omega arith; in_place = refl; fits = ok })) tt)
      (λ no. found-fault r s.count s.in_unit 206 s)

  pub abort-behaves : r.Right verb.Drop → Behaves r abort abort
  abort-behaves right s ok =
      found-test r s.count s.in_unit s.in_unit _ _ _ _
      (λ yes. asks-found r verb.Drop s outside outside yes right (λ k files. refl) tt
      (λ a. found-here r 0 false (record s { in_unit = false; count = 0 }) (record { counted = omega arith; in_place = refl; fits = ok })) tt)
      (λ no. found-fault r s.count s.in_unit 206 s)

  pub restart-behaves : r.Right verb.Redo → Behaves r restart restart
  restart-behaves right s ok =
      found-test r s.count s.in_unit s.in_unit _ _ _ _
      (λ yes. found-stuck r s.count s.in_unit verb.Redo s yes right tt)
      (λ no. found-fault r s.count s.in_unit 206 s)

  -- ---- servers

  pub receive-behaves : (into : Operand) → Behaves r (receive own into) (receive by_itself into)
  receive-behaves into s ok =
      found-operand r s.count s.in_unit program s into _ _ (λ item e.
      found-here r s.count s.in_unit (move_text message (spot_in item) s)
      (record { counted = omega arith; in_place = refl; fits = r.kept (spot_in item) (moved_chars (spot_in item).picture (spot_in item).size (Text' message)) s.store ok }))

  pub reply-behaves : (from : Operand) → ((chars : List ℕ) → r.Right (verb.Reply chars)) → Behaves r (reply own from) (reply by_itself from)
  reply-behaves from right s ok =
      found-operand r s.count s.in_unit program s from _ _ (λ found e.
      found-stuck r s.count s.in_unit (verb.Reply (chars_in found s.store)) s tt (right _) tt)

  moved-by : (b : Bool) (spot : Spot) (content : List ℕ) (s : ProgramState) → r.Fits s.store
      → Found r s.count s.in_unit
      (λ answers files. Goes (if b then move_text content spot (at answers files s) else at answers files s))
      (λ files. Goes (if b then move_text content spot (at [] files s) else at [] files s))
  moved-by true spot content s ok =
      found-here r s.count s.in_unit (move_text content spot s)
      (record { counted = omega arith; in_place = refl; fits = r.kept spot (moved_chars spot.picture spot.size (Text' content)) s.store ok })
  moved-by false spot content s ok = found-here r s.count s.in_unit s (IsAt-own r s ok)

  moved-found : (into : Option Spot) (status : ℕ) (content : Option (List ℕ)) (s : ProgramState) → r.Fits s.store
      → Found r s.count s.in_unit (λ answers files. Goes (moved_into into status content (at answers files s))) (λ files. Goes (moved_into into status content (at [] files s)))
  moved-found (Some spot) status (Some content) s ok = moved-by (status == 0) spot content s ok
  moved-found (Some spot) status None s ok = found-here r s.count s.in_unit s (IsAt-own r s ok)
  moved-found None status (Some content) s ok = found-here r s.count s.in_unit s (IsAt-own r s ok)
  moved-found None status None s ok = found-here r s.count s.in_unit s (IsAt-own r s ok)

  answered-found : (into : Option Spot) (a : Answer) (s : ProgramState) → r.Fits s.store
      → Found r s.count s.in_unit (λ answers files. file_answered into a (at answers files s)) (λ files. file_answered into a (at [] files s))
  answered-found into (answer.FileDone status content) s ok =
      moved-found into status content (record s { registers = record s.registers { file_status = status } }) ok
  answered-found into _ s ok = found-here r s.count s.in_unit s (IsAt-own r s ok)

  operation-plays : (call : FileCall) (into : Option Spot) (s : ProgramState) (k : Answer → Tree)
      → ((a : Answer) (answers : List Answer) (files : Files) → length answers ≤ r.most → file_answered into a (at answers files s) ≡ play (k a) answers files)
      → (answers : List Answer) (files : Files) → length answers ≤ r.most
      → operation_asked call into answers (at answers files s) ≡ play (Waits (verb.File call) s k) answers files
  operation-plays call into s k same [] files le = refl
  operation-plays call into s k same (a ∷ answers) files le = same a answers files (omega (arith, le))

  pub operates-found : (call : FileCall) (into : Option Spot) (s : ProgramState) → r.Right (verb.File call) → r.Fits s.store
      → (count : ℕ) → count < s.count → s.count ≤ most_counted
      → Found r count s.in_unit (λ answers files. operates own call into (at answers files s)) (λ files. operates by_itself call into (at [] files s))
  operates-found call into s right ok count below most = record {
    tree = Waits (verb.File call) s (λ a. (answered-found into a s ok).tree);
    obeys = (tt, right, tt, (below, most), λ a. (answered-found into a s ok).obeys);
    plays = operation-plays call into s (λ a. (answered-found into a s ok).tree) (λ a. (answered-found into a s ok).plays);
    serves = λ is files. (answered-found into _ s ok).serves is _;
  }
