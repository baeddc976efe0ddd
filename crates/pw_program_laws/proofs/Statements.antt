-- What statements have to meet is enough, by induction on them.
use Rattle.std.proofs.Common.{◌≡◌, ℕ, zero, suc, ◌+◌, ◌==◌, Bool, true, false, List, [], ◌∷◌, map, take, if◌then◌else◌, Option, Some, None, Result, Ok, Err, refl, sym, ap, ◌∙◌, subst}
use Rattle.std.proofs.Math.Path.{fun_ext}
use Rattle.pw_code.specs.declared.file.FileCall.{FileCall}
use Rattle.pw_code.specs.declared.file.FileOp.{FileOp}
use Rattle.pw_code.specs.declared.file.FileOp.TheVariants.{Read, Next, Write, Rewrite, ReadLock, NextLock}
use Rattle.pw_code.specs.declared.verb.Verb.TheVariants as verb
use Rattle.pw_files.specs.Records.{has_key, record_after, record_at, with_record, without_key}
use Rattle.pw_forms.specs.declared.cond.ConditionForm.{ConditionForm}
use Rattle.pw_forms.specs.declared.operand.Operand.{Operand}
use Rattle.pw_forms.specs.declared.statement.ArithmeticForm as arithmetic
use Rattle.pw_forms.specs.declared.statement.Statement.{Statement}
use Rattle.pw_forms.specs.declared.statement.Statement as form
use Rattle.pw_forms.specs.declared.statement.Statement.{Row_of-Statement, end_of-Statement, more_of-Statement}
use Rattle.pw_number.specs.Number.{Number}
use Rattle.pw_number.specs.declared.size_error.SizeError.{SizeError}
use Rattle.pw_onecopy.proofs.Update.{upd_elim}
use Rattle.pw_onecopy.specs.Operation.{answer_of, change_answer, read_answer, records_behind}
use Rattle.pw_onecopy.specs.Path.{FileResult}
use Rattle.pw_onecopy.specs.Update.{upd}
use Rattle.pw_picture.specs.declared.picture.Picture.{Picture}
use Rattle.pw_picture.specs.Stored.{is_kept, moved}
use Rattle.pw_program_laws.proofs.Ends.{EndsWell, counted-well, taken-well, then-well}
use Rattle.pw_program_laws.proofs.Operands.{all-taken, any-known, known-taken}
use Rattle.pw_program_laws.proofs.Texts.{dealt-sized, moves-sized, moves-texts, put_at-texts, value_in-texts}
use Rattle.pw_program_laws.specs.Known.{IsKnownAt, KnownMoment, RecordsByFile, with_status}
use Rattle.pw_program_laws.specs.Meets.{ArithmeticMeets, BodyMeets, BranchesOn, ChangeMeets, FindMeets, LoopMeets, StatementMeets, RowMeets, WithAllKnown, WithKnown, moved_text, received}
use Rattle.pw_program_laws.specs.Texts.{said, with_moves, with_text}
use Rattle.pw_tree_meaning.specs.Arithmetic.{arithmetic_on, operated, or_else, receiver_decimals, receiver_of, stored_by, stored_in}
use Rattle.pw_tree_meaning.specs.Conditions.{holds}
use Rattle.pw_tree_meaning.specs.Files.{call_by_key, delete, file_done, read, read_by, read_next, receive, reply, write_by}
use Rattle.pw_tree_meaning.specs.Moves.{moved_chars, move_text, moves}
use Rattle.pw_tree_meaning.specs.Operands.{ResolvedOperand, chars_in, operand_taken, spot_in, taken_all, value_in}
use Rattle.pw_tree_meaning.specs.Performs.{budget, perform_until, tested, turns_until}
use Rattle.pw_tree_meaning.specs.Program.{DeckModel, Program, file_number, key_length}
use Rattle.pw_tree_meaning.specs.Sends.{stop}
use Rattle.pw_tree_meaning.specs.Setting.{Setting}
use Rattle.pw_tree_meaning.specs.State.{ProgramState, Registers, Out, Goes, Leaves, Asks, faults, statement_counted, then_do}
use Rattle.pw_tree_meaning.specs.Statements.{body, branch, branch_row, move_all, statement}
use Rattle.pw_tree_meaning.specs.Store.{Spot, put_at}
use Rattle.pw_tree_meaning.specs.Values.{Text', Value, as_it_stands, number_of}
use Rattle.pw_words.specs.Words.{Word}

-- ---- what is known stays known

module _ (sizes : List ℕ) (k : KnownMoment) (s : ProgramState) (known : IsKnownAt sizes k s) where
  pub known-counted : IsKnownAt sizes k (record s { count = s.count + 1 })
  known-counted = record { texts = known.texts; sized = known.sized; registers = known.registers; files = known.files }

  known-put : (spot : Spot) (chars : List ℕ) → IsKnownAt sizes (record k { texts = with_text spot chars sizes k.texts }) (record s { store = put_at spot chars s.store })
  known-put spot chars = record {
    texts = put_at-texts spot chars sizes s.store k.texts known.texts known.sized;
    sized = dealt-sized spot chars 0 sizes k.texts known.sized;
    registers = known.registers;
    files = known.files;
  }

  known-moves : (source : ResolvedOperand) (spots : List Spot)
      → IsKnownAt sizes (record k { texts = with_moves source spots sizes k.texts }) (record s { store = moves source spots s.store })
  known-moves source spots = record {
    texts = moves-texts source spots sizes s.store k.texts known.texts known.sized;
    sized = moves-sized source spots sizes k.texts known.sized;
    registers = known.registers;
    files = known.files;
  }

  -- behind a file operation
  known-done : (status : ℕ) (files : RecordsByFile) (now : RecordsByFile) → now ≡ files
      → IsKnownAt sizes (with_status status (record k { files = files })) (record s { files = now; registers = record s.registers { file_status = status } })
  known-done status files now is = record {
    texts = known.texts;
    sized = known.sized;
    registers = ap (λ (r : Registers). record r { file_status = status }) known.registers;
    files = is;
  }

-- a file that gets the records that it has
own-records : (files : RecordsByFile) (f : ℕ) → upd files f (files f) ≡ files
own-records files f = fun_ext (λ j. upd_elim files f (files f) j (λ records. records ≡ files j) (λ is. ap files (sym is)) (λ ne. refl))

module _ (deck : DeckModel) (program : Program) (sizes message : List ℕ) (replies : List ℕ → RecordsByFile → Type 0) where
  -- a server that runs by itself
  abbrev pub alone_setting : Setting
  alone_setting = record { deck = deck; program = program; first = 0; is_server = true; message = message; alone = true }

  -- something is known of the state, and what follows is met
  abbrev pub Follows : (KnownMoment → Type 0) → ProgramState → Type 0
  Follows next s = (k : KnownMoment) × IsKnownAt sizes k s × next k

  -- ---- arithmetic

  kept-ends : (b : Bool) (next : (KnownMoment → Type 0)) (spot : Spot) (p : Picture) (n : Number) (s : ProgramState) (on_error else' : ProgramState → Out)
      → ((if b then Some (moved p n) else None) ≡ None → EndsWell replies (Follows next) (on_error s))
      → ((chars : List ℕ) → (if b then Some (moved p n) else None) ≡ Some chars → EndsWell replies (Follows next) (else' (record s { store = put_at spot chars s.store })))
      → EndsWell replies (Follows next) (or_else (if b then Some (record s { store = put_at spot (moved p n) s.store }) else None) s on_error else')
  kept-ends true next spot p n s on_error else' one other = other (moved p n) refl
  kept-ends false next spot p n s on_error else' one other = one refl

  stored-ends : (o : Option Picture) (next : KnownMoment → Type 0) (spot : Spot) (r : Result Number SizeError) (s : ProgramState) (on_error else' : ProgramState → Out)
      → spot.picture ≡ o
      → (received o r ≡ None → EndsWell replies (Follows next) (on_error s))
      → ((chars : List ℕ) → received o r ≡ Some chars → EndsWell replies (Follows next) (else' (record s { store = put_at spot chars s.store })))
      → EndsWell replies (Follows next) (or_else (stored_in spot r s) s on_error else')
  stored-ends o next spot (Err error) s on_error else' is one other = one refl
  stored-ends None next spot (Ok n) s on_error else' is one other =
      let P : Option Picture → Type 0 = λ o. EndsWell replies (Follows next) (or_else (stored_by o spot n s) s on_error else') in
      subst P (sym is) (one refl)
  stored-ends (Some p) next spot (Ok n) s on_error else' is one other =
      let P : Option Picture → Type 0 = λ o. EndsWell replies (Follows next) (or_else (stored_by o spot n s) s on_error else') in
      subst P (sym is) (kept-ends (is_kept p n) next spot p n s on_error else' one other)

  arithmetic-ends : (a : arithmetic.ArithmeticForm) (fails goes next : KnownMoment → Type 0) (on_error else' : ProgramState → Out)
      → ((k : KnownMoment) (s : ProgramState) → IsKnownAt sizes k s → fails k → EndsWell replies (Follows next) (on_error s))
      → ((k : KnownMoment) (s : ProgramState) → IsKnownAt sizes k s → goes k → EndsWell replies (Follows next) (else' s))
      → (k : KnownMoment) → ArithmeticMeets deck program sizes message replies a fails goes k
      → (s : ProgramState) → IsKnownAt sizes k s → EndsWell replies (Follows next) (arithmetic_on program a on_error else' s)
  arithmetic-ends a fails goes next on_error else' failing going k now s known =
      let x = known-taken program sizes k a.first _ now in
      let y = known-taken program sizes k a.second _ x.2 in
      let z = known-taken program sizes k (receiver_of a) _ y.2 in
      let spot : Spot = spot_in z.0 in
      let result : Value → Value → Result Number SizeError = λ u v. operated a.operation (receiver_decimals spot.picture) (number_of u) (number_of v) in
      let end : Value → Value → Type 0 = λ u v. EndsWell replies (Follows next) (or_else (stored_in spot (result u v) s) s on_error else') in
      let first : said sizes k.texts x.0 ≡ value_in x.0 s.store = sym (value_in-texts x.0 sizes s.store k.texts known.texts known.sized) in
      let second : said sizes k.texts y.0 ≡ value_in y.0 s.store = sym (value_in-texts y.0 sizes s.store k.texts known.texts known.sized) in
      taken-well replies (Follows next) (operand_taken program s a.first) x.0 s _ (x.1 s known)
      (taken-well replies (Follows next) (operand_taken program s a.second) y.0 s _ (y.1 s known)
      (taken-well replies (Follows next) (operand_taken program s (receiver_of a)) z.0 s _ (z.1 s known)
      (subst (λ u. end u (value_in y.0 s.store)) first
      (subst (λ v. end (said sizes k.texts x.0) v) second
      (stored-ends spot.picture next spot (result (said sizes k.texts x.0) (said sizes k.texts y.0)) s on_error else' refl
      (λ e. failing k s known (z.2.0 e))
      (λ chars e. going _ _ (known-put sizes k s known spot chars) (z.2.1 chars e)))))))

  -- ---- conditions

  branch-ends : (b : Bool) (o : Option Bool) (next first second : KnownMoment → Type 0) (one other : ProgramState → Out) (k : KnownMoment) (s : ProgramState)
      → o ≡ Some b → BranchesOn b (first k) (second k)
      → (first k → EndsWell replies (Follows next) (one s)) → (second k → EndsWell replies (Follows next) (other s))
      → EndsWell replies (Follows next) (branch o one other s)
  branch-ends true o next first second one other k s is now one_well other_well =
      let P : Option Bool → Type 0 = λ o. EndsWell replies (Follows next) (branch o one other s) in
      subst P (sym is) (one_well (now.0 refl))
  branch-ends false o next first second one other k s is now one_well other_well =
      let P : Option Bool → Type 0 = λ o. EndsWell replies (Follows next) (branch o one other s) in
      subst P (sym is) (other_well (now.1 refl))

  -- ---- files

  finds-ends : (missing : ℕ) (o found : Option (List ℕ)) (spot : Spot) (f : ℕ) (next : KnownMoment → Type 0) (k : KnownMoment) (s : ProgramState)
      → IsKnownAt sizes k s → o ≡ found → FindMeets deck program sizes message replies missing found spot next k
      → EndsWell replies (Follows next)
      (file_done (Some spot) (read_answer missing o).status (read_answer missing o).content (record s { files = upd s.files f (s.files f) }))
  finds-ends missing None found spot f next k s known is now =
      (with_status missing k, known-done sizes k s known missing k.files _ (own-records s.files f ∙ known.files), now.0 (sym is))
  finds-ends missing (Some content) found spot f next k s known is now =
      let after = known-done sizes k s known 0 k.files _ (own-records s.files f ∙ known.files) in (
        moved_text deck program sizes message replies content spot (with_status 0 k),
        known-put sizes (with_status 0 k) _ after spot (moved_chars spot.picture spot.size (Text' content)),
        now.1 content (sym is),
      )

  changes-ends : (refused : ℕ) (may known_may : Bool) (f : ℕ) (after known_after : List (List ℕ)) (next : KnownMoment → Type 0) (k : KnownMoment) (s : ProgramState)
      → (refused == 0) ≡ false → IsKnownAt sizes k s → may ≡ known_may → after ≡ known_after → ChangeMeets deck program sizes message replies refused known_may f known_after next k
      → EndsWell replies (Follows next)
      (file_done None (change_answer refused may).status (change_answer refused may).content
      (record s { files = upd s.files f (if (change_answer refused may).status == 0 then after else s.files f) }))
  changes-ends refused true known_may f after known_after next k s nonzero known is same now = (
    with_status 0 (record k { files = upd k.files f known_after }),
    known-done sizes k s known 0 (upd k.files f known_after) _ (ap (λ files. upd files f after) known.files ∙ ap (λ xs. upd k.files f xs) same),
    now.0 (sym is),
  )
  changes-ends refused false known_may f after known_after next k s nonzero known is same now = (
    with_status refused k,
    known-done sizes k s known refused k.files _
        (ap (λ (b : Bool). upd s.files f (if b then after else s.files f)) nonzero ∙ own-records s.files f ∙ known.files),
    now.1 (sym is),
  )

  -- the characters of an operand
  chars-known : (found : ResolvedOperand) (k : KnownMoment) (s : ProgramState) → IsKnownAt sizes k s
      → chars_in found s.store ≡ as_it_stands (said sizes k.texts found)
  chars-known found k s known = ap as_it_stands (value_in-texts found sizes s.store k.texts known.texts known.sized)

  -- a file of records with a key or a record
  abbrev At : {A : Type 0} → (List (List ℕ) → List ℕ → A) → ℕ → ResolvedOperand → KnownMoment → ProgramState → Type 0
  At of f found k s = of (s.files f) (chars_in found s.store) ≡ of (k.files f) (as_it_stands (said sizes k.texts found))

  at-known : {A : Type 0} (of : List (List ℕ) → List ℕ → A) (f : ℕ) (found : ResolvedOperand) (k : KnownMoment) (s : ProgramState) → IsKnownAt sizes k s → At of f found k s
  at-known of f found k s known =
      ap (λ (files : RecordsByFile). of (files f) (chars_in found s.store)) known.files ∙ ap (of (k.files f)) (chars-known found k s known)

  reads-end : (op : FileOp) (missing : ℕ) (look : ℕ → List (List ℕ) → List ℕ → Option (List ℕ)) (file : Word) (key into : Operand)
      → ((n : ℕ) (records : List (List ℕ)) (own : List ℕ) → answer_of n records op (call_by_key alone_setting op file own) ≡ read_answer missing (look n records own))
      → ((n : ℕ) (records : List (List ℕ)) (own : List ℕ) → records_behind n records (call_by_key alone_setting op file own) ≡ records)
      → (next : KnownMoment → Type 0) (k : KnownMoment)
      → WithKnown program sizes k key (λ found. WithKnown program sizes k into (λ item.
      FindMeets deck program sizes message replies missing (look (key_length deck (file_number deck file)) (k.files (file_number deck file)) (as_it_stands (said sizes k.texts found))) (spot_in item) next k))
      → (s : ProgramState) → IsKnownAt sizes k s → EndsWell replies (Follows next) (read_by alone_setting op file key into s)
  reads-end op missing look file key into answers stay next k now s known =
      let x = known-taken program sizes k key _ now in
      let z = known-taken program sizes k into _ x.2 in
      let f : ℕ = file_number deck file in
      let n : ℕ = key_length deck f in
      let spot : Spot = spot_in z.0 in
      let call : FileCall = call_by_key alone_setting op file (chars_in x.0 s.store) in
      let End : FileResult → List (List ℕ) → Type 0 =
      λ found records. EndsWell replies (Follows next) (file_done (Some spot) found.status found.content (record s { files = upd s.files f records })) in
      taken-well replies (Follows next) (operand_taken program s key) x.0 s _ (x.1 s known)
      (taken-well replies (Follows next) (operand_taken program s into) z.0 s _ (z.1 s known)
      (subst (λ found. End found (records_behind n (s.files f) call)) (sym (answers n (s.files f) (chars_in x.0 s.store)))
      (subst (λ records. End (read_answer missing (look n (s.files f) (chars_in x.0 s.store))) records) (sym (stay n (s.files f) (chars_in x.0 s.store)))
      (finds-ends missing (look n (s.files f) (chars_in x.0 s.store)) _ spot f next k s known (at-known (look n) f x.0 k s known) z.2))))

  -- ---- all statements

  module _ (perform : Word → ProgramState → Out) (performs : Word → (KnownMoment → Type 0) → KnownMoment → Type 0)
      (performs-well : (name : Word) (next : KnownMoment → Type 0) (k : KnownMoment) → performs name next k
      → (s : ProgramState) → IsKnownAt sizes k s → EndsWell replies (Follows next) (perform name s))
      (call : ℕ → List (List ℕ) → ProgramState → Out) where
    abbrev Stays : KnownMoment → KnownMoment → Type 0
    Stays k after = after.files ≡ k.files

    -- one turn more of a loop whose turns leave the files
    loop-turn : (paragraph : Word) (cond : ConditionForm) (next : KnownMoment → Type 0) (k : KnownMoment)
        → LoopMeets deck program sizes message replies performs paragraph next k → (n : ℕ)
        → ((texts : List (List ℕ)) (registers : Registers) (s : ProgramState) → IsKnownAt sizes (record k { texts = texts; registers = registers }) s
        → EndsWell replies (Follows next) (turns_until n (λ t. holds program t cond) (perform paragraph) s))
        → (texts : List (List ℕ)) (registers : Registers) (s : ProgramState) → IsKnownAt sizes (record k { texts = texts; registers = registers }) s
        → (o : Option Bool)
        → EndsWell replies (Follows next) (tested o (λ t. then_do (statement_counted (perform paragraph) t) (turns_until n (λ t. holds program t cond) (perform paragraph))) s)
    loop-turn paragraph cond next k now n on texts registers s known None = tt
    loop-turn paragraph cond next k now n on texts registers s known (Some true) = (record k { texts = texts; registers = registers }, known, (now texts registers known.sized).1)
    loop-turn paragraph cond next k now n on texts registers s known (Some false) =
        let k' : KnownMoment = record k { texts = texts; registers = registers } in
        then-well replies (Follows (Stays k)) (Follows next) (statement_counted (perform paragraph) s) _
        (counted-well replies (Follows (Stays k)) (perform paragraph) s
        (performs-well paragraph (Stays k) k' (now texts registers known.sized).0 _ (known-counted sizes k' s known)))
        (λ t then'.
        on then'.0.texts then'.0.registers t
        (record { texts = then'.1.texts; sized = then'.1.sized; registers = then'.1.registers; files = then'.1.files ∙ then'.2 }))

    loop-ends : (paragraph : Word) (cond : ConditionForm) (next : KnownMoment → Type 0) (k : KnownMoment)
        → LoopMeets deck program sizes message replies performs paragraph next k
        → (n : ℕ) (texts : List (List ℕ)) (registers : Registers) (s : ProgramState) → IsKnownAt sizes (record k { texts = texts; registers = registers }) s
        → EndsWell replies (Follows next) (turns_until n (λ t. holds program t cond) (perform paragraph) s)
    loop-ends paragraph cond next k now zero texts registers s known = by (holds program s cond)
      where
        by : (o : Option Bool) → EndsWell replies (Follows next) (tested o (faults 201) s)
        by None = tt
        by (Some true) = (record k { texts = texts; registers = registers }, known, (now texts registers known.sized).1)
        by (Some false) = tt
    loop-ends paragraph cond next k now (suc n) texts registers s known =
        loop-turn paragraph cond next k now n (loop-ends paragraph cond next k now n) texts registers s known (holds program s cond)

    abbrev Well : (ProgramState → Out) → (KnownMoment → Type 0) → KnownMoment → Type 0
    Well run next k = (s : ProgramState) → IsKnownAt sizes k s → EndsWell replies (Follows next) (run s)

    -- behind the count
    counted : (run : ProgramState → Out) (next : KnownMoment → Type 0) (k : KnownMoment) → Well run next k → Well (statement_counted run) next k
    counted run next k well s known = counted-well replies (Follows next) run s (well _ (known-counted sizes k s known))

    here-well : (next : KnownMoment → Type 0) (k : KnownMoment) → next k → Well Goes next k
    here-well next k now s known = (k, known, now)

    move-well : (from : Operand) (to : List Operand) (next : KnownMoment → Type 0) (k : KnownMoment)
        → WithKnown program sizes k from (λ source. WithAllKnown program sizes k to (λ targets. next (record k { texts = with_moves source (map spot_in targets) sizes k.texts })))
        → Well (move_all alone_setting from to) next k
    move-well from to next k now s known =
        let x = known-taken program sizes k from _ now in
        let xs = all-taken program sizes k to _ x.2 in
        taken-well replies (Follows next) (operand_taken program s from) x.0 s _ (x.1 s known)
        (taken-well replies (Follows next) (taken_all program s to) xs.0 s (λ targets. Goes (record s { store = moves x.0 (map spot_in targets) s.store })) (xs.1 s known)
        (record k { texts = with_moves x.0 (map spot_in xs.0) sizes k.texts }, known-moves sizes k s known x.0 (map spot_in xs.0), xs.2))

    mutual
      pub statement-well : (one : Statement) (next : KnownMoment → Type 0) (k : KnownMoment) → StatementMeets deck program sizes message replies performs one next k
          → Well (statement alone_setting perform call one) next k
      statement-well (form.Move line from to) next k now = counted (move_all alone_setting from to) next k (move-well from to next k now)
      statement-well (form.Arithmetic line a) next k now =
          counted (arithmetic_on program a Goes Goes) next k
          (arithmetic-ends a next next next Goes Goes (λ k s known now. (k, known, now)) (λ k s known now. (k, known, now)) k now)
      statement-well (form.OnSizeError' line a n first m second) next k now =
          counted (arithmetic_on program a (branch_row alone_setting perform call first) (branch_row alone_setting perform call second)) next k
          (arithmetic-ends a (RowMeets deck program sizes message replies performs first next) (RowMeets deck program sizes message replies performs second next) next
          (branch_row alone_setting perform call first) (branch_row alone_setting perform call second)
          (λ k s known now. row-well first next k now s known) (λ k s known now. row-well second next k now s known) k now)
      statement-well (form.If' line cond n first m second) next k now =
          counted (λ s. branch (holds program s cond) (branch_row alone_setting perform call first) (branch_row alone_setting perform call second) s) next k
          (λ s known.
          let b = any-known program sizes k s known cond.any _ now in
          branch-ends b.0 (holds program s cond) next (RowMeets deck program sizes message replies performs first next) (RowMeets deck program sizes message replies performs second next)
          (branch_row alone_setting perform call first) (branch_row alone_setting perform call second) k s b.1 b.2
          (λ met. row-well first next k met s known) (λ met. row-well second next k met s known))
      statement-well (form.Perform line paragraph) next k now =
          counted (statement_counted (perform paragraph)) next k (counted (perform paragraph) next k (performs-well paragraph next k now))
      statement-well (form.PerformUntil line paragraph cond) next k now =
          counted (perform_until alone_setting (perform paragraph) cond) next k (λ s known. loop-ends paragraph cond next k now (budget s) k.texts k.registers s known)
      statement-well (form.Exit line) next k now = counted Goes next k (here-well next k now)
      statement-well (form.ExitProgram line) next k now = counted Leaves next k (λ s known. tt)
      statement-well (form.StopRun line) next k now = counted (stop alone_setting) next k (λ s known. tt)
      statement-well (form.Receive line into) next k now =
          counted (receive alone_setting into) next k (λ s known.
          let z = known-taken program sizes k into _ now in
          let spot : Spot = spot_in z.0 in
          taken-well replies (Follows next) (operand_taken program s into) z.0 s (λ item. Goes (move_text message (spot_in item) s)) (z.1 s known)
          (moved_text deck program sizes message replies message spot k, known-put sizes k s known spot (moved_chars spot.picture spot.size (Text' message)), z.2))
      statement-well (form.Reply line from) next k now =
          counted (reply alone_setting from) next k (λ s known.
          let x = known-taken program sizes k from _ now in
          taken-well replies (Follows next) (operand_taken program s from) x.0 s (λ found. Asks (verb.Reply (chars_in found s.store)) s) (x.1 s known)
          (subst (λ chars. replies chars s.files) (sym (chars-known x.0 k s known))
          (subst (λ files. replies (as_it_stands (said sizes k.texts x.0)) files) (sym known.files) x.2)))
      statement-well (form.Read line file true key into) next k now =
          counted (read alone_setting file true key into) next k (reads-end ReadLock 11 record_at file key into (λ n records own. refl) (λ n records own. refl) next k now)
      statement-well (form.Read line file false key into) next k now =
          counted (read alone_setting file false key into) next k (reads-end Read 11 record_at file key into (λ n records own. refl) (λ n records own. refl) next k now)
      statement-well (form.ReadNext line file true after into) next k now =
          counted (read_next alone_setting file true after into) next k (reads-end NextLock 1 record_after file after into (λ n records own. refl) (λ n records own. refl) next k now)
      statement-well (form.ReadNext line file false after into) next k now =
          counted (read_next alone_setting file false after into) next k (reads-end Next 1 record_after file after into (λ n records own. refl) (λ n records own. refl) next k now)
      statement-well (form.Write line file from) next k now =
          counted (write_by alone_setting Write file from) next k (λ s known.
          let x = known-taken program sizes k from _ now in
          let f : ℕ = file_number deck file in
          let n : ℕ = key_length deck f in
          let may : List (List ℕ) → List ℕ → Bool = λ records content. if has_key n records (take n content) then false else true in
          taken-well replies (Follows next) (operand_taken program s from) x.0 s _ (x.1 s known)
          (changes-ends 10 (may (s.files f) (chars_in x.0 s.store)) _ f (with_record n (s.files f) (chars_in x.0 s.store)) _ next k s refl known
          (at-known may f x.0 k s known) (at-known (with_record n) f x.0 k s known) x.2))
      statement-well (form.Rewrite line file from) next k now =
          counted (write_by alone_setting Rewrite file from) next k (λ s known.
          let x = known-taken program sizes k from _ now in
          let f : ℕ = file_number deck file in
          let n : ℕ = key_length deck f in
          let may : List (List ℕ) → List ℕ → Bool = λ records content. has_key n records (take n content) in
          taken-well replies (Follows next) (operand_taken program s from) x.0 s _ (x.1 s known)
          (changes-ends 11 (may (s.files f) (chars_in x.0 s.store)) _ f (with_record n (s.files f) (chars_in x.0 s.store)) _ next k s refl known
          (at-known may f x.0 k s known) (at-known (with_record n) f x.0 k s known) x.2))
      statement-well (form.Delete line file key) next k now =
          counted (delete alone_setting file key) next k (λ s known.
          let x = known-taken program sizes k key _ now in
          let f : ℕ = file_number deck file in
          let n : ℕ = key_length deck f in
          taken-well replies (Follows next) (operand_taken program s key) x.0 s _ (x.1 s known)
          (changes-ends 11 (has_key n (s.files f) (chars_in x.0 s.store)) _ f (without_key n (s.files f) (chars_in x.0 s.store)) _ next k s refl known
          (at-known (has_key n) f x.0 k s known) (at-known (without_key n) f x.0 k s known) x.2))
      statement-well _ next k now = absurd now

      pub row-well : {n : _} → (row : Row_of-Statement n) (next : KnownMoment → Type 0) (k : KnownMoment) → RowMeets deck program sizes message replies performs row next k
          → Well (branch_row alone_setting perform call row) next k
      row-well end_of-Statement next k now = here-well next k now
      row-well (more_of-Statement one rest) next k now = λ s known.
          then-well replies (Follows (RowMeets deck program sizes message replies performs rest next)) (Follows next) (statement alone_setting perform call one s) (branch_row alone_setting perform call rest)
          (statement-well one (RowMeets deck program sizes message replies performs rest next) k now s known)
          (λ t then'. row-well rest next then'.0 then'.2 t then'.1)

    pub body-well : (statements : List Statement) (next : KnownMoment → Type 0) (k : KnownMoment) → BodyMeets deck program sizes message replies performs statements next k
        → Well (body alone_setting perform call statements) next k
    body-well [] next k now = here-well next k now
    body-well (one ∷ rest) next k now = λ s known.
        then-well replies (Follows (BodyMeets deck program sizes message replies performs rest next)) (Follows next) (statement alone_setting perform call one s) (body alone_setting perform call rest)
        (statement-well one (BodyMeets deck program sizes message replies performs rest next) k now s known)
        (λ t then'. body-well rest next then'.0 then'.2 t then'.1)
