-- What statements of a server that runs by itself do to a state, whatever their operands say.
use Rattle.std.proofs.Common.{◌≡◌, ℕ, zero, suc, ◌+◌, Bool, true, false, List, [], ◌∷◌, map, if◌then◌else◌, Option, Some, None, Result, Ok, Err, refl, sym, ap, subst}
use Rattle.std.proofs.Math.Path.{fun_ext}
use Rattle.pw_forms.specs.declared.operand.Operand.{Operand}
use Rattle.pw_forms.specs.declared.cond.ConditionForm.{ConditionForm}
use Rattle.pw_forms.specs.declared.statement.ArithmeticForm as arithmetic
use Rattle.pw_forms.specs.declared.statement.Statement.{Statement, Row_of-Statement, end_of-Statement, more_of-Statement}
use Rattle.pw_forms.specs.declared.statement.Statement as form
use Rattle.pw_tree_meaning.specs.Conditions.{holds}
use Rattle.pw_words.specs.Words.{Word}
use Rattle.pw_number.specs.Number.{Number}
use Rattle.pw_number.specs.declared.size_error.SizeError.{SizeError}
use Rattle.pw_onecopy.specs.Operation.{read_answer}
use Rattle.pw_onecopy.proofs.Update.{upd_elim}
use Rattle.pw_onecopy.specs.Update.{upd}
use Rattle.pw_picture.specs.declared.picture.Picture.{Picture}
use Rattle.pw_picture.specs.Stored.{is_kept, moved}
use Rattle.pw_program_laws.proofs.Ends.{EndsWell, then-well, counted-well}
use Rattle.pw_program_laws.specs.Known.{RecordsByFile}
use Rattle.pw_tree_meaning.specs.Arithmetic.{arithmetic_on, operated, or_else, receiver_decimals, receiver_of, stored_by, stored_in}
use Rattle.pw_tree_meaning.specs.Files.{file_done}
use Rattle.pw_tree_meaning.specs.Moves.{moved_chars, moves}
use Rattle.pw_tree_meaning.specs.Operands.{ResolvedOperand, one_more, operand_taken, spot_in, taken_all, value_in, with_taken}
use Rattle.pw_tree_meaning.specs.Performs.{budget, perform_until, tested, turns_until}
use Rattle.pw_tree_meaning.specs.Program.{Program}
use Rattle.pw_tree_meaning.specs.Setting.{Setting}
use Rattle.pw_tree_meaning.specs.State.{ProgramState, Out, Goes, faults, statement_counted, then_do}
use Rattle.pw_tree_meaning.specs.Statements.{body, branch, branch_row, move_all, statement}
use Rattle.pw_tree_meaning.specs.Store.{Spot, put_at}
use Rattle.pw_tree_meaning.specs.Values.{Text', number_of}

-- the state with characters in a spot
abbrev pub put_in : Spot → List ℕ → ProgramState → ProgramState
put_in spot chars s = record s { store = put_at spot chars s.store }

module _ (replies : List ℕ → RecordsByFile → Type 0) where
  pub any-taken : {A : Type 0} (goes : ProgramState → Type 0) (o : Option A) (s : ProgramState) (next : A → Out)
      → ((x : A) → o ≡ Some x → EndsWell replies goes (next x)) → EndsWell replies goes (with_taken o s next)
  any-taken goes None s next now = tt
  any-taken goes (Some x) s next now = now x refl

  -- an IF
  pub either : (goes : ProgramState → Type 0) (o : Option Bool) (one other : ProgramState → Out) (s : ProgramState)
      → (o ≡ Some true → EndsWell replies goes (one s)) → (o ≡ Some false → EndsWell replies goes (other s)) → EndsWell replies goes (branch o one other s)
  either goes None one other s first second = tt
  either goes (Some true) one other s first second = first refl
  either goes (Some false) one other s first second = second refl

  -- a loop of which each turn keeps what is known
  module _ (known : ProgramState → Type 0) (done : ProgramState → Option Bool) (turn : ProgramState → Out)
      (keeps : (s : ProgramState) → known s → EndsWell replies known (statement_counted turn s)) where
    last-test : (o : Option Bool) (s : ProgramState) → known s → EndsWell replies known (tested o (faults 201) s)
    last-test None s now = tt
    last-test (Some true) s now = now
    last-test (Some false) s now = tt

    one-turn : (n : ℕ) → ((t : ProgramState) → known t → EndsWell replies known (turns_until n done turn t))
        → (o : Option Bool) (s : ProgramState) → known s → EndsWell replies known (tested o (λ t. then_do (statement_counted turn t) (turns_until n done turn)) s)
    one-turn n on None s now = tt
    one-turn n on (Some true) s now = now
    one-turn n on (Some false) s now = then-well replies known known (statement_counted turn s) (turns_until n done turn) (keeps s now) on

    pub until : (n : ℕ) (s : ProgramState) → known s → EndsWell replies known (turns_until n done turn s)
    until zero s now = last-test (done s) s now
    until (suc n) s now = one-turn n (until n) (done s) s now

  -- arithmetic: its receiver stays on a size error, and else gets some characters
  kept-by : (b : Bool) (goes : ProgramState → Type 0) (spot : Spot) (chars : List ℕ) (s : ProgramState) → goes s → goes (put_in spot chars s)
      → EndsWell replies goes (or_else (if b then Some (put_in spot chars s) else None) s Goes Goes)
  kept-by true goes spot chars s stays gets = gets
  kept-by false goes spot chars s stays gets = stays

  stored : (goes : ProgramState → Type 0) (spot : Spot) (o : Option Picture) (r : Result Number SizeError) (s : ProgramState) → spot.picture ≡ o
      → goes s → ((chars : List ℕ) → goes (put_in spot chars s)) → EndsWell replies goes (or_else (stored_in spot r s) s Goes Goes)
  stored goes spot o (Err error) s is stays gets = stays
  stored goes spot None (Ok n) s is stays gets =
      let P : Option Picture → Type 0 = λ o. EndsWell replies goes (or_else (stored_by o spot n s) s Goes Goes) in subst P (sym is) stays
  stored goes spot (Some p) (Ok n) s is stays gets =
      let P : Option Picture → Type 0 = λ o. EndsWell replies goes (or_else (stored_by o spot n s) s Goes Goes) in
      subst P (sym is) (kept-by (is_kept p n) goes spot (moved p n) s stays (gets (moved p n)))

  pub adds : (program : Program) (a : arithmetic.ArithmeticForm) (goes : ProgramState → Type 0) (s : ProgramState) → goes s
      → ((found : ResolvedOperand) (chars : List ℕ) → operand_taken program s (receiver_of a) ≡ Some found → goes (put_in (spot_in found) chars s))
      → EndsWell replies goes (arithmetic_on program a Goes Goes s)
  adds program a goes s stays gets =
      any-taken goes (operand_taken program s a.first) s _ (λ x e.
      any-taken goes (operand_taken program s a.second) s _ (λ y f.
      any-taken goes (operand_taken program s (receiver_of a)) s _ (λ z g.
      stored goes (spot_in z) (spot_in z).picture
      (operated a.operation (receiver_decimals (spot_in z).picture) (number_of (value_in x s.store)) (number_of (value_in y s.store))) s refl stays (λ chars. gets z chars g))))

  -- a MOVE to one item
  pub moves-one : (setting : Setting) (from to : Operand) (goes : ProgramState → Type 0) (s : ProgramState)
      → ((found : ResolvedOperand) (chars : List ℕ) → operand_taken setting.program s to ≡ Some found → goes (put_in (spot_in found) chars s))
      → EndsWell replies goes (move_all setting from (to ∷ []) s)
  moves-one setting from to goes s gets =
      any-taken goes (operand_taken setting.program s from) s _ (λ x e. one x (operand_taken setting.program s to) (λ z chars f. gets z chars f))
    where
      one : (x : ResolvedOperand) (o : Option ResolvedOperand) → ((found : ResolvedOperand) (chars : List ℕ) → o ≡ Some found → goes (put_in (spot_in found) chars s))
          → EndsWell replies goes (with_taken (one_more o (Some [])) s (λ targets. Goes (record s { store = moves x (map spot_in targets) s.store })))
      one x None now = tt
      one x (Some z) now = now z (moved_chars (spot_in z).picture (spot_in z).size (value_in x s.store)) refl

  -- a MOVE to several, where putting into any item keeps what is known
  module _ (goes : ProgramState → Type 0) (any : (spot : Spot) (chars : List ℕ) (s : ProgramState) → goes s → goes (put_in spot chars s)) where
    moved-on : (x : ResolvedOperand) (spots : List Spot) (s : ProgramState) → goes s → goes (record s { store = moves x spots s.store })
    moved-on x [] s now = now
    moved-on x (spot ∷ spots) s now = moved-on x spots (put_in spot (moved_chars spot.picture spot.size (value_in x s.store)) s) (any spot (moved_chars spot.picture spot.size (value_in x s.store)) s now)

    pub moves-any : (setting : Setting) (from : Operand) (to : List Operand) (s : ProgramState) → goes s → EndsWell replies goes (move_all setting from to s)
    moves-any setting from to s now =
        any-taken goes (operand_taken setting.program s from) s _ (λ x e.
        any-taken goes (taken_all setting.program s to) s _ (λ xs f. moved-on x (map spot_in xs) s now))

  -- a READ NEXT
  pub finds : (goes : ProgramState → Type 0) (o : Option (List ℕ)) (spot : Spot) (s : ProgramState)
      → (o ≡ None → goes (record s { registers = record s.registers { file_status = 1 } }))
      → ((content : List ℕ) → o ≡ Some content → goes (put_in spot (moved_chars spot.picture spot.size (Text' content)) (record s { registers = record s.registers { file_status = 0 } })))
      → EndsWell replies goes (file_done (Some spot) (read_answer 1 o).status (read_answer 1 o).content s)
  finds goes None spot s missing there = missing refl
  finds goes (Some content) spot s missing there = there content refl

-- a file that gets the records that it has
pub own-records : (files : RecordsByFile) (f : ℕ) (goes : RecordsByFile → Type 0) → goes files → goes (upd files f (files f))
own-records files f goes now = subst goes (sym (fun_ext (λ j. same j))) now
  where
    same : (j : ℕ) → upd files f (files f) j ≡ files j
    same j = upd_elim files f (files f) j (λ records. records ≡ files j) (λ is. ap files (sym is)) (λ ne. refl)

-- ---- statements

abbrev pub counted : ProgramState → ProgramState
counted s = record s { count = s.count + 1 }

-- a statement of a list, and a MOVE or an ADD
abbrev pub nth : ℕ → List Statement → Statement
nth k [] = form.Exit 0
nth zero (one ∷ rest) = one
nth (suc k) (one ∷ rest) = nth k rest

abbrev pub IsPlain : Statement → Type 0
IsPlain (form.Move line from to) = Unit {0}
IsPlain (form.Arithmetic line a) = Unit {0}
IsPlain _ = ⊥

abbrev pub IsPlainRow : {n : _} → Row_of-Statement n → Type 0
IsPlainRow end_of-Statement = Unit {0}
IsPlainRow (more_of-Statement one rest) = IsPlain one × IsPlainRow rest

module _ (replies : List ℕ → RecordsByFile → Type 0) (setting : Setting) (perform : Word → ProgramState → Out) (call : ℕ → List (List ℕ) → ProgramState → Out) (goes : ProgramState → Type 0) where
  -- one statement of some, behind which something is known
  pub step : (between : ProgramState → Type 0) (one : Statement) (rest : List Statement) (s : ProgramState)
      → EndsWell replies between (statement setting perform call one s) → ((t : ProgramState) → between t → EndsWell replies goes (body setting perform call rest t))
      → EndsWell replies goes (body setting perform call (one ∷ rest) s)
  step between one rest s now next = then-well replies between goes (statement setting perform call one s) (body setting perform call rest) now next

  pub row-step : (between : ProgramState → Type 0) (one : Statement) {n : _} (rest : Row_of-Statement n) (s : ProgramState)
      → EndsWell replies between (statement setting perform call one s) → ((t : ProgramState) → between t → EndsWell replies goes (branch_row setting perform call rest t))
      → EndsWell replies goes (branch_row setting perform call (more_of-Statement one rest) s)
  row-step between one rest s now next = then-well replies between goes (statement setting perform call one s) (branch_row setting perform call rest) now next

  pub add-step : (a : arithmetic.ArithmeticForm) (s : ProgramState) → goes (counted s)
      → ((found : ResolvedOperand) (chars : List ℕ) → operand_taken setting.program (counted s) (receiver_of a) ≡ Some found → goes (put_in (spot_in found) chars (counted s)))
      → EndsWell replies goes (statement_counted (arithmetic_on setting.program a Goes Goes) s)
  add-step a s stays gets =
      counted-well replies goes (arithmetic_on setting.program a Goes Goes) s (adds replies setting.program a goes (counted s) stays gets)

  pub move-step : (from to : Operand) (s : ProgramState)
      → ((found : ResolvedOperand) (chars : List ℕ) → operand_taken setting.program (counted s) to ≡ Some found → goes (put_in (spot_in found) chars (counted s)))
      → EndsWell replies goes (statement_counted (move_all setting from (to ∷ [])) s)
  move-step from to s gets =
      counted-well replies goes (move_all setting from (to ∷ [])) s (moves-one replies setting from to goes (counted s) gets)

  pub if-step : (cond : ConditionForm) (first second : ProgramState → Out) (s : ProgramState)
      → (holds setting.program (counted s) cond ≡ Some true → EndsWell replies goes (first (counted s)))
      → (holds setting.program (counted s) cond ≡ Some false → EndsWell replies goes (second (counted s)))
      → EndsWell replies goes (statement_counted (λ s. branch (holds setting.program s cond) first second s) s)
  if-step cond first second s one other =
      counted-well replies goes (λ s. branch (holds setting.program s cond) first second s) s
      (either replies goes (holds setting.program (counted s) cond) first second (counted s) one other)

  pub perform-step : (paragraph : Word) (s : ProgramState) → EndsWell replies goes (perform paragraph (counted (counted s)))
      → EndsWell replies goes (statement_counted (statement_counted (perform paragraph)) s)
  perform-step paragraph s now =
      counted-well replies goes (statement_counted (perform paragraph)) s (counted-well replies goes (perform paragraph) (counted s) now)

  pub until-step : (paragraph : Word) (cond : ConditionForm) (s : ProgramState)
      → ((t : ProgramState) → goes t → EndsWell replies goes (perform paragraph (counted t))) → goes (counted s)
      → EndsWell replies goes (statement_counted (perform_until setting (perform paragraph) cond) s)
  until-step paragraph cond s keeps now =
      counted-well replies goes (perform_until setting (perform paragraph) cond) s
      (until replies goes (λ t. holds setting.program t cond) (perform paragraph) (λ t known. counted-well replies goes (perform paragraph) t (keeps t known)) (budget (counted s)) (counted s) now)

  -- what is known is kept by all MOVEs and ADDs
  module _ (counts : (s : ProgramState) → goes s → goes (counted s)) (any : (spot : Spot) (chars : List ℕ) (s : ProgramState) → goes s → goes (put_in spot chars s)) where
    pub plain-step : (one : Statement) → IsPlain one → (s : ProgramState) → goes s → EndsWell replies goes (statement setting perform call one s)
    plain-step (form.Move line from to) plain s now =
        counted-well replies goes (move_all setting from to) s (moves-any replies goes any setting from to (counted s) (counts s now))
    plain-step (form.Arithmetic line a) plain s now =
        add-step a s (counts s now) (λ found chars e. any (spot_in found) chars (counted s) (counts s now))
    plain-step _ plain s now = absurd plain

    pub plain-row : {n : _} (row : Row_of-Statement n) → IsPlainRow row → (s : ProgramState) → goes s → EndsWell replies goes (branch_row setting perform call row s)
    plain-row end_of-Statement plain s now = now
    plain-row (more_of-Statement one rest) plain s now =
        row-step goes one rest s (plain-step one plain.0 s now) (λ t known. plain-row rest plain.1 t known)
