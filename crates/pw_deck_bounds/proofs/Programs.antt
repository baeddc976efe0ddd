-- The pace of a requester's program is that of its statements.
use Rattle.std.proofs.Common.{◌≡◌, inl, inr, ⊎_elim, ℕ, zero, suc, ◌+◌, ◌*◌, ◌==◌, ◌≤◌, Bool, true, false, List, [], ◌∷◌, map, slice_get, if◌then◌else◌, Option, Some, None, Result, Ok, Err, refl, ap, sym, subst, ◌∙◌, arith}
use Rattle.std.specs.Prelude.{nat_lt}
use Rattle.std.proofs.lemmas.Bool.{and_parts, eqb-true}
use Rattle.pw_code.specs.Limits.{most_active}
use Rattle.pw_code.specs.declared.file.FileOp.TheVariants.{Next, NextLock, Read, ReadLock, Rewrite, Write}
use Rattle.pw_code.specs.declared.verb.Verb.{Verb}
use Rattle.pw_code.specs.declared.verb.Answer.{Answer}
use Rattle.pw_forms.specs.declared.cond.ConditionForm.{ConditionForm}
use Rattle.pw_forms.specs.declared.operand.Operand.{Operand}
use Rattle.pw_forms.specs.declared.operand.Operand.TheVariants as operands
use Rattle.pw_forms.specs.declared.statement.ArithmeticForm.{ArithmeticForm}
use Rattle.pw_forms.specs.declared.statement.Paragraph.{Paragraph}
use Rattle.pw_forms.specs.declared.statement.Statement.{Statement}
use Rattle.pw_forms.specs.declared.statement.Statement as form
use Rattle.pw_forms.specs.declared.statement.Statement.{Row_of-Statement, end_of-Statement, more_of-Statement}
use Rattle.pw_words.specs.Words.{Word}
use Rattle.pw_tree_meaning.specs.Arithmetic.{arithmetic_on}
use Rattle.pw_tree_meaning.specs.Conditions.{holds}
use Rattle.pw_tree_meaning.specs.Operands.{Fixed, ResolvedOperand, operand_taken, spot_in, value_in}
use Rattle.pw_tree_meaning.specs.Performs.{at_position, call_program, caller_state, chars_of_all, comes_back, parameter_spots, perform_chosen, perform_one_of, perform_times, perform_until, put_all, turns, turns_until}
use Rattle.pw_tree_meaning.specs.Program.{DeckModel, Program, body_named, program_at, program_number, screen_named, storage_size}
use Rattle.pw_tree_meaning.specs.Runs.{called, flow, most_performs, performed, program_run, setting_of}
use Rattle.pw_tree_meaning.specs.Files.{delete, read, read_next, receive, reply, write_by}
use Rattle.pw_tree_meaning.specs.Screens.{accept, display, display_table}
use Rattle.pw_tree_meaning.specs.Sends.{abort, begin, end, restart, send, stop}
use Rattle.pw_tree_meaning.specs.Setting.{Setting}
use Rattle.pw_tree_meaning.specs.State.{Goes, Leaves, Out, ProgramState, faults, most_counted, statement_counted, then_do}
use Rattle.pw_tree_meaning.specs.Statements.{body, branch, branch_row, move_all, statement}
use Rattle.pw_tree_meaning.specs.Store.{Spot, Store, initial_store}
use Rattle.pw_tree_meaning.specs.Values.{Number', number_in, number_of, whole_part}
use Rattle.pw_tree_meaning.proofs.Budget.{enough-requester}
use Rattle.pw_tree_meaning.proofs.trees.Taken.{holds-at}
use Rattle.pw_tree_meaning.proofs.trees.Trees.{Files, Here, Left, Stuck, Tree, Waits, at, play}
use Rattle.pw_deck_bounds.specs.Paces.{OpenLoop, Pace, accepting, asking, body_pace, called_pace, counted_turns, either, final, flow_pace, followed, of_turns, one_of, optional, perhaps, performed_pace, program_pace, row_pace, silent, statement_pace, together, told_turns}
use Rattle.pw_deck_bounds.proofs.Asking.{paced-abort, paced-accept, paced-arithmetic, paced-begin, paced-delete, paced-display, paced-end, paced-move, paced-read, paced-receive, paced-reply, paced-restart, paced-send, paced-stop, paced-table, paced-write}
use Rattle.pw_deck_bounds.proofs.Turns.{IsHeld, looped, paced-counted-turns, paced-turns, paced-until}
use Rattle.pw_deck_bounds.proofs.Walks.{Keeps, Paced, Walks, paced-counted, paced-then, walks-by, walks-fault, walks-here, walks-left, walks-operand, walks-operands, walks-same, walks-slower}

-- ---- what a pace that is told is made of

record Parts (join : Pace → Pace → Pace) (x y : Result Pace OpenLoop) (p : Pace) : Type 0 where
  first : Pace
  first_is : x ≡ Ok first
  second : Pace
  second_is : y ≡ Ok second
  joined : join first second ≡ p

parts : (join : Pace → Pace → Pace) (x y : Result Pace OpenLoop) (p : Pace) → together join x y ≡ Ok p → Parts join x y p
parts join (Err loop) y p is = absurd (cc is)
parts join (Ok a) (Err loop) p is = absurd (cc is)
parts join (Ok a) (Ok b) p is = record { first = a; first_is = refl; second = b; second_is = refl; joined = cc is }

left-out : (x : Result Pace OpenLoop) (p : Pace) → optional x ≡ Ok p → (a : Pace) × (x ≡ Ok a) × (perhaps a ≡ p)
left-out (Err loop) p is = absurd (cc is)
left-out (Ok a) p is = (a, refl, cc is)

-- a loop that is told is held, or its turns are counted
data TurnsAre (otherwise : Pace → Result Pace OpenLoop) (a p : Pace) : Type 0 where
  held : IsHeld a → p.row ≡ a.row + a.row → p.enters ≡ false → TurnsAre otherwise a p
  counted : otherwise a ≡ Ok p → TurnsAre otherwise a p

turns-told : (otherwise : Pace → Result Pace OpenLoop) (x : Result Pace OpenLoop) (p : Pace) → of_turns otherwise x ≡ Ok p → (a : Pace) × (x ≡ Ok a) × TurnsAre otherwise a p
turns-told otherwise (Err loop) p is = absurd (cc is)
turns-told otherwise (Ok a) p is = (a, refl, by (a.row == 0) refl a.enters refl is)
  where
    by : (none : Bool) → (a.row == 0) ≡ none → (enters : Bool) → a.enters ≡ enters
        → (if none then Ok silent else if enters then Ok (record { row = a.row + a.row; enters = false }) else otherwise a) ≡ Ok p → TurnsAre otherwise a p
    by true zero_is enters enters_is told =
        let none : a.row ≡ 0 = eqb-true a.row 0 zero_is in
        let same : silent ≡ p = cc told in
        held (inr none) (let row = ap (λ (x : Pace). x.row) same in omega (arith, none, row)) (sym (ap (λ (x : Pace). x.enters) same))
    by false zero_is true enters_is told =
        let same : record { row = a.row + a.row; enters = false } ≡ p = cc told in
        held (inl enters_is) (sym (ap (λ (x : Pace). x.row) same)) (sym (ap (λ (x : Pace). x.enters) same))
    by false zero_is false enters_is told = counted told

-- one paragraph of several is no faster than all
one-of-row : (perform : Word → Result Pace OpenLoop) (names : List Word) (p : Pace) → one_of perform names ≡ Ok p → (place : ℕ) (name : Word) → slice_get names place ≡ Some name
    → (a : Pace) × (perform name ≡ Ok a) × (a.row ≤ p.row)
one-of-row perform [] p is place name found = absurd (cc found)
one-of-row perform (first ∷ names) p is zero name found =
    let both = parts either (perform first) (one_of perform names) p is in
    let row = ap (λ (x : Pace). x.row) both.joined in
    (both.first, ap perform (let same : name ≡ first = cc found in same) ∙ both.first_is, omega (arith, row))
one-of-row perform (first ∷ names) p is (suc place) name found =
    let both = parts either (perform first) (one_of perform names) p is in
    let row = ap (λ (x : Pace). x.row) both.joined in
    let rest = one-of-row perform names both.second both.second_is place name found in
    (rest.0, rest.1, let low = rest.2 in omega (arith, row, low))

-- the same as a fact of the step itself
record IsPaced (most : ℕ) (p : Pace) (f : ProgramState → Out) : Type 0 where
  walks : Paced most p f

module _ (most : ℕ) where
  -- one of two
  first-either : (a b : Pace) (f : ProgramState → Out) → Paced most a f → Paced most (either a b) f
  first-either a b f w s = walks-slower most a (either a b) _ (omega arith) (λ is. (and_parts a.enters b.enters is).0) (w s)

  second-either : (a b : Pace) (f : ProgramState → Out) → Paced most b f → Paced most (either a b) f
  second-either a b f w s = walks-slower most b (either a b) _ (omega arith) (λ is. (and_parts a.enters b.enters is).1) (w s)

  -- the pace that is told
  at-pace : (a p : Pace) (f : ProgramState → Out) → a ≡ p → Paced most a f → IsPaced most p f
  at-pace a p f is w = subst (λ (x : Pace). IsPaced most x f) is (record { walks = w })

  told-pace : (a p : Pace) (f : ProgramState → Out) → ◌≡◌ {A = Result Pace OpenLoop} (Ok a) (Ok p) → Paced most a f → IsPaced most p f
  told-pace a p f is w = at-pace a p f (let same : a ≡ p = cc is in same) w

  -- the same of a statement that is counted
  counted-is : (p : Pace) (f : ProgramState → Out) → Paced most p f → IsPaced most p (statement_counted f)
  counted-is p f w = record { walks = paced-counted most p f w }

  counted-at : (a p : Pace) (f : ProgramState → Out) → a ≡ p → Paced most a f → IsPaced most p (statement_counted f)
  counted-at a p f is w = at-pace a p (statement_counted f) is (paced-counted most a f w)

  counted-told : (a p : Pace) (f : ProgramState → Out) → ◌≡◌ {A = Result Pace OpenLoop} (Ok a) (Ok p) → Paced most a f → IsPaced most p (statement_counted f)
  counted-told a p f is w = counted-at a p f (let same : a ≡ p = cc is in same) w

  -- and of a PERFORM, whose turn is counted too
  turn-is : (p : Pace) (f : ProgramState → Out) → IsPaced most p f → IsPaced most p (statement_counted (statement_counted f))
  turn-is p f w = counted-is p (statement_counted f) (paced-counted most p f w.walks)

  -- one step after the other
  then-is : (x y : Result Pace OpenLoop) (p : Pace) (f next : ProgramState → Out) → together followed x y ≡ Ok p → ((own : Pace) → x ≡ Ok own → IsPaced most own f)
      → ((own : Pace) → y ≡ Ok own → IsPaced most own next) → IsPaced most p (λ s. then_do (f s) next)
  then-is x y p f next is w v =
      let both = parts followed x y p is in
      at-pace (followed both.first both.second) p (λ s. then_do (f s) next) both.joined
      (paced-then most both.first both.second f next (w both.first both.first_is).walks (v both.second both.second_is).walks)

  -- ---- a program that comes back to its caller

  module _ (callee : Program) (places : List Spot) (store : Store) where
    abbrev back : Tree → Tree
    back (Here s) = Here (caller_state callee places store s)
    back (Left s) = Here (caller_state callee places store s)
    back (Stuck v s) = Stuck v s
    back (Waits v s next) = Waits v s (λ a. back (next a))

    keeps-back : (a : Pace) (t : Tree) (taken : ℕ) (entered : Bool) → Keeps a taken entered t → Keeps (perhaps a) taken entered (back t)
    keeps-back a (Here s) taken entered keeps = λ is. absurd (cc is)
    keeps-back a (Left s) taken entered keeps = λ is. absurd (cc is)
    keeps-back a (Stuck v s) taken entered keeps = keeps
    keeps-back a (Waits v s next) taken entered keeps =
        ⊎_elim (λ entry. inl (entry.0, λ line. keeps-back a (next _) 0 true (entry.1 line))) (λ other. inr (other.0, λ x. keeps-back a (next x) (taken + 1) entered (other.1 x))) keeps

    waited-back : (v : Verb) (s : ProgramState) (next : Answer → Tree)
        → ((a : Answer) (answers : List Answer) (files : Files) → comes_back callee places store (play (next a) answers files) ≡ play (back (next a)) answers files)
        → (answers : List Answer) (files : Files) → comes_back callee places store (play (Waits v s next) answers files) ≡ play (Waits v s (λ a. back (next a))) answers files
    waited-back v s next same [] files = refl
    waited-back v s next same (a ∷ answers) files = same a answers files

    plays-back : (t : Tree) (answers : List Answer) (files : Files) → comes_back callee places store (play t answers files) ≡ play (back t) answers files
    plays-back (Here s) answers files = refl
    plays-back (Left s) answers files = refl
    plays-back (Stuck v s) answers files = refl
    plays-back (Waits v s next) answers files = waited-back v s next (λ a. plays-back (next a)) answers files

    walks-back : (a : Pace) (run : List Answer → Files → Out) → Walks most a run → Walks most (perhaps a) (λ answers files. comes_back callee places store (run answers files))
    walks-back a run w = record {
      tree = back w.tree;
      keeps = keeps-back a w.tree 0 false w.keeps;
      plays = λ answers files low. ap (comes_back callee places store) (w.plays answers files low) ∙ plays-back w.tree answers files;
    }

  -- ---- the statements of a program, where its calls keep their paces

  module _ (deck : DeckModel) (q n used : ℕ)
      (calls : (callee : ℕ) (p : Pace) → called_pace n deck callee ≡ Ok p → (arguments : List (List ℕ)) → Paced most p (called n deck used callee arguments)) where
    abbrev here : Setting
    here = setting_of deck q

    abbrev program : Program
    program = program_at deck.programs q

    abbrev call_pace : Word → Result Pace OpenLoop
    call_pace name = called_pace n deck (program_number deck name)

    paced-call : (name : Word) (arguments : List Operand) (a : Pace) → call_pace name ≡ Ok a → Paced most (perhaps a) (call_program here (called n deck used) name arguments)
    paced-call name arguments a is s =
        walks-operands most (perhaps a) program s arguments _ (λ found.
        walks-back (program_at deck.programs (program_number deck name)) (map spot_in found) s.store a _
        (calls (program_number deck name) a is (chars_of_all (map spot_in found) s.store) s))

    module _ (d : ℕ) where
      abbrev turn : Word → ProgramState → Out
      turn = performed d here (called n deck used)

      abbrev turn_pace : Word → Result Pace OpenLoop
      turn_pace = performed_pace d program call_pace

      module _ (performs : (name : Word) (p : Pace) → turn_pace name ≡ Ok p → IsPaced most p (turn name)) where
        -- a held loop keeps the pace that is told
        at-loop : (a p : Pace) (f : ProgramState → Out) → p.row ≡ a.row + a.row → p.enters ≡ false → Paced most (looped a) f → Paced most p f
        at-loop a p f row enters w s = walks-slower most (looped a) p _ (omega (arith, row)) (λ is. absurd (cc (is, enters))) (w s)

        paced-perform-until : (name : Word) (cond : ConditionForm) (a : Pace) → IsHeld a → turn_pace name ≡ Ok a → Paced most (looped a) (perform_until here (turn name) cond)
        paced-perform-until name cond a holds_a is s =
            let k : ℕ = most_counted + most_counted * most in
            walks-same most (looped a) (λ answers files. turns_until k (λ t. holds program t cond) (turn name) (at answers files s)) _
            (paced-until most a holds_a (turn name) (performs name a is).walks (λ t. holds program t cond) (λ t answers files. holds-at program answers files t cond) k s)
            (λ answers files low. sym (enough-requester deck q d n used k name cond (at answers files s) (omega (arith, low))))

        -- turns that a literal counts
        literal-turns : (times : Operand) (k : ℕ) → told_turns times ≡ Some k → (s : ProgramState) (found : ResolvedOperand) → operand_taken program s times ≡ Some found
            → whole_part (number_of (value_in found s.store)) ≡ k
        literal-turns (operands.Number spelling) k told s found taken =
            let fixed : Fixed (Number' spelling) ≡ found = cc taken in
            ap (λ (x : ResolvedOperand). whole_part (number_of (value_in x s.store))) (sym fixed) ∙ (let same : whole_part (number_in spelling) ≡ k = cc told in same)
        literal-turns (operands.Item name subscript) k told s found taken = absurd (cc told)
        literal-turns (operands.Text chars) k told s found taken = absurd (cc told)
        literal-turns operands.Spaces k told s found taken = absurd (cc told)
        literal-turns operands.Zeros k told s found taken = absurd (cc told)

        paced-times : (name : Word) (times : Operand) (loop : OpenLoop) (a p : Pace) → turn_pace name ≡ Ok a → TurnsAre (counted_turns (told_turns times) loop) a p
            → Paced most p (perform_times here (turn name) times)
        paced-times name times loop a p is (held holds_a row enters) s =
            walks-operand most p program s times _ (λ found e.
            at-loop a p (turns (whole_part (number_of (value_in found s.store))) (turn name)) row enters
            (paced-turns most a holds_a (turn name) (performs name a is).walks (whole_part (number_of (value_in found s.store)))) s)
        paced-times name times loop a p is (counted told) s = by (told_turns times) refl told
          where
            by : (o : Option ℕ) → told_turns times ≡ o → counted_turns o loop a ≡ Ok p → Walks most p (λ answers files. perform_times here (turn name) times (at answers files s))
            by None none told = absurd (cc told)
            by (Some k) some told =
                walks-operand most p program s times _ (λ found e.
                subst (λ (j : ℕ). Walks most p (λ answers files. turns j (turn name) (at answers files s))) (sym (literal-turns times k some s found e))
                ((told-pace (record { row = k * a.row; enters = false }) p (turns k (turn name)) told (paced-counted-turns most a (turn name) (performs name a is).walks k)).walks s))

        paced-chosen : (names : List Word) (a : Pace) → one_of turn_pace names ≡ Ok a → (place : ℕ) → Paced most (perhaps a) (perform_chosen turn (at_position names place))
        paced-chosen names a is zero s = walks-slower most silent (perhaps a) _ (omega arith) (λ e. absurd (cc e)) (walks-here most s)
        paced-chosen names a is (suc place) s = by (slice_get names place) refl
          where
            by : (o : Option Word) → slice_get names place ≡ o → Walks most (perhaps a) (λ answers files. perform_chosen turn o (at answers files s))
            by None none = walks-slower most silent (perhaps a) _ (omega arith) (λ e. absurd (cc e)) (walks-here most s)
            by (Some name) found =
                let one = one-of-row turn_pace names a is place name found in
                walks-slower most one.0 (perhaps a) _ one.2 (λ e. absurd (cc e)) (paced-counted most one.0 (turn name) (performs name one.0 one.1).walks s)

        paced-one-of : (names : List Word) (position : Operand) (a : Pace) → one_of turn_pace names ≡ Ok a → Paced most (perhaps a) (perform_one_of here turn names position)
        paced-one-of names position a is s =
            walks-operand most (perhaps a) program s position _ (λ found e. paced-chosen names a is (whole_part (number_of (value_in found s.store))) s)

        paced-branch : (o : Option Bool) (p : Pace) (first second : ProgramState → Out) → Paced most p first → Paced most p second → Paced most p (branch o first second)
        paced-branch None p first second w v s = walks-fault most p 203 s
        paced-branch (Some true) p first second w v s = w s
        paced-branch (Some false) p first second w v s = v s

        paced-if : (cond : ConditionForm) (p : Pace) (first second : ProgramState → Out) → Paced most p first → Paced most p second
            → Paced most p (λ s. branch (holds program s cond) first second s)
        paced-if cond p first second w v s =
            walks-same most p _ _ (paced-branch (holds program s cond) p first second w v s)
            (λ answers files low. ap (λ o. branch o first second (at answers files s)) (holds-at program answers files s cond))

        -- branches by a size error, and by a condition
        paced-size-error : (a : ArithmeticForm) (first second : ProgramState → Out) (x y : Result Pace OpenLoop) (p : Pace) → together either x y ≡ Ok p
            → ((own : Pace) → x ≡ Ok own → IsPaced most own first) → ((own : Pace) → y ≡ Ok own → IsPaced most own second)
            → IsPaced most p (statement_counted (arithmetic_on program a first second))
        paced-size-error a first second x y p is w v =
            let both = parts either x y p is in
            let joined : Pace = either both.first both.second in
            counted-at joined p (arithmetic_on program a first second) both.joined
            (paced-arithmetic most joined first second (first-either both.first both.second first (w both.first both.first_is).walks)
            (second-either both.first both.second second (v both.second both.second_is).walks) program a)

        paced-either : (cond : ConditionForm) (first second : ProgramState → Out) (x y : Result Pace OpenLoop) (p : Pace) → together either x y ≡ Ok p
            → ((own : Pace) → x ≡ Ok own → IsPaced most own first) → ((own : Pace) → y ≡ Ok own → IsPaced most own second)
            → IsPaced most p (statement_counted (λ s. branch (holds program s cond) first second s))
        paced-either cond first second x y p is w v =
            let both = parts either x y p is in
            let joined : Pace = either both.first both.second in
            counted-at joined p (λ s. branch (holds program s cond) first second s) both.joined
            (paced-if cond joined first second (first-either both.first both.second first (w both.first both.first_is).walks)
            (second-either both.first both.second second (v both.second both.second_is).walks))

        until-by : (paragraph : Word) (cond : ConditionForm) (loop : OpenLoop) (a p : Pace) → turn_pace paragraph ≡ Ok a → TurnsAre (counted_turns None loop) a p
            → Paced most p (perform_until here (turn paragraph) cond)
        until-by paragraph cond loop a p is (held holds_a row enters) = at-loop a p (perform_until here (turn paragraph) cond) row enters (paced-perform-until paragraph cond a holds_a is)
        until-by paragraph cond loop a p is (counted told) = absurd (cc told)

        module _ (name : Word) where
          abbrev run : Statement → ProgramState → Out
          run = statement here turn (called n deck used)

          abbrev pace : Statement → Result Pace OpenLoop
          pace = statement_pace program turn_pace call_pace name

          mutual
            statement-paced : (one : Statement) (p : Pace) → pace one ≡ Ok p → IsPaced most p (run one)
            statement-paced (form.Move line from to) p is = counted-told silent p (move_all here from to) is (paced-move most deck q from to)
            statement-paced (form.Arithmetic line a) p is =
                counted-told silent p (arithmetic_on program a Goes Goes) is (paced-arithmetic most silent Goes Goes (walks-here most) (walks-here most) program a)
            statement-paced (form.OnSizeError' line a k first m second) p is =
                paced-size-error a (branch_row here turn (called n deck used) first) (branch_row here turn (called n deck used) second)
                (row_pace program turn_pace call_pace name first) (row_pace program turn_pace call_pace name second) p is (row-paced first) (row-paced second)
            statement-paced (form.If' line cond k first m second) p is =
                paced-either cond (branch_row here turn (called n deck used) first) (branch_row here turn (called n deck used) second)
                (row_pace program turn_pace call_pace name first) (row_pace program turn_pace call_pace name second) p is (row-paced first) (row-paced second)
            statement-paced (form.Perform line paragraph) p is =
                turn-is p (turn paragraph) (performs paragraph p is)
            statement-paced (form.PerformTimes line paragraph times) p is =
                let told = turns-told (counted_turns (told_turns times) (record { program = program.name; paragraph = name; line = line })) (turn_pace paragraph) p is in
                counted-is p (perform_times here (turn paragraph) times)
                (paced-times paragraph times (record { program = program.name; paragraph = name; line = line }) told.0 p told.1 told.2)
            statement-paced (form.PerformUntil line paragraph cond) p is =
                let told = turns-told (counted_turns None (record { program = program.name; paragraph = name; line = line })) (turn_pace paragraph) p is in
                counted-is p (perform_until here (turn paragraph) cond)
                (until-by paragraph cond (record { program = program.name; paragraph = name; line = line }) told.0 p told.1 told.2)
            statement-paced (form.PerformOneOf line paragraphs position) p is =
                let told = left-out (one_of turn_pace paragraphs) p is in
                counted-at (perhaps told.0) p (perform_one_of here turn paragraphs position) told.2 (paced-one-of paragraphs position told.0 told.1)
            statement-paced (form.Exit line) p is = counted-told silent p Goes is (walks-here most)
            statement-paced (form.ExitProgram line) p is = counted-told final p Leaves is (walks-left most final)
            statement-paced (form.StopRun line) p is = counted-told final p (stop here) is (paced-stop most deck q)
            statement-paced (form.DisplayBase line screen) p is =
                counted-told asking p (display_table true (screen_named program screen)) is (paced-table most true (screen_named program screen))
            statement-paced (form.Display line shown) p is = counted-told asking p (display here shown) is (paced-display most deck q shown)
            statement-paced (form.Accept line screen keys) p is =
                counted-told (accepting (screen_named program screen)) p (accept here screen keys) is (paced-accept most deck q screen keys)
            statement-paced (form.Call line callee arguments) p is =
                let told = left-out (call_pace callee) p is in
                counted-at (perhaps told.0) p (call_program here (called n deck used) callee arguments) told.2 (paced-call callee arguments told.0 told.1)
            statement-paced (form.Send line message class codes) p is = counted-told asking p (send here message class codes) is (paced-send most deck q message class codes)
            statement-paced (form.Begin line) p is = counted-told asking p begin is (paced-begin most)
            statement-paced (form.End line) p is = counted-told asking p end is (paced-end most)
            statement-paced (form.Abort line) p is = counted-told asking p abort is (paced-abort most)
            statement-paced (form.Restart line) p is = counted-told final p restart is (paced-restart most)
            statement-paced (form.Receive line into) p is = counted-told silent p (receive here into) is (paced-receive most deck q into)
            statement-paced (form.Reply line from) p is = counted-told final p (reply here from) is (paced-reply most deck q from)
            statement-paced (form.Read line file locking key into) p is =
                counted-told asking p (read here file locking key into) is (paced-read most deck q (if locking then ReadLock else Read) file key into)
            statement-paced (form.ReadNext line file locking after into) p is =
                counted-told asking p (read_next here file locking after into) is (paced-read most deck q (if locking then NextLock else Next) file after into)
            statement-paced (form.Write line file from) p is = counted-told asking p (write_by here Write file from) is (paced-write most deck q Write file from)
            statement-paced (form.Rewrite line file from) p is = counted-told asking p (write_by here Rewrite file from) is (paced-write most deck q Rewrite file from)
            statement-paced (form.Delete line file key) p is = counted-told asking p (delete here file key) is (paced-delete most deck q file key)

            row-paced : {k : _} → (row : Row_of-Statement k) (p : Pace) → row_pace program turn_pace call_pace name row ≡ Ok p → IsPaced most p (branch_row here turn (called n deck used) row)
            row-paced end_of-Statement p is = told-pace silent p Goes is (walks-here most)
            row-paced (more_of-Statement one rest) p is =
                then-is (pace one) (row_pace program turn_pace call_pace name rest) p (run one) (branch_row here turn (called n deck used) rest) is (statement-paced one) (row-paced rest)

          body-paced : (statements : List Statement) (p : Pace) → body_pace program turn_pace call_pace name statements ≡ Ok p → IsPaced most p (body here turn (called n deck used) statements)
          body-paced [] p is = told-pace silent p Goes is (walks-here most)
          body-paced (one ∷ rest) p is =
              then-is (pace one) (body_pace program turn_pace call_pace name rest) p (run one) (body here turn (called n deck used) rest) is (statement-paced one) (body-paced rest)

    performs-paced : (d : ℕ) (name : Word) (p : Pace) → performed_pace d program call_pace name ≡ Ok p → IsPaced most p (performed d here (called n deck used) name)
    performs-paced zero name p is = record { walks = λ s. walks-fault most p 202 s }
    performs-paced (suc d) name p is = body-paced d (performs-paced d) name (body_named program name) p is

    flow-paced : (paragraphs : List Paragraph) (p : Pace) → flow_pace program (performed_pace most_performs program call_pace) call_pace paragraphs ≡ Ok p
        → IsPaced most p (flow here (performed most_performs here (called n deck used)) (called n deck used) paragraphs)
    flow-paced [] p is = told-pace silent p Goes is (walks-here most)
    flow-paced (paragraph ∷ rest) p is =
        then-is (body_pace program (performed_pace most_performs program call_pace) call_pace paragraph.name paragraph.body)
        (flow_pace program (performed_pace most_performs program call_pace) call_pace rest) p
        (body here (performed most_performs here (called n deck used)) (called n deck used) paragraph.body) (flow here (performed most_performs here (called n deck used)) (called n deck used) rest) is
        (body-paced most_performs (performs-paced most_performs) paragraph.name paragraph.body) (flow-paced rest)

    pub program-paced : (p : Pace) → program_pace program call_pace ≡ Ok p → Paced most p (program_run here (called n deck used))
    program-paced p is = (flow-paced program.paragraphs p is).walks

  -- each call keeps its pace
  pub called-paced : (deck : DeckModel) (n used q : ℕ) (p : Pace) → called_pace n deck q ≡ Ok p → (arguments : List (List ℕ)) → Paced most p (called n deck used q arguments)
  called-paced deck zero used q p is arguments s = walks-fault most p 202 s
  called-paced deck (suc n) used q p is arguments s =
      let callee : Program = program_at deck.programs q in
      let active : ℕ = used + storage_size callee in
      walks-by most p (nat_lt most_active active) (λ answers files. faults 208 (at answers files s)) _ (walks-fault most p 208 s)
      (program-paced deck q n active (λ own a told given. called-paced deck n active own a told given) p is
      (record s { store = put_all (parameter_spots callee) arguments (initial_store callee) }))
