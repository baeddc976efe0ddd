-- What a requester's statements have to meet is enough, by induction on them.
use Rattle.std.proofs.Common.{◌≡◌, ℕ, zero, suc, ◌+◌, ◌*◌, ◌≤◌, Bool, true, false, List, [], ◌∷◌, map, slice_get, Option, Some, None, refl, sym, ap, ◌∙◌, subst, arith}
use Rattle.std.proofs.lemmas.List.{length-map}
use Rattle.pw_code.specs.Entry.{EntryLineModel}
use Rattle.pw_forms.specs.declared.cond.ConditionForm.{ConditionForm}
use Rattle.pw_forms.specs.declared.operand.Operand.{Operand}
use Rattle.pw_forms.specs.declared.statement.Statement.{Statement}
use Rattle.pw_forms.specs.declared.statement.Statement as form
use Rattle.pw_forms.specs.declared.statement.Statement.{Row_of-Statement, end_of-Statement, more_of-Statement}
use Rattle.pw_invariants.specs.Requests.{RepliedRequest}
use Rattle.pw_program_laws.proofs.Operands.{any-known, known-taken}
use Rattle.pw_program_laws.specs.Meets.{BranchesOn, WithKnown}
use Rattle.pw_program_laws.specs.Texts.{HaveSizes}
use Rattle.pw_program_laws.proofs.requests.Follows.{Safe, answered, follows-same}
use Rattle.pw_program_laws.proofs.requests.Forms.{abort-runs, arithmetic-runs, begin-runs, end-runs, leave-runs, move-runs, requester, restart-runs, send-runs, stop-runs}
use Rattle.pw_program_laws.proofs.requests.Runs.{Runs, counted-runs, here-runs, safe-same, stands-answered, stuck, taken-is, then-runs}
use Rattle.pw_program_laws.proofs.requests.Screens.{accept-runs, display-runs, table-runs}
use Rattle.pw_program_laws.specs.Requests.{BranchMeets, OneOfMeets, ParagraphMeets, RequesterMeets, RequesterMoment, TurnsMeet, as_known}
use Rattle.pw_tree_meaning.proofs.trees.Taken.{holds-at}
use Rattle.pw_tree_meaning.specs.Arithmetic.{arithmetic_on}
use Rattle.pw_tree_meaning.specs.Conditions.{holds as holds_now}
use Rattle.pw_tree_meaning.specs.Operands.{operand_taken, value_in}
use Rattle.pw_tree_meaning.specs.Performs.{at_position, budget, perform_chosen, perform_one_of, perform_until, tested, turns_until}
use Rattle.pw_tree_meaning.specs.Program.{DeckModel, Program, screen_named}
use Rattle.pw_tree_meaning.specs.Runs.{told}
use Rattle.pw_tree_meaning.specs.Screens.{accept, display, display_table}
use Rattle.pw_tree_meaning.specs.Sends.{abort, begin, end, restart, send, stop}
use Rattle.pw_tree_meaning.specs.State.{ProgramState, Registers, Out, Goes, Leaves, faults, most_counted, statement_counted, then_do}
use Rattle.pw_tree_meaning.specs.Statements.{body, branch, branch_row, move_all, statement}
use Rattle.pw_tree_meaning.specs.Values.{number_of, whole_part}
use Rattle.pw_words.specs.Words.{Word}

module _ (deck : DeckModel) (program : Program) (first : ℕ) (sizes : List ℕ) (holds : List RepliedRequest → Type 0) (lines : List EntryLineModel) (most : ℕ)
    (perform : Word → ProgramState → Out) (performs : Word → (RequesterMoment → Type 0) → RequesterMoment → Type 0)
    (performs-runs : (name : Word) (next : RequesterMoment → Type 0) (k : RequesterMoment) → performs name next k → Runs sizes holds lines most (perform name) next k)
    (untils : (name : Word) (cond : ConditionForm) (s : ProgramState) (more : ℕ) → budget s ≤ more
    → turns_until more (λ t. holds_now program t cond) (perform name) s ≡ turns_until (budget s) (λ t. holds_now program t cond) (perform name) s)
    (call : ℕ → List (List ℕ) → ProgramState → Out) where
  -- ---- IF

  branch-by : (b : Bool) (one other : ProgramState → Out) (first_next second_next next : RequesterMoment → Type 0) (k : RequesterMoment)
      → BranchesOn b (first_next k) (second_next k) → (first_next k → Runs sizes holds lines most one next k) → (second_next k → Runs sizes holds lines most other next k)
      → Runs sizes holds lines most (branch (Some b) one other) next k
  branch-by true one other first_next second_next next k now one_runs other_runs = one_runs (now.0 refl)
  branch-by false one other first_next second_next next k now one_runs other_runs = other_runs (now.1 refl)

  -- a run by a condition
  by-condition : (cond : ConditionForm) (o : Option Bool) (run : Option Bool → ProgramState → Out) (next : RequesterMoment → Type 0) (k : RequesterMoment) (s : ProgramState)
      → holds_now program s cond ≡ o → (cont : ProgramState → Out)
      → Safe holds lines most k.inside k.sent s (λ u. then_do (run o u) cont)
      → Safe holds lines most k.inside k.sent s (λ u. then_do (run (holds_now program u cond) u) cont)
  by-condition cond o run next k s is cont safe =
      safe-same sizes holds lines most k.inside k.sent s (λ u. then_do (run o u) cont) (λ u. then_do (run (holds_now program u cond) u) cont)
      (λ rest.
      let t : ProgramState = answered lines rest s in
      ap (λ o. then_do (run o t) cont) (sym (holds-at program (map (told lines) rest) s.files s cond ∙ is))) safe

  -- ---- PERFORM

  last-meets : (names : List Word) (next : RequesterMoment → Type 0) (k : RequesterMoment) → OneOfMeets deck program sizes holds performs names next k → next k
  last-meets [] next k now = now
  last-meets (name ∷ names) next k now = last-meets names next k now.1

  got-meets : (names : List Word) (place : ℕ) (next : RequesterMoment → Type 0) (k : RequesterMoment) (name : Word) → OneOfMeets deck program sizes holds performs names next k
      → slice_get names place ≡ Some name → performs name next k
  got-meets [] place next k name now is = absurd cc
  got-meets (own ∷ names) zero next k name now is = let same : own ≡ name = cc in subst (λ n. performs n next k) same now.0
  got-meets (own ∷ names) (suc place) next k name now is = got-meets names place next k name now.1 is

  position-meets : (names : List Word) (position : ℕ) (next : RequesterMoment → Type 0) (k : RequesterMoment) (name : Word) → OneOfMeets deck program sizes holds performs names next k
      → at_position names position ≡ Some name → performs name next k
  position-meets names zero next k name now is = absurd cc
  position-meets names (suc place) next k name now is = got-meets names place next k name now is

  chosen-runs : (o : Option Word) (next : RequesterMoment → Type 0) (k : RequesterMoment) → next k → ((name : Word) → o ≡ Some name → performs name next k)
      → Runs sizes holds lines most (perform_chosen perform o) next k
  chosen-runs None next k now each = here-runs sizes holds lines most next k now
  chosen-runs (Some name) next k now each = counted-runs sizes holds lines most (perform name) next k (performs-runs name next k (each name refl))

  one_of-runs : (names : List Word) (position : Operand) (next : RequesterMoment → Type 0) (k : RequesterMoment)
      → WithKnown program sizes (as_known k) position (λ found. OneOfMeets deck program sizes holds performs names next k)
      → Runs sizes holds lines most (perform_one_of (requester deck program first sizes holds lines most) perform names position) next k
  one_of-runs names position next k now s stands cont safe =
      let x = known-taken program sizes (as_known k) position _ now in
      let o : Option Word = at_position names (whole_part (number_of (value_in x.0 s.store))) in
      safe-same sizes holds lines most k.inside k.sent s (λ u. then_do (perform_chosen perform o u) cont)
      (λ u. then_do (perform_one_of (requester deck program first sizes holds lines most) perform names position u) cont)
      (λ rest.
      let t : ProgramState = answered lines rest s in
      sym (ap (λ out. then_do out cont)
      (taken-is (operand_taken program t position) x.0 t (λ found. perform_chosen perform (at_position names (whole_part (number_of (value_in found t.store)))) t) (x.1 t (stands-answered sizes k s stands lines rest)))))
      (chosen-runs o next k (last-meets names next k x.2) (λ name is. position-meets names _ next k name x.2 is) s stands cont safe)

  -- the unit is as it was
  abbrev Stays : RequesterMoment → RequesterMoment → Type 0
  Stays k after = (after.inside ≡ k.inside) × (after.sent ≡ k.sent)

  same-moment : (k after : RequesterMoment) → Stays k after → record k { texts = after.texts; registers = after.registers } ≡ after
  same-moment k after stays =
      ap (λ (b : Bool). record k { texts = after.texts; registers = after.registers; inside = b }) (sym stays.0)
      ∙ ap (λ (sent : List RepliedRequest). record after { sent = sent }) (sym stays.1)

  abbrev Turned : ConditionForm → Word → ℕ → Option Bool → ProgramState → Out
  Turned cond paragraph n o u =
      tested o (λ t. then_do (statement_counted (perform paragraph) t) (turns_until n (λ t. holds_now program t cond) (perform paragraph))) u

  turned-runs : (cond : ConditionForm) (paragraph : Word) (n : ℕ) (next : RequesterMoment → Type 0) (k : RequesterMoment) → TurnsMeet deck program sizes holds performs zero cond paragraph next k
      → ((after : RequesterMoment) → Stays k after → Runs sizes holds lines most (turns_until n (λ t. holds_now program t cond) (perform paragraph)) next after)
      → (texts : List (List ℕ)) (registers : Registers) → HaveSizes sizes texts → (o : Option Bool)
      → Runs sizes holds lines most (Turned cond paragraph n o) next (record k { texts = texts; registers = registers })
  turned-runs cond paragraph n next k now on texts registers sized None = λ s stands cont safe.
      stuck sizes holds lines most k.inside k.sent s (λ u. then_do (faults 203 u) cont) (λ a fits. fits)
  turned-runs cond paragraph n next k now on texts registers sized (Some true) =
      here-runs sizes holds lines most next (record k { texts = texts; registers = registers }) (now texts registers sized).1
  turned-runs cond paragraph n next k now on texts registers sized (Some false) =
      let k' : RequesterMoment = record k { texts = texts; registers = registers } in
      then-runs sizes holds lines most (statement_counted (perform paragraph)) (turns_until n (λ t. holds_now program t cond) (perform paragraph)) (Stays k) next k'
      (counted-runs sizes holds lines most (perform paragraph) (Stays k) k' (performs-runs paragraph (Stays k) k' (now texts registers sized).0)) on

  ended-runs : (o : Option Bool) (next : RequesterMoment → Type 0) (k : RequesterMoment) → next k → Runs sizes holds lines most (tested o (faults 201)) next k
  ended-runs None next k now = λ s stands cont safe. stuck sizes holds lines most k.inside k.sent s (λ u. then_do (faults 203 u) cont) (λ a fits. fits)
  ended-runs (Some true) next k now = here-runs sizes holds lines most next k now
  ended-runs (Some false) next k now = λ s stands cont safe. stuck sizes holds lines most k.inside k.sent s (λ u. then_do (faults 201 u) cont) (λ a fits. fits)

  loop-runs : (cond : ConditionForm) (paragraph : Word) (next : RequesterMoment → Type 0) (k : RequesterMoment) → TurnsMeet deck program sizes holds performs zero cond paragraph next k
      → (n : ℕ) (texts : List (List ℕ)) (registers : Registers)
      → Runs sizes holds lines most (turns_until n (λ t. holds_now program t cond) (perform paragraph)) next (record k { texts = texts; registers = registers })
  loop-runs cond paragraph next k now zero texts registers s stands cont safe =
      let k' : RequesterMoment = record k { texts = texts; registers = registers } in
      by-condition cond (holds_now program s cond) (λ o. tested o (faults 201)) next k' s refl cont
      (ended-runs (holds_now program s cond) next k' (now texts registers stands.known.sized).1 s stands cont safe)
  loop-runs cond paragraph next k now (suc n) texts registers s stands cont safe =
      let k' : RequesterMoment = record k { texts = texts; registers = registers } in
      let P : RequesterMoment → Type 0 = Runs sizes holds lines most (turns_until n (λ t. holds_now program t cond) (perform paragraph)) next in
      by-condition cond (holds_now program s cond) (Turned cond paragraph n) next k' s refl cont
      (turned-runs cond paragraph n next k now
      (λ after stays. subst P (same-moment k after stays) (loop-runs cond paragraph next k now n after.texts after.registers))
      texts registers stands.known.sized (holds_now program s cond) s stands cont safe)

  -- the first turns one by one
  branched-runs : (cond : ConditionForm) (paragraph : Word) (turns n : ℕ) (next : RequesterMoment → Type 0) (k : RequesterMoment) (b : Bool)
      → BranchesOn b (next k) (performs paragraph (TurnsMeet deck program sizes holds performs turns cond paragraph next) k)
      → ((after : RequesterMoment) → TurnsMeet deck program sizes holds performs turns cond paragraph next after
      → Runs sizes holds lines most (turns_until n (λ t. holds_now program t cond) (perform paragraph)) next after)
      → Runs sizes holds lines most (Turned cond paragraph n (Some b)) next k
  branched-runs cond paragraph turns n next k true now on = here-runs sizes holds lines most next k (now.0 refl)
  branched-runs cond paragraph turns n next k false now on =
      let Next : RequesterMoment → Type 0 = TurnsMeet deck program sizes holds performs turns cond paragraph next in
      then-runs sizes holds lines most (statement_counted (perform paragraph)) (turns_until n (λ t. holds_now program t cond) (perform paragraph)) Next next k
      (counted-runs sizes holds lines most (perform paragraph) Next k (performs-runs paragraph Next k (now.1 refl))) on

  first-runs : (cond : ConditionForm) (paragraph : Word) (turns : ℕ) (next : RequesterMoment → Type 0) (k : RequesterMoment)
      → TurnsMeet deck program sizes holds performs turns cond paragraph next k
      → (n : ℕ) → Runs sizes holds lines most (turns_until n (λ t. holds_now program t cond) (perform paragraph)) next k
  first-runs cond paragraph zero next k now n s stands cont safe = loop-runs cond paragraph next k now n k.texts k.registers s stands cont safe
  first-runs cond paragraph (suc turns) next k now zero s stands cont safe =
      let b = any-known program sizes (as_known k) s stands.known cond.any _ now in
      by-condition cond (Some b.0) (λ o. tested o (faults 201)) next k s b.1 cont (at-end b.0 b.2)
    where
      at-end : (b : Bool) → BranchesOn b (next k) (performs paragraph (TurnsMeet deck program sizes holds performs turns cond paragraph next) k)
          → Safe holds lines most k.inside k.sent s (λ u. then_do (tested (Some b) (faults 201) u) cont)
      at-end true met = here-runs sizes holds lines most next k (met.0 refl) s stands cont safe
      at-end false met = stuck sizes holds lines most k.inside k.sent s (λ u. then_do (faults 201 u) cont) (λ a fits. fits)
  first-runs cond paragraph (suc turns) next k now (suc n) s stands cont safe =
      let b = any-known program sizes (as_known k) s stands.known cond.any _ now in
      by-condition cond (Some b.0) (Turned cond paragraph n) next k s b.1 cont
      (branched-runs cond paragraph turns n next k b.0 b.2 (λ after met. first-runs cond paragraph turns next after met n) s stands cont safe)

  until-runs : (cond : ConditionForm) (paragraph : Word) (next : RequesterMoment → Type 0) (k : RequesterMoment)
      → (turns : ℕ) × TurnsMeet deck program sizes holds performs turns cond paragraph next k
      → Runs sizes holds lines most (perform_until (requester deck program first sizes holds lines most) (perform paragraph) cond) next k
  until-runs cond paragraph next k now s stands cont safe path le =
      let more : ℕ = most_counted + most_counted * most in
      follows-same holds k.inside k.sent (λ rest. then_do (turns_until more (λ t. holds_now program t cond) (perform paragraph) (answered lines rest s)) cont)
      (λ rest. then_do (perform_until (requester deck program first sizes holds lines most) (perform paragraph) cond (answered lines rest s)) cont) path
      (λ rest short. ap (λ out. then_do out cont) (untils paragraph cond (answered lines rest s) more (omega (arith, length-map rest (told lines), short, le))))
      (first-runs cond paragraph now.0 next k now.1 more s stands cont safe path le)

  -- ---- all statements

  abbrev Statement-runs : Statement → (RequesterMoment → Type 0) → RequesterMoment → Type 0
  Statement-runs one next k = Runs sizes holds lines most (statement (requester deck program first sizes holds lines most) perform call one) next k

  mutual
    pub statement-runs : (one : Statement) (next : RequesterMoment → Type 0) (k : RequesterMoment) → RequesterMeets deck program sizes holds performs one next k → Statement-runs one next k
    statement-runs (form.Move line from to) next k now = counted-runs sizes holds lines most (move_all (requester deck program first sizes holds lines most) from to) next k (move-runs deck program first sizes holds lines most from to next k now)
    statement-runs (form.Arithmetic line a) next k now =
        counted-runs sizes holds lines most (arithmetic_on program a Goes Goes) next k
        (arithmetic-runs deck program first sizes holds lines most a next next next Goes Goes (here-runs sizes holds lines most next) (here-runs sizes holds lines most next) k now)
    statement-runs (form.OnSizeError' line a n one m other) next k now =
        counted-runs sizes holds lines most
        (arithmetic_on program a (branch_row (requester deck program first sizes holds lines most) perform call one) (branch_row (requester deck program first sizes holds lines most) perform call other)) next k
        (arithmetic-runs deck program first sizes holds lines most a (BranchMeets deck program sizes holds performs one next) (BranchMeets deck program sizes holds performs other next) next
        (branch_row (requester deck program first sizes holds lines most) perform call one) (branch_row (requester deck program first sizes holds lines most) perform call other)
        (λ k met. row-runs one next k met) (λ k met. row-runs other next k met) k now)
    statement-runs (form.If' line cond n one m other) next k now =
        counted-runs sizes holds lines most
        (λ u. branch (holds_now program u cond) (branch_row (requester deck program first sizes holds lines most) perform call one) (branch_row (requester deck program first sizes holds lines most) perform call other) u) next k
        (λ s stands cont safe.
        let b = any-known program sizes (as_known k) s stands.known cond.any _ now in
        by-condition cond (Some b.0) (λ o. branch o (branch_row (requester deck program first sizes holds lines most) perform call one) (branch_row (requester deck program first sizes holds lines most) perform call other)) next k s b.1 cont
        (branch-by b.0 (branch_row (requester deck program first sizes holds lines most) perform call one) (branch_row (requester deck program first sizes holds lines most) perform call other)
        (BranchMeets deck program sizes holds performs one next) (BranchMeets deck program sizes holds performs other next) next k b.2
        (λ met. row-runs one next k met) (λ met. row-runs other next k met) s stands cont safe))
    statement-runs (form.Perform line paragraph) next k now =
        counted-runs sizes holds lines most (statement_counted (perform paragraph)) next k (counted-runs sizes holds lines most (perform paragraph) next k (performs-runs paragraph next k now))
    statement-runs (form.PerformUntil line paragraph cond) next k now =
        counted-runs sizes holds lines most (perform_until (requester deck program first sizes holds lines most) (perform paragraph) cond) next k (until-runs cond paragraph next k now)
    statement-runs (form.PerformOneOf line paragraphs position) next k now =
        counted-runs sizes holds lines most (perform_one_of (requester deck program first sizes holds lines most) perform paragraphs position) next k (one_of-runs paragraphs position next k now)
    statement-runs (form.Exit line) next k now = counted-runs sizes holds lines most Goes next k (here-runs sizes holds lines most next k now)
    statement-runs (form.ExitProgram line) next k now = counted-runs sizes holds lines most Leaves next k (leave-runs deck program first sizes holds lines most next k)
    statement-runs (form.StopRun line) next k now = counted-runs sizes holds lines most (stop (requester deck program first sizes holds lines most)) next k (stop-runs deck program first sizes holds lines most next k)
    statement-runs (form.DisplayBase line screen) next k now = counted-runs sizes holds lines most (display_table true (screen_named program screen)) next k (table-runs deck program first sizes holds lines most true (screen_named program screen) next k now)
    statement-runs (form.Display line shown) next k now = counted-runs sizes holds lines most (display (requester deck program first sizes holds lines most) shown) next k (display-runs deck program first sizes holds lines most shown next k now)
    statement-runs (form.Accept line screen keys) next k now = counted-runs sizes holds lines most (accept (requester deck program first sizes holds lines most) screen keys) next k (accept-runs deck program first sizes holds lines most screen keys next k now)
    statement-runs (form.Send line message class codes) next k now =
        counted-runs sizes holds lines most (send (requester deck program first sizes holds lines most) message class codes) next k (send-runs deck program first sizes holds lines most message class codes next k now)
    statement-runs (form.Begin line) next k now = counted-runs sizes holds lines most begin next k (begin-runs deck program first sizes holds lines most next k now)
    statement-runs (form.End line) next k now = counted-runs sizes holds lines most end next k (end-runs deck program first sizes holds lines most next k now)
    statement-runs (form.Abort line) next k now = counted-runs sizes holds lines most abort next k (abort-runs deck program first sizes holds lines most next k now)
    statement-runs (form.Restart line) next k now = counted-runs sizes holds lines most restart next k (restart-runs deck program first sizes holds lines most next k)
    statement-runs _ next k now = absurd now

    pub row-runs : {n : _} → (row : Row_of-Statement n) (next : RequesterMoment → Type 0) (k : RequesterMoment) → BranchMeets deck program sizes holds performs row next k
        → Runs sizes holds lines most (branch_row (requester deck program first sizes holds lines most) perform call row) next k
    row-runs end_of-Statement next k now = here-runs sizes holds lines most next k now
    row-runs (more_of-Statement one rest) next k now =
        then-runs sizes holds lines most (statement (requester deck program first sizes holds lines most) perform call one) (branch_row (requester deck program first sizes holds lines most) perform call rest)
        (BranchMeets deck program sizes holds performs rest next) next k (statement-runs one (BranchMeets deck program sizes holds performs rest next) k now) (λ after met. row-runs rest next after met)

  pub body-runs : (statements : List Statement) (next : RequesterMoment → Type 0) (k : RequesterMoment) → ParagraphMeets deck program sizes holds performs statements next k
      → Runs sizes holds lines most (body (requester deck program first sizes holds lines most) perform call statements) next k
  body-runs [] next k now = here-runs sizes holds lines most next k now
  body-runs (one ∷ rest) next k now =
      then-runs sizes holds lines most (statement (requester deck program first sizes holds lines most) perform call one) (body (requester deck program first sizes holds lines most) perform call rest)
      (ParagraphMeets deck program sizes holds performs rest next) next k (statement-runs one (ParagraphMeets deck program sizes holds performs rest next) k now) (λ after met. body-runs rest next after met)
