-- Statements, branches and paragraphs: their code does what they do.
use Rattle.std.proofs.Common.{◌≡◌, ℕ, zero, suc, ◌+◌, ◌-◌, ◌<◌, Bool, true, false, List, [], ◌∷◌, ◌++◌, length, map, drop, Option, Some, None, if◌then◌else◌, inr, refl, sym, ap, ◌∙◌, subst, arith}
use Rattle.std.specs.Prelude.{nat_lt, ◌==◌, slice_get, option_map, unwrap_or, position, bytes_eq}
use Rattle.pw_words.specs.Words.{Word}
use Rattle.pw_data.specs.Store.{joined}
use Rattle.pw_forms.specs.declared.operand.Operand.{Operand}
use Rattle.pw_forms.specs.declared.statement.Statement.{Statement, Row_of-Statement, end_of-Statement, more_of-Statement}
use Rattle.pw_forms.specs.declared.statement.Statement as form
use Rattle.pw_operands.specs.Resolved.{Each}
use Rattle.pw_code.specs.declared.context.Return.{Return}
use Rattle.pw_code.specs.declared.field.ScreenTable.{ScreenTable}
use Rattle.pw_code.specs.declared.instr.Instr.{Instr}
use Rattle.pw_code.specs.declared.instr.Instr.TheVariants as instr
use Rattle.pw_code.specs.declared.instr.Turn.{Turn}
use Rattle.pw_code.specs.declared.system.System.{System}
use Rattle.pw_code.specs.declared.verb.Answer.{Answer}
use Rattle.pw_code.specs.declared.verb.Answer.TheVariants as answer
use Rattle.pw_code.specs.declared.file.FileCall.{FileCall}
use Rattle.pw_code.specs.declared.file.FileOp.TheVariants as fileop
use Rattle.pw_code.specs.declared.verb.Verb.TheVariants as verb
use Rattle.pw_tree_meaning.specs.Program.{Program, body_named}
use Rattle.pw_tree_meaning.specs.Setting.{Setting}
use Rattle.pw_tree_meaning.specs.State.{ProgramState, Out, Goes, Leaves, Asks, then_do}
use Rattle.pw_tree_meaning.specs.State as source
use Rattle.pw_tree_meaning.specs.Operands as operands
use Rattle.pw_tree_meaning.specs.Operands.{ResolvedOperand, spot_in}
use Rattle.pw_tree_meaning.specs.Conditions as conditions
use Rattle.pw_tree_meaning.specs.Values.{Text', number_of, whole_part}
use Rattle.pw_tree_meaning.specs.Moves as moving
use Rattle.pw_code_meaning.specs.Moves as moves
use Rattle.pw_tree_meaning.specs.Performs.{budget}
use Rattle.pw_tree_meaning.specs.Performs as performs
use Rattle.pw_tree_meaning.specs.Files as files
use Rattle.pw_tree_meaning.specs.Statements.{statement, branch_row, body, branch}
use Rattle.pw_code_meaning.specs.Config.{Config, code_at, asks, code_statement_counted, on, over, with_storage, with_taken}
use Rattle.pw_code_meaning.specs.Answers as puts
use Rattle.pw_code_meaning.specs.Steps as steps
use Rattle.pw_code_meaning.specs.Turns as turning
use Rattle.pw_code_meaning.specs.Calls as calls
use Rattle.pw_compile.specs.Operands as code
use Rattle.pw_compile.specs.Emitted.{statement_code, row_code, body_code}
use Rattle.pw_compile.specs.Plan.{Plan, turn_of, file_of}
use Rattle.pw_compile.specs.Sizes.{size, row_size, body_size}
use Rattle.std.proofs.Common.{cond, find, is_some}
use Rattle.std.specs.List.{position_from}
use Rattle.std.proofs.lemmas.Iterator.Adapters.{position_from-zero}
use Rattle.pw_forms.specs.declared.operand.Operand.TheVariants as operands'
use Rattle.pw_code.specs.declared.system.ClassInfo.{ClassInfo}
use Rattle.pw_tree_meaning.specs.Program.{program_at, program_number, screen_named}
use Rattle.pw_tree_meaning.specs.Screens as screens
use Rattle.pw_tree_meaning.specs.Sends as sends
use Rattle.pw_compile.specs.Emitted.{has_screen, display_by, display_of, call_of, reply_code}
use Rattle.pw_compile.specs.Plan.{planned_screen, planned_program, planned_class}
use Rattle.pw_compiler_laws.specs.Systems.{plan_in}
use Rattle.pw_compiler_laws.proofs.Suits as suits
use Rattle.pw_compiler_laws.proofs.Screens.{screen_does, operand_shown, accept_does}
use Rattle.pw_tree_meaning.proofs.Resolved.{each-got}
use Rattle.pw_compiler_laws.proofs.Sending.{position-map, send_does, operation_asked, read_does}
use Rattle.pw_compiler_laws.proofs.Calls.{IsCallee, CallDoes, call_does}
use Rattle.pw_compiler_laws.proofs.Flat.{drop-front}
use Rattle.pw_compiler_laws.proofs.Ground.{Ground, ground-kept}
use Rattle.pw_compiler_laws.proofs.Operands.{Known, Indexed, taken-same}
use Rattle.std.proofs.lemmas.Bool.{eqb-true}
use Rattle.std.proofs.lemmas.Option.{slice_get-map}
use Rattle.pw_compiler_laws.proofs.Readings.{read-same, spot-same, spot-sits, taken-sits, move-same, holds-same, Computed}
use Rattle.pw_compiler_laws.proofs.Leading.{Env, Marks, mach, Leads, Does, DoesFrom, stays, one, seq, ends_at, fault_ends, begins, taken_does, stop_ends}
use Rattle.pw_compile.proofs.Lengths.{statement_length, row_length}
use Rattle.pw_compiler_laws.proofs.Statements.{HasAt, has_front, has_back, IsPlan, Stands, move_does, arithmetic_does, begin_does, unit_end_does, restart_does, stop_does, perform_does, times_does, until_does}

same-map : {A : Type 0} (o : Option A) → o ≡ option_map (λ found. found) o
same-map None = refl
same-map (Some x) = refl

-- ---- positions

some-position : (n : ℕ) → (suc n == 0) ≡ false
some-position n = by (suc n == 0) refl
  where
    by : (b : Bool) → (suc n == 0) ≡ b → b ≡ false
    by true is = let none : suc n ≡ 0 = eqb-true (suc n) 0 is in absurd (omega (arith, none))
    by false is = refl

position-same : (f : Word → Turn) (names : List Word) (n : ℕ) → turning.at_position (map f names) n ≡ option_map f (performs.at_position names n)
position-same f names zero = refl
position-same f names (suc n) =
    let fewer : suc n - 1 ≡ n = omega arith in
    ap (λ b. if b then None else slice_get (map f names) (suc n - 1)) (some-position n) ∙ ap (slice_get (map f names)) fewer ∙ slice_get-map f names n

position-each : (P : Word → Type 0) (names : List Word) (n : ℕ) (name : Word) → Each P names → performs.at_position names n ≡ Some name → P name
position-each P names zero name each e = absurd cc
position-each P names (suc n) name each e = each-got P names n name each e

-- a program in its setting, over its code in the system
pub record IsSet (system : System) (setting : Setting) (e : Env) : Type 0 where
  pub known : Known setting.is_server setting.program
  pub kind : (if nat_lt e.program (length system.programs) then false else true) ≡ setting.is_server
  pub not_alone : setting.alone ≡ false
  pub told : setting.is_server ≡ true → e.tail ≡ setting.message
  pub stored : length (code_at system e.program).storage ≡ length setting.program.layout.storage
  pub callees : (q : ℕ) → q < length setting.deck.programs → IsCallee system q (program_at setting.deck.programs q)

abbrev pub is_plan_in : (setting : Setting) → IsPlan setting (plan_in setting)
is_plan_in setting = record { layout = refl }

-- the paragraph of a name stands in the code
abbrev pub StandsIn : (system : System) (setting : Setting) (e : Env) → IsSet system setting e → Word → Type 0
StandsIn system setting e set name =
    Stands system setting set.known e (plan_in setting) (is_plan_in setting) (turn_of (plan_in setting) name) (body_named setting.program name)

pub number-same : (f : Program → Word) (programs : List Program) (name : Word)
    → unwrap_or (position (λ (thing : Word). bytes_eq thing name) (map f programs)) 0 ≡ unwrap_or (position (λ (program : Program). bytes_eq (f program) name) programs) 0
number-same f programs name = ap (λ o. unwrap_or o 0) (position-map f (λ (thing : Word). bytes_eq thing name) programs)

pub class-same : (f : ClassInfo → Word) (classes : List ClassInfo) (name : Word)
    → unwrap_or (position (λ (thing : Word). bytes_eq thing name) (map f classes)) 0 ≡ unwrap_or (position (λ (class : ClassInfo). bytes_eq (f class) name) classes) 0
class-same f classes name = ap (λ o. unwrap_or o 0) (position-map f (λ (thing : Word). bytes_eq thing name) classes)

-- a name is that of a screen exactly where it is found
screen-by : {A : Type 0} (p : A → Bool) (xs : List A) → is_some (position p xs) ≡ is_some (find p xs)
screen-by {A = A} p xs = ap is_some (position_from-zero p xs) ∙ from 0 xs
  where
    pick : {A : Type 0} (b : Bool) (n : ℕ) (x : A) (o : Option ℕ) (q : Option A) → is_some o ≡ is_some q → is_some (cond b (Some n) o) ≡ is_some (cond b (Some x) q)
    pick true n x o q same = refl
    pick false n x o q same = same

    from : (n : ℕ) (ys : List A) → is_some (position_from p n ys) ≡ is_some (find p ys)
    from n [] = refl
    from n (y ∷ ys) = pick (p y) n y (position_from p (n + 1) ys) (find p ys) (from (n + 1) ys)

module _ (system : System) (setting : Setting) (e : Env) (set : IsSet system setting e) where
  abbrev plan : Plan
  plan = plan_in setting

  abbrev is_plan : IsPlan setting plan
  is_plan = is_plan_in setting

  abbrev instrs : List Instr
  instrs = (code_at system e.program).instrs

  abbrev Performed : Word → Type 0
  Performed name = suits.Performed system setting name

  module _ (perform : Word → ProgramState → Out) (call : ℕ → List (List ℕ) → ProgramState → Out) (d : ℕ)
      (stands : (name : Word) → Performed name → StandsIn system setting e set name)
      (full : (name : Word) (rs : List Return) (t : ProgramState) → length rs + d ≡ turning.most_performs → nat_lt (length rs) turning.most_performs ≡ false → perform name t ≡ source.faults 202 t)
      (inside : (name : Word) → Performed name → (rs : List Return) (r : Return) (t : ProgramState) (m : Marks) → length rs + d ≡ turning.most_performs → nat_lt (length rs) turning.most_performs ≡ true → Ground setting.program t.store
      → DoesFrom system setting.program e t (mach e (turn_of (plan_in setting) name).start (rs ++ r ∷ []) t m) (turn_of (plan_in setting) name).end (rs ++ r ∷ []) (perform name t))
      (calling : setting.is_server ≡ false → CallDoes system setting e call) where
    -- a statement does what it does
    abbrev pub IsDone : Statement → Type 0
    IsDone one = (at : ℕ) (rs : List Return) (s : ProgramState) (m : Marks) → length rs + d ≡ turning.most_performs → Ground setting.program s.store → HasAt instrs at (statement_code plan one)
        → DoesFrom system setting.program e s (mach e at rs s m) (at + size one) rs (statement setting perform call one s)

    abbrev Own : Operand → Type 0
    Own one = Indexed setting.is_server setting.deck setting.program one

    -- a screen, or an operand
    display_does : (shown : Operand) → suits.Shows system setting shown → (at : ℕ) (rs : List Return) (t : ProgramState) (m : Marks) → Ground setting.program t.store
        → slice_get instrs at ≡ Some (display_of plan shown)
        → DoesFrom system setting.program e t (steps.does system (display_of plan shown) (mach e at rs t m)) (at + 1) rs (screens.display setting shown t)
    display_does (operands'.Item name None) fit at rs t m fine h =
        by (screen_named setting.program name) fit (has_screen plan.screens name) (screen-by (λ screen. bytes_eq screen.name name) setting.program.screens) h
      where
        by : (o : Option ScreenTable) → suits.ShownBy system setting o name → (b : Bool) → b ≡ is_some o
            → slice_get instrs at ≡ Some (display_by plan b name (operands'.Item name None))
            → DoesFrom system setting.program e t (steps.does system (display_by plan b name (operands'.Item name None)) (mach e at rs t m)) (at + 1) rs (screens.display_by o setting (operands'.Item name None) t)
        by None fit true is h' = absurd cc
        by None fit false is h' = operand_shown system setting set.known e (operands'.Item name None) fit at rs t m fine h'
        by (Some table) fit true is h' = screen_does system setting set.known e false (planned_screen plan name) table at rs t m fine fit.coded fit.shown h'
        by (Some table) fit false is h' = absurd cc
    display_does (operands'.Item name (Some one)) fit at rs t m fine h = operand_shown system setting set.known e (operands'.Item name (Some one)) fit at rs t m fine h
    display_does (operands'.Number spelling) fit at rs t m fine h = operand_shown system setting set.known e (operands'.Number spelling) fit at rs t m fine h
    display_does (operands'.Text chars) fit at rs t m fine h = operand_shown system setting set.known e (operands'.Text chars) fit at rs t m fine h
    display_does operands'.Spaces fit at rs t m fine h = operand_shown system setting set.known e operands'.Spaces fit at rs t m fine h
    display_does operands'.Zeros fit at rs t m fine h = operand_shown system setting set.known e operands'.Zeros fit at rs t m fine h

    branch_does : (o : Option Bool) (n at to : ℕ) (rs : List Return) (s : ProgramState) (m : Marks) (on_true on_false : ProgramState → Out)
        → DoesFrom system setting.program e s (mach e (at + 1) rs s m) to rs (on_true s) → DoesFrom system setting.program e s (mach e (at + 1 + n) rs s m) to rs (on_false s)
        → DoesFrom system setting.program e s (with_taken o (steps.branch n) (mach e at rs s m)) to rs (branch o on_true on_false s)
    branch_does None n at to rs s m on_true on_false h g = fault_ends system setting.program e (mach e at rs s m) s.answers 203
    branch_does (Some true) n at to rs s m on_true on_false h g = h
    branch_does (Some false) n at to rs s m on_true on_false h g = g

    then_goes : (c : Config) (p : List Answer) (b to : ℕ) (rs : List Return) (o : Out) → Does system setting.program e b c p to rs (then_do o Goes) → Does system setting.program e b c p to rs o
    then_goes c p b to rs (Goes t) r = r
    then_goes c p b to rs (Leaves t) r = r
    then_goes c p b to rs (Asks v t) r = r

    chosen_does : (o : Option Word) → ((name : Word) → o ≡ Some name → Performed name) → (at : ℕ) (rs : List Return) (t : ProgramState) (m : Marks) → length rs + d ≡ turning.most_performs → Ground setting.program t.store
        → DoesFrom system setting.program e t (turning.chosen (option_map (turn_of plan) o) (mach e at rs t m)) (at + 1) rs (performs.perform_chosen perform o t)
    chosen_does None each at rs t m is ground = record { marks = m; ground = ground; less = omega arith; leads = stays system (mach e (at + 1) rs t m) t.answers }
    chosen_does (Some name) each at rs t m is ground =
        perform_does system setting set.known e plan is_plan perform d name (turn_of plan name) (stands name (each name refl)).end (full name) (inside name (each name refl)) at rs t m is ground

    -- a reply
    reply_does : (from : Operand) → Own from → (at : ℕ) (rs : List Return) (t : ProgramState) (m : Marks) → Ground setting.program t.store → slice_get instrs at ≡ Some (instr.Reply (code.operand_of setting.program.layout from))
        → DoesFrom system setting.program e t (steps.operates (code.operand_of setting.program.layout from) (mach e at rs t m)) (at + 1) rs (files.reply setting from t)
    reply_does from fit at rs t m fine h =
        taken_does system setting.program e (λ found. found) (operands.operand_taken setting.program t from) _ (budget t) at rs t m (at + 1) rs (λ found. asks) (λ found. Asks (verb.Reply (operands.chars_in found t.store)) t)
        (taken-same setting.is_server setting.deck setting.program set.known t e.tail fine from fit ∙ same-map (operands.operand_taken setting.program t from))
        (λ found taken_is.
        stop_ends system setting.program e at rs t m (Some (instr.Reply (code.operand_of setting.program.layout from))) (verb.Reply (operands.chars_in found t.store)) h
        (ap (λ o. verb.Reply (steps.chars_by o))
        (read-same setting.is_server setting.deck setting.program set.known t e.tail fine from fit ∙ ap (option_map (λ x. operands.value_in x t.store)) taken_is))
        (λ a. refl))

    -- what follows an operation that reads no record
    file_answered : (at : ℕ) (rs : List Return) (t : ProgramState) (m : Marks) → Ground setting.program t.store → (a : Answer) (given : List Answer)
        → let u : ProgramState = record t { answers = given } in
        DoesFrom system setting.program e u (puts.file_put a (asks (mach e at rs t m))) (at + 1) rs (files.file_answered None a u)
    file_answered at rs t m fine (answer.FileDone status content) given = record { marks = m; ground = fine; less = omega arith; leads = stays system _ given }
    file_answered at rs t m fine answer.Shown given = record { marks = m; ground = fine; less = omega arith; leads = stays system _ given }
    file_answered at rs t m fine (answer.Entry line) given = record { marks = m; ground = fine; less = omega arith; leads = stays system _ given }
    file_answered at rs t m fine (answer.Begun r) given = record { marks = m; ground = fine; less = omega arith; leads = stays system _ given }
    file_answered at rs t m fine (answer.Replied reply) given = record { marks = m; ground = fine; less = omega arith; leads = stays system _ given }
    file_answered at rs t m fine (answer.Failed x) given = record { marks = m; ground = fine; less = omega arith; leads = stays system _ given }
    file_answered at rs t m fine answer.Ended given = record { marks = m; ground = fine; less = omega arith; leads = stays system _ given }
    file_answered at rs t m fine answer.Dropped given = record { marks = m; ground = fine; less = omega arith; leads = stays system _ given }

    -- an operation with a key or a record
    operation_does : (one : Operand) → Own one → (at : ℕ) (rs : List Return) (t : ProgramState) (m : Marks) → Ground setting.program t.store → (i : Instr) → slice_get instrs at ≡ Some i → (call_of : List ℕ → FileCall)
        → steps.does system i ≡ steps.operates (code.operand_of setting.program.layout one)
        → ((found : ResolvedOperand) → steps.read_here (asks (mach e at rs t m)) (code.operand_of setting.program.layout one) ≡ Some (operands.value_in found t.store) → steps.asked_by (Some i) (asks (mach e at rs t m)) ≡ verb.File (call_of (operands.chars_in found t.store)))
        → ((a : Answer) → puts.answered_by system (Some i) a (asks (mach e at rs t m)) ≡ puts.file_put a (asks (mach e at rs t m)))
        → DoesFrom system setting.program e t (steps.does system i (mach e at rs t m)) (at + 1) rs
        (operands.with_operand setting.program one t (λ found. files.operates setting (call_of (operands.chars_in found t.store)) None t))
    operation_does one_operand fit at rs t m fine i h call_of is asked same =
        subst (λ f. DoesFrom system setting.program e t (f (mach e at rs t m)) (at + 1) rs (operands.with_operand setting.program one_operand t (λ found. files.operates setting (call_of (operands.chars_in found t.store)) None t))) (sym is)
        (taken_does system setting.program e (λ found. found) (operands.operand_taken setting.program t one_operand) _ (budget t) at rs t m (at + 1) rs (λ found. asks) (λ found. files.operates setting (call_of (operands.chars_in found t.store)) None t)
        (taken-same setting.is_server setting.deck setting.program set.known t e.tail fine one_operand fit ∙ same-map (operands.operand_taken setting.program t one_operand))
        (λ found taken_is.
        operation_asked system setting set.known e set.not_alone i None (call_of (operands.chars_in found t.store)) at rs t m h
        (asked found (read-same setting.is_server setting.deck setting.program set.known t e.tail fine one_operand fit ∙ ap (option_map (λ x. operands.value_in x t.store)) taken_is))
        (λ a given. subst (λ c. DoesFrom system setting.program e (record t { answers = given }) c (at + 1) rs (files.file_answered None a (record t { answers = given }))) (sym (same a))
        (file_answered at rs t m fine a given))))

    -- the message is moved
    receive_does : (into : Operand) → Own into → e.tail ≡ setting.message → length (code_at system e.program).storage ≡ length setting.program.layout.storage
        → (at : ℕ) (rs : List Return) (t : ProgramState) (m : Marks) → Ground setting.program t.store
        → DoesFrom system setting.program e t (steps.receives system (code.place_in setting.program.layout into) (mach e at rs t m)) (at + 1) rs (files.receive setting into t)
    receive_does into fit told long at rs t m fine =
        taken_does system setting.program e spot_in (operands.operand_taken setting.program t into) _ (budget t) at rs t m (at + 1) rs
        (λ item d. on (with_storage (moves.move_text (drop (length (code_at system d.top.program).storage) d.top.storage) item d.top.storage) d)) (λ item. Goes (moving.move_text setting.message (spot_in item) t))
        (spot-same setting.is_server setting.deck setting.program set.known t e.tail fine into fit)
        (λ item taken_is.
        let u : ProgramState = moving.move_text setting.message (spot_in item) t in
        let message : drop (length (code_at system e.program).storage) (joined t.store ++ e.tail) ≡ setting.message =
        drop-front (joined t.store) e.tail (length (code_at system e.program).storage) (fine.1 ∙ sym long) ∙ told in
        let sits = spot-sits t.store item (taken-sits setting.is_server setting.deck setting.program set.known t e.tail fine into item taken_is) in
        let storage = ap (λ chars. moves.move_text chars (spot_in item) (joined t.store ++ e.tail)) message ∙ move-same (Text' setting.message) (spot_in item) t.store e.tail sits in
        record {
          marks = m;
          ground = ground-kept setting.program (spot_in item) (moving.moved_chars (spot_in item).picture (spot_in item).size (Text' setting.message)) t.store fine;
          less = omega arith;
          leads = subst (λ (chars : List ℕ). Leads system (on (with_storage chars (mach e at rs t m))) t.answers (mach e (at + 1) rs u m) t.answers) (sym storage) (stays system (mach e (at + 1) rs u m) t.answers);
        })

    goes_on : (at : ℕ) (rs : List Return) (t : ProgramState) (m : Marks) (u : ProgramState) → Computed setting.program t u
        → DoesFrom system setting.program e t (on (with_storage (joined u.store ++ e.tail) (mach e at rs t m))) (at + 1) rs (Goes u)
    goes_on at rs t m u made =
        subst (λ (w : ProgramState). DoesFrom system setting.program e t (on (with_storage (joined w.store ++ e.tail) (mach e at rs t m))) (at + 1) rs (Goes w)) (sym made.is)
        (record { marks = m; ground = made.ground; less = omega arith; leads = stays system (mach e (at + 1) rs (record t { store = made.store }) m) t.answers })

    -- the first branch, and the jump over the second
    first_does : {n : _} (k at : ℕ) (rs : List Return) (t : ProgramState) (m : Marks) (row : Row_of-Statement n)
        → DoesFrom system setting.program e t (mach e (at + 1) rs t m) (at + 1 + row_size row) rs (branch_row setting perform call row t)
        → slice_get instrs (at + 1 + row_size row) ≡ Some (instr.Jump k)
        → DoesFrom system setting.program e t (mach e (at + 1) rs t m) (at + 1 + row_size row + 1 + k) rs (branch_row setting perform call row t)
    first_does k at rs t m row done jump =
        let mid = at + 1 + row_size row in
        then_goes _ t.answers (budget t) (mid + 1 + k) rs (branch_row setting perform call row t)
        (seq system setting.program e (budget t) (mach e (at + 1) rs t m) t.answers mid (mid + 1 + k) rs rs (branch_row setting perform call row t) Goes done
        (λ u n less u_ground. record { marks = n; ground = u_ground; less = omega arith; leads = one system e mid rs u n u.answers (Some (instr.Jump k)) jump }))

    -- the second branch, behind arithmetic
    other_does : {n : _} (at k : ℕ) (rs : List Return) (t : ProgramState) (m : Marks) (u : ProgramState) → (made : Computed setting.program t u) → (row : Row_of-Statement n)
        → DoesFrom system setting.program e t (mach e (at + 1 + k + 1) rs (record t { store = made.store }) m) (at + 1 + k + 1 + row_size row) rs (branch_row setting perform call row (record t { store = made.store }))
        → DoesFrom system setting.program e t (over (k + 1) (with_storage (joined u.store ++ e.tail) (mach e at rs t m))) (at + 1 + k + 1 + row_size row) rs (branch_row setting perform call row u)
    other_does at k rs t m u made row done =
        let passed : at + 1 + k + 1 ≡ at + 1 + (k + 1) = omega arith in
        let w : ProgramState = record t { store = made.store } in
        subst (λ (v : ProgramState). DoesFrom system setting.program e t (over (k + 1) (with_storage (joined v.store ++ e.tail) (mach e at rs t m))) (at + 1 + k + 1 + row_size row) rs (branch_row setting perform call row v)) (sym made.is)
        (subst (λ j. DoesFrom system setting.program e t (mach e j rs w m) (at + 1 + k + 1 + row_size row) rs (branch_row setting perform call row w)) passed done)

    -- DISPLAY is a statement, whatever it shows
    display-counts : (shown : Operand) → steps.act system (Some (display_of plan shown)) ≡ code_statement_counted (steps.does system (display_of plan shown))
    display-counts (operands'.Item name None) = by (has_screen plan.screens name)
      where
        by : (b : Bool) → steps.act system (Some (display_by plan b name (operands'.Item name None))) ≡ code_statement_counted (steps.does system (display_by plan b name (operands'.Item name None)))
        by true = refl
        by false = refl
    display-counts (operands'.Item name (Some one)) = refl
    display-counts (operands'.Number spelling) = refl
    display-counts (operands'.Text chars) = refl
    display-counts operands'.Spaces = refl
    display-counts operands'.Zeros = refl

    mutual
      pub statement_does : (one : Statement) → suits.Suits system setting one → IsDone one
      statement_does (form.Move line from to) fit at rs s m is ground h =
          begins system setting.program e at rs s m (at + 1) rs _ _ h.0 refl
          (λ t same. move_does system setting set.known e plan is_plan at rs t m from to (subst (Ground setting.program) (sym same) ground) fit.0 fit.1)
      statement_does (form.Arithmetic line a) fit at rs s m is ground h =
          begins system setting.program e at rs s m (at + 1) rs _ _ h.0 refl
          (λ t same.
          let fine = subst (Ground setting.program) (sym same) ground in
          arithmetic_does system setting set.known e plan is_plan at (at + 1) rs t m fine on on Goes Goes
          (record { marks = m; ground = fine; less = omega arith; leads = stays system (mach e (at + 1) rs t m) t.answers })
          (λ u made. goes_on at rs t m u made) a fit)
      statement_does (form.OnSizeError' line a n first m' second) fit at rs s m is ground h =
          let mid = at + 1 + row_size first in
          let finish = mid + 1 + row_size second in
          let same_end : finish ≡ at + size (form.OnSizeError' line a n first m' second) = omega arith in
          let back = has_back instrs (at + 1) (row_code plan first) (instr.Jump (row_size second) ∷ row_code plan second) mid (omega (arith, row_length plan first)) h.1 in
          let front = has_front instrs (at + 1) (row_code plan first) (instr.Jump (row_size second) ∷ row_code plan second) h.1 in
          ends_at system setting.program e (budget s) _ s.answers finish _ rs _ same_end
          (begins system setting.program e at rs s m finish rs _ _ h.0 refl
          (λ t same.
          let fine = subst (Ground setting.program) (sym same) ground in
          arithmetic_does system setting set.known e plan is_plan at finish rs t m fine on (over (row_size first + 1)) (branch_row setting perform call first) (branch_row setting perform call second)
          (first_does (row_size second) at rs t m first (row_does first (at + 1) rs t m is fine fit.1 front) back.0)
          (λ u made. other_does at (row_size first) rs t m u made second (row_does second (at + 1 + row_size first + 1) rs (record t { store = made.store }) m is made.ground fit.2 back.1)) a fit.0))
      statement_does (form.If' line cond n first m' second) fit at rs s m is ground h =
          let mid = at + 1 + row_size first in
          let finish = mid + 1 + row_size second in
          let same_end : finish ≡ at + size (form.If' line cond n first m' second) = omega arith in
          let back = has_back instrs (at + 1) (row_code plan first) (instr.Jump (row_size second) ∷ row_code plan second) mid (omega (arith, row_length plan first)) h.1 in
          let front = has_front instrs (at + 1) (row_code plan first) (instr.Jump (row_size second) ∷ row_code plan second) h.1 in
          ends_at system setting.program e (budget s) _ s.answers finish _ rs _ same_end
          (begins system setting.program e at rs s m finish rs _ _ h.0 refl
          (λ t same.
          let fine = subst (Ground setting.program) (sym same) ground in
          subst (λ o. DoesFrom system setting.program e t (with_taken o (steps.branch (row_size first + 1)) (mach e at rs t m)) finish rs (branch (conditions.holds setting.program t cond) (branch_row setting perform call first) (branch_row setting perform call second) t))
          (sym (holds-same setting.is_server setting.deck setting.program set.known t e.tail fine cond fit.0))
          (branch_does (conditions.holds setting.program t cond) (row_size first + 1) at finish rs t m (branch_row setting perform call first) (branch_row setting perform call second)
          (first_does (row_size second) at rs t m first (row_does first (at + 1) rs t m is fine fit.1 front) back.0)
          (let passed : at + 1 + (row_size first + 1) ≡ mid + 1 = omega arith in
          subst (λ k. DoesFrom system setting.program e t (mach e k rs t m) finish rs (branch_row setting perform call second t)) (sym passed) (row_does second (mid + 1) rs t m is fine fit.2 back.1)))))
      statement_does (form.Perform line name) fit at rs s m is ground h =
          begins system setting.program e at rs s m (at + 1) rs _ _ h.0 refl
          (λ t same. perform_does system setting set.known e plan is_plan perform d name (turn_of plan name) (stands name fit).end (full name) (inside name fit) at rs t m is (subst (Ground setting.program) (sym same) ground))
      statement_does (form.PerformTimes line name times) fit at rs s m is ground h =
          begins system setting.program e at rs s m (at + 1) rs _ _ h.0 refl
          (λ t same.
          let fine = subst (Ground setting.program) (sym same) ground in
          taken_does system setting.program e (λ found. operands.value_in found t.store) (operands.operand_taken setting.program t times) _ (budget t) at rs t m (at + 1) rs _ _
          (read-same setting.is_server setting.deck setting.program set.known t e.tail fine times fit.1)
          (λ found taken_is. times_does system setting set.known e plan is_plan perform d name (turn_of plan name) (stands name fit.0).end (full name) (inside name fit.0)
          (whole_part (number_of (operands.value_in found t.store))) at rs t m is fine))
      statement_does (form.PerformUntil line name cond) fit at rs s m is ground h =
          let same_end : at + 1 + 1 ≡ at + 2 = omega arith in
          ends_at system setting.program e (budget s) _ s.answers (at + 1 + 1) _ rs _ same_end
          (begins system setting.program e at rs s m (at + 1 + 1) rs _ _ h.0 refl
          (λ t same. until_does system setting set.known e plan is_plan perform d name (turn_of plan name) (stands name fit.0).end (full name) (inside name fit.0)
          (budget t) (at + 1) cond rs t m is (subst (Ground setting.program) (sym same) ground) fit.1 h.1.0 (omega arith)))
      statement_does (form.Exit line) fit at rs s m is ground h =
          begins system setting.program e at rs s m (at + 1) rs instr.Exit Goes h.0 refl
          (λ t same. record { marks = m; ground = subst (Ground setting.program) (sym same) ground; less = omega arith; leads = stays system (mach e (at + 1) rs t m) t.answers })
      statement_does (form.ExitProgram line) fit at rs s m is ground h =
          begins system setting.program e at rs s m (at + 1) rs instr.ExitProgram Leaves h.0 refl
          (λ t same. record { at = at; returns = rs; marks = m; quiet = inr h.0; ground = subst (Ground setting.program) (sym same) ground; less = omega arith; leads = stays system (calls.leaves system (mach e at rs t m)) t.answers })
      statement_does (form.StopRun line) fit at rs s m is ground h =
          begins system setting.program e at rs s m (at + 1) rs _ _ h.0 refl
          (λ t same. stop_does system setting set.known e plan is_plan set.kind at (at + 1) rs rs t m (Some instr.StopRun) h.0 refl (λ a. refl))
      statement_does (form.Begin line) fit at rs s m is ground h =
          begins system setting.program e at rs s m (at + 1) rs _ _ h.0 refl
          (λ t same. begin_does system setting set.known e plan is_plan at rs t m (subst (Ground setting.program) (sym same) ground) h.0)
      statement_does (form.End line) fit at rs s m is ground h =
          begins system setting.program e at rs s m (at + 1) rs _ _ h.0 refl
          (λ t same. unit_end_does system setting set.known e plan is_plan at rs t m instr.End verb.End (subst (Ground setting.program) (sym same) ground) h.0 refl (λ a. refl))
      statement_does (form.Abort line) fit at rs s m is ground h =
          begins system setting.program e at rs s m (at + 1) rs _ _ h.0 refl
          (λ t same. unit_end_does system setting set.known e plan is_plan at rs t m instr.Abort verb.Drop (subst (Ground setting.program) (sym same) ground) h.0 refl (λ a. refl))
      statement_does (form.Restart line) fit at rs s m is ground h =
          begins system setting.program e at rs s m (at + 1) rs _ _ h.0 refl
          (λ t same. restart_does system setting set.known e plan is_plan at rs t m h.0)
      statement_does (form.PerformOneOf line names position) fit at rs s m is ground h =
          begins system setting.program e at rs s m (at + 1) rs _ _ h.0 refl
          (λ t same.
          let fine = subst (Ground setting.program) (sym same) ground in
          taken_does system setting.program e (λ found. operands.value_in found t.store) (operands.operand_taken setting.program t position) _ (budget t) at rs t m (at + 1) rs _ _
          (read-same setting.is_server setting.deck setting.program set.known t e.tail fine position fit.1)
          (λ found taken_is.
          let n = whole_part (number_of (operands.value_in found t.store)) in
          subst (λ o. DoesFrom system setting.program e t (turning.chosen o (mach e at rs t m)) (at + 1) rs (performs.perform_chosen perform (performs.at_position names n) t)) (sym (position-same (turn_of plan) names n))
          (chosen_does (performs.at_position names n) (λ name named. position-each Performed names n name fit.0 named) at rs t m is fine)))
      statement_does (form.DisplayBase line screen) fit at rs s m is ground h =
          begins system setting.program e at rs s m (at + 1) rs (instr.DisplayScreen (planned_screen plan screen) true) (screens.display_table true (screen_named setting.program screen)) h.0 refl
          (λ t same.
          subst (λ o. DoesFrom system setting.program e t (steps.does system (instr.DisplayScreen (planned_screen plan screen) true) (mach e at rs t m)) (at + 1) rs (screens.display_table true o t)) (sym fit.is)
          (screen_does system setting set.known e true (planned_screen plan screen) fit.table at rs t m (subst (Ground setting.program) (sym same) ground) fit.of.coded fit.of.shown h.0))
      statement_does (form.Display line shown) fit at rs s m is ground h =
          begins system setting.program e at rs s m (at + 1) rs (display_of plan shown) (screens.display setting shown) h.0 (display-counts shown)
          (λ t same. display_does shown fit at rs t m (subst (Ground setting.program) (sym same) ground) h.0)
      statement_does (form.Accept line screen keys) fit at rs s m is ground h =
          begins system setting.program e at rs s m (at + 1) rs (instr.Accept (planned_screen plan screen) keys) (screens.accept setting screen keys) h.0 refl
          (λ t same.
          subst (λ o. DoesFrom system setting.program e t (asks (mach e at rs t m)) (at + 1) rs (screens.accept_by o keys (planned_screen plan screen) t)) (sym fit.is)
          (accept_does system setting set.known e at rs (planned_screen plan screen) keys fit.table fit.of.coded fit.of.shown h.0 t m (subst (Ground setting.program) (sym same) ground)))
      statement_does (form.Call line called arguments) fit at rs s m is ground h =
          begins system setting.program e at rs s m (at + 1) rs (call_of plan called arguments) (performs.call_program setting call called arguments) h.0 refl
          (λ t same. call_does system setting e set.known call (calling fit.requester) called arguments (planned_program plan called)
          (number-same (λ (program : Program). program.name) setting.deck.programs called) fit (set.callees (program_number setting.deck called) fit.there) at rs t m (subst (Ground setting.program) (sym same) ground) h.0)
      statement_does (form.Send line message class codes) fit at rs s m is ground h =
          let same_end : at + 1 + 1 ≡ at + 2 = omega arith in
          ends_at system setting.program e (budget s) _ s.answers (at + 1 + 1) _ rs _ same_end
          (begins system setting.program e at rs s m (at + 1 + 1) rs (instr.Send (planned_class plan class) (code.operand_of setting.program.layout message) (map (reply_code plan) codes)) (sends.send setting message class codes) h.0 refl
          (λ t same. send_does system setting set.known e message class (planned_class plan class) codes
          (class-same (λ (one : ClassInfo). one.name) setting.deck.classes class) fit.0 fit.1 at rs t m (subst (Ground setting.program) (sym same) ground) h.0 h.1.0))
      statement_does (form.Receive line into) fit at rs s m is ground h =
          begins system setting.program e at rs s m (at + 1) rs (instr.Receive (code.place_in setting.program.layout into)) (files.receive setting into) h.0 refl
          (λ t same. receive_does into fit.0 (set.told fit.1) set.stored at rs t m (subst (Ground setting.program) (sym same) ground))
      statement_does (form.Reply line from) fit at rs s m is ground h =
          begins system setting.program e at rs s m (at + 1) rs (instr.Reply (code.operand_of setting.program.layout from)) (files.reply setting from) h.0 refl
          (λ t same. reply_does from fit at rs t m (subst (Ground setting.program) (sym same) ground) h.0)
      statement_does (form.Read line file locking key into) fit at rs s m is ground h =
          begins system setting.program e at rs s m (at + 1) rs (instr.Read (file_of plan file) locking (code.operand_of setting.program.layout key) (code.place_in setting.program.layout into))
          (files.read_by setting (if locking then fileop.ReadLock else fileop.Read) file key into) h.0 refl
          (λ t same. read_does system setting set.known e set.not_alone key into fit.0 fit.1 at rs t m (subst (Ground setting.program) (sym same) ground)
          (instr.Read (file_of plan file) locking (code.operand_of setting.program.layout key) (code.place_in setting.program.layout into)) h.0
          (λ chars. files.call_by_key setting (if locking then fileop.ReadLock else fileop.Read) file chars)
          (λ found is_read. ap (λ o. verb.File (record { file = file_of plan file; op = if locking then fileop.ReadLock else fileop.Read; key = steps.chars_by o; content = [] })) is_read)
          (λ a. refl))
      statement_does (form.ReadNext line file locking key into) fit at rs s m is ground h =
          begins system setting.program e at rs s m (at + 1) rs (instr.ReadNext (file_of plan file) locking (code.operand_of setting.program.layout key) (code.place_in setting.program.layout into))
          (files.read_by setting (if locking then fileop.NextLock else fileop.Next) file key into) h.0 refl
          (λ t same. read_does system setting set.known e set.not_alone key into fit.0 fit.1 at rs t m (subst (Ground setting.program) (sym same) ground)
          (instr.ReadNext (file_of plan file) locking (code.operand_of setting.program.layout key) (code.place_in setting.program.layout into)) h.0
          (λ chars. files.call_by_key setting (if locking then fileop.NextLock else fileop.Next) file chars)
          (λ found is_read. ap (λ o. verb.File (record { file = file_of plan file; op = if locking then fileop.NextLock else fileop.Next; key = steps.chars_by o; content = [] })) is_read)
          (λ a. refl))
      statement_does (form.Write line file from) fit at rs s m is ground h =
          begins system setting.program e at rs s m (at + 1) rs (instr.Write (file_of plan file) (code.operand_of setting.program.layout from)) (λ t. operands.with_operand setting.program from t (λ found. files.operates setting (files.call_by_record setting fileop.Write file (operands.chars_in found t.store)) None t)) h.0 refl
          (λ t same. operation_does from fit at rs t m (subst (Ground setting.program) (sym same) ground) (instr.Write (file_of plan file) (code.operand_of setting.program.layout from)) h.0
          (λ chars. files.call_by_record setting fileop.Write file chars) refl
          (λ found is_read. ap (λ o. verb.File (record { file = file_of plan file; op = fileop.Write; key = []; content = steps.chars_by o })) is_read)
          (λ a. refl))
      statement_does (form.Rewrite line file from) fit at rs s m is ground h =
          begins system setting.program e at rs s m (at + 1) rs (instr.Rewrite (file_of plan file) (code.operand_of setting.program.layout from)) (λ t. operands.with_operand setting.program from t (λ found. files.operates setting (files.call_by_record setting fileop.Rewrite file (operands.chars_in found t.store)) None t)) h.0 refl
          (λ t same. operation_does from fit at rs t m (subst (Ground setting.program) (sym same) ground) (instr.Rewrite (file_of plan file) (code.operand_of setting.program.layout from)) h.0
          (λ chars. files.call_by_record setting fileop.Rewrite file chars) refl
          (λ found is_read. ap (λ o. verb.File (record { file = file_of plan file; op = fileop.Rewrite; key = []; content = steps.chars_by o })) is_read)
          (λ a. refl))
      statement_does (form.Delete line file key) fit at rs s m is ground h =
          begins system setting.program e at rs s m (at + 1) rs (instr.Delete (file_of plan file) (code.operand_of setting.program.layout key)) (λ t. operands.with_operand setting.program key t (λ found. files.operates setting (files.call_by_key setting fileop.Delete file (operands.chars_in found t.store)) None t)) h.0 refl
          (λ t same. operation_does key fit at rs t m (subst (Ground setting.program) (sym same) ground) (instr.Delete (file_of plan file) (code.operand_of setting.program.layout key)) h.0
          (λ chars. files.call_by_key setting fileop.Delete file chars) refl
          (λ found is_read. ap (λ o. verb.File (record { file = file_of plan file; op = fileop.Delete; key = steps.chars_by o; content = [] })) is_read)
          (λ a. refl))

      row_does : {n : _} (row : Row_of-Statement n) (at : ℕ) (rs : List Return) (s : ProgramState) (m : Marks) → length rs + d ≡ turning.most_performs → Ground setting.program s.store → suits.RowSuits system setting row → HasAt instrs at (row_code plan row)
          → DoesFrom system setting.program e s (mach e at rs s m) (at + row_size row) rs (branch_row setting perform call row s)
      row_does end_of-Statement at rs s m is ground fit h =
          let same : at ≡ at + 0 = omega arith in
          ends_at system setting.program e (budget s) _ s.answers at _ rs (Goes s) same (record { marks = m; ground = ground; less = omega arith; leads = stays system (mach e at rs s m) s.answers })
      row_does (more_of-Statement each rest) at rs s m is ground fit h =
          let same : at + size each + row_size rest ≡ at + row_size (more_of-Statement each rest) = omega arith in
          ends_at system setting.program e (budget s) _ s.answers _ _ rs _ same
          (seq system setting.program e (budget s) _ s.answers (at + size each) _ rs rs (statement setting perform call each s) (branch_row setting perform call rest)
          (statement_does each fit.0 at rs s m is ground (has_front instrs at (statement_code plan each) (row_code plan rest) h))
          (λ t k less t_ground. row_does rest (at + size each) rs t k is t_ground fit.1 (has_back instrs at (statement_code plan each) (row_code plan rest) (at + size each) (omega (arith, statement_length plan each)) h)))

    -- the statements of a paragraph
    pub body_does : (ones : List Statement) (at : ℕ) (rs : List Return) (s : ProgramState) (m : Marks) → length rs + d ≡ turning.most_performs → Ground setting.program s.store → Each (suits.Suits system setting) ones → HasAt instrs at (body_code plan ones)
        → DoesFrom system setting.program e s (mach e at rs s m) (at + body_size ones) rs (body setting perform call ones s)
    body_does [] at rs s m is ground fit h =
        let same : at ≡ at + 0 = omega arith in
        ends_at system setting.program e (budget s) _ s.answers at _ rs (Goes s) same (record { marks = m; ground = ground; less = omega arith; leads = stays system (mach e at rs s m) s.answers })
    body_does (one ∷ rest) at rs s m is ground fit h =
        let same : at + size one + body_size rest ≡ at + body_size (one ∷ rest) = omega arith in
        ends_at system setting.program e (budget s) _ s.answers _ _ rs _ same
        (seq system setting.program e (budget s) _ s.answers (at + size one) _ rs rs (statement setting perform call one s) (body setting perform call rest)
        (statement_does one fit.0 at rs s m is ground (has_front instrs at (statement_code plan one) (body_code plan rest) h))
        (λ t k less t_ground. body_does rest (at + size one) rs t k is t_ground fit.1 (has_back instrs at (statement_code plan one) (body_code plan rest) (at + size one) (omega (arith, statement_length plan one)) h)))
