-- The run fault of a configuration is one of a log line, where those that it was told are.
use Rattle.std.proofs.Common.{◌≡◌, ℕ, zero, suc, ◌+◌, ◌-◌, ◌*◌, ◌<◌, ◌^◌, Bool, true, false, List, [], ◌∷◌, ◌++◌, length, Option, Some, None, ap, subst, arith}
use Rattle.std.specs.Prelude.{map, nat_lt, ◌==◌, if◌then◌else◌}
use Rattle.std.specs.List.{AllByRecursion}
use Rattle.pw_terminal.specs.Entries.{check}
use Rattle.pw_terminal.specs.declared.entries.EntryAnswer.{EntryAnswer}
use Rattle.pw_terminal.specs.declared.entries.EntryAnswer.TheVariants.{Valid, BadKey, BadField}
use Rattle.pw_code.proofs.CourseLemmas.{course-holds}
use Rattle.pw_code.specs.Courses.{by_course}
use Rattle.pw_code.specs.Entry.{EntryLineModel}
use Rattle.pw_code.specs.Instrs.{program_at, screen_at}
use Rattle.pw_code.specs.declared.context.Course.{Course}
use Rattle.pw_code.specs.declared.context.Course.TheVariants.{Instruction, Advisory, Fault}
use Rattle.pw_code.specs.declared.context.Frame.{Frame}
use Rattle.pw_code.specs.declared.context.Return.{Return}
use Rattle.pw_code.specs.declared.field.ScreenTable.{ScreenTable}
use Rattle.pw_code.specs.declared.instr.Instr.{Instr}
use Rattle.pw_code.specs.declared.instr.Instr.TheVariants.{Jump, JumpUnless, ParagraphEnd, Move, Compute, OnSizeError, Perform, PerformTimes, Until, PerformOneOf, Exit, ExitProgram, StopRun, DisplayScreen, Display, Accept, Call, Send, NoCode, Begin, End, Abort, Restart, Receive, Reply, Read, ReadNext, Write, Rewrite, Delete}
use Rattle.pw_code.specs.declared.instr.ReplyCode.{ReplyCode}
use Rattle.pw_code.specs.declared.instr.Turn.{Turn}
use Rattle.pw_code.specs.declared.place.StoragePlace.{StoragePlace}
use Rattle.pw_code.specs.declared.system.System.{System}
use Rattle.pw_code.specs.declared.verb.Answer.{Answer}
use Rattle.pw_code.specs.declared.verb.Answer.TheVariants as answer
use Rattle.pw_code.specs.declared.verb.Verb.{Verb}
use Rattle.pw_code.specs.declared.verb.Verb.TheVariants as verb
use Rattle.pw_tree_meaning.specs.Values.{number_of, whole_part}
use Rattle.pw_code_meaning.specs.Answers.{answered, answered_by, begin_put, entry_checked, entry_put, file_put, put, read_put, reply_put, unit_ended, yielded}
use Rattle.pw_code_meaning.specs.Calls.{active, calls, leaves_by, most_active, most_calls, stops}
use Rattle.pw_code_meaning.specs.Config.{Config, faults, code_statement_counted, is_server, most_counted, on, over, with_taken}
use Rattle.pw_code_meaning.specs.Moves.{operands_of, result_of}
use Rattle.pw_code_meaning.specs.Reading.{Spot, registers_of}
use Rattle.pw_code_meaning.specs.Runs.{Run, config_after_answers, at_verb, most_steps, run}
use Rattle.pw_code_meaning.specs.Steps.{act, asked_by, branch, does, holds_here, instr_of, or_else, read_here, spot_here, spots_here, step, taken_here, verb_of}
use Rattle.pw_code_meaning.specs.Turns.{at_position, chosen, comes_back, ends_by, most_performs, placed, split_last, tested, turn, turns}

-- the run fault is one of a log line
abbrev pub IsSmallFault : Course → Type 0
IsSmallFault (Fault code) = code < 2 ^ 16
IsSmallFault _ = Unit {0}

abbrev pub IsSmall : Config → Type 0
IsSmall c = IsSmallFault c.rest.course

-- so it stays
abbrev Keeps : Config → Config → Type 0
Keeps c d = IsSmall c → IsSmall d

by_test : (c d e : Config) (b : Bool) → Keeps c d → Keeps c e → Keeps c (if b then d else e)
by_test c d e true g h = g
by_test c d e false g h = h

-- a run fault of the code
fails : (code : ℕ) (c : Config) → code < 2 ^ 16 → Keeps c (faults code c)
fails code c low small = low

by_taken : {A : Type 0} (o : Option A) (next : A → Config → Config) (c : Config)
    → ((a : A) → Keeps c (next a c)) → Keeps c (with_taken o next c)
by_taken None next c h = fails 203 c (omega arith)
by_taken (Some a) next c h = h a

abbrev more : Config → Config
more c = record c { rest = record c.rest { count = c.rest.count + 1 } }

by_count : (f : Config → Config) (c : Config) → Keeps (more c) (f (more c)) → Keeps c (code_statement_counted f c)
by_count f c g = by_test c (f (more c)) (faults 201 c) (nat_lt c.rest.count most_counted) g
    (fails 201 c (omega arith))

-- ---- turns

abbrev one_turn : ℕ → Turn → ℕ → Config → Config
one_turn resume paragraph left c =
    if nat_lt (length c.top.returns) most_performs
    then placed paragraph.start (c.top.returns ++
    (record { resume = resume; until = paragraph.end; turns = left }) ∷ []) c
    else faults 202 c

turn_kept : (resume : ℕ) (paragraph : Turn) (left : ℕ) (c : Config)
    → Keeps c (turn resume paragraph left c)
turn_kept resume paragraph left c =
    by_count (one_turn resume paragraph left) c
    (by_test (more c) _ _ (nat_lt (length c.top.returns) most_performs) (λ s. s)
    (fails 202 (more c) (omega arith)))

turns_kept : (paragraph : Turn) (n : ℕ) (c : Config) → Keeps c (turns paragraph n c)
turns_kept paragraph n c = by_test c _ _ (n == 0) (λ s. s)
    (turn_kept (c.top.at + 1) paragraph (n - 1) c)

chosen_kept : (o : Option Turn) (c : Config) → Keeps c (chosen o c)
chosen_kept None c = λ s. s
chosen_kept (Some paragraph) c = turn_kept (c.top.at + 1) paragraph 0 c

comes_kept : (start : ℕ) (before : List Return) (last : Return) (c : Config)
    → Keeps c (comes_back start before last c)
comes_kept start before last c =
    by_test c _ _ (last.turns == 0) (λ s. s)
    (by_count (placed start (before ++ (record last { turns = last.turns - 1 }) ∷ [])) c (λ s. s))

ends_kept : (start : ℕ) (o : Option (List Return × Return)) (c : Config) → Keeps c (ends_by start o c)
ends_kept start None c = λ s. s
ends_kept start (Some found) c = by_test c _ _ (found.1.until == c.top.at)
    (comes_kept start found.0 found.1 c) (λ s. s)

test_kept : (paragraph : Turn) (o : Option Bool) (c : Config) → Keeps c (tested paragraph o c)
test_kept paragraph None c = fails 203 c (omega arith)
test_kept paragraph (Some true) c = λ s. s
test_kept paragraph (Some false) c = turn_kept c.top.at paragraph 0 c

-- ---- calls, and where a program is left

stops_kept : (system : System) (c : Config) → Keeps c (stops system c)
stops_kept system c = by_test c _ _ (is_server system c) (fails 209 c (omega arith))
    (by_test c _ _ c.rest.in_unit (fails 207 c (omega arith)) (λ s. s))

leaves_kept : (system : System) (o : Option (List Frame × Frame)) (c : Config)
    → Keeps c (leaves_by system o c)
leaves_kept system None c = stops_kept system c
leaves_kept system (Some found) c = λ s. s

calls_kept : (system : System) (program : ℕ) (keeps : Bool) (places : List Spot) (c : Config)
    → Keeps c (calls system program keeps places c)
calls_kept system program keeps places c =
    by_test c _ _ (nat_lt (length c.rest.frames) most_calls)
    (by_test c _ _
    (nat_lt most_active (active system c + length (program_at system program).storage))
    (fails 208 c (omega arith)) (λ s. s))
    (fails 202 c (omega arith))

-- ---- statements

branch_kept : (n : ℕ) (b : Bool) (c : Config) → Keeps c (branch n b c)
branch_kept n true c = λ s. s
branch_kept n false c = λ s. s

sure_kept : (o : Option (List ℕ)) (c : Config) → Keeps c (or_else o on on c)
sure_kept None c = λ s. s
sure_kept (Some storage) c = λ s. s

guarded_kept : (o : Option (List ℕ)) (n : ℕ) (c : Config) → Keeps c (or_else o on (over n) c)
guarded_kept None n c = λ s. s
guarded_kept (Some storage) n c = λ s. s

does_kept : (system : System) (i : Instr) (c : Config) → Keeps c (does system i c)
does_kept system (JumpUnless cond n) c = by_taken (holds_here c cond) _ c (λ b. branch_kept n b c)
does_kept system (Move from to) c = by_taken (taken_here c from) _ c
    (λ source. by_taken (spots_here c to) _ c (λ targets s. s))
does_kept system (Compute a) c = by_taken (operands_of (registers_of c.rest) c.top.storage a) _ c
    (λ found. sure_kept (result_of a.operation found c.top.storage) c)
does_kept system (OnSizeError a n) c = by_taken
    (operands_of (registers_of c.rest) c.top.storage a) _ c
    (λ found. guarded_kept (result_of a.operation found c.top.storage) n c)
does_kept system (Perform paragraph) c = turn_kept (c.top.at + 1) paragraph 0 c
does_kept system (PerformTimes paragraph times) c =
    by_taken (read_here c times) _ c (λ value. turns_kept paragraph (whole_part (number_of value)) c)
does_kept system (PerformOneOf paragraphs position) c =
    by_taken (read_here c position) _ c (λ value.
    chosen_kept (at_position paragraphs (whole_part (number_of value))) c)
does_kept system Exit c = λ s. s
does_kept system ExitProgram c = leaves_kept system (split_last c.rest.frames) c
does_kept system StopRun c = stops_kept system c
does_kept system (DisplayScreen screen base) c = λ s. s
does_kept system (Display one) c = by_taken (read_here c one) _ c (λ value s. s)
does_kept system (Accept screen keys) c = λ s. s
does_kept system (Call program arguments keeps) c =
    by_taken (spots_here c arguments) _ c (λ places. calls_kept system program keeps places c)
does_kept system (Send class message codes) c =
    by_taken (taken_here c message) _ c (λ found.
    by_taken (spots_here c (map (λ code. code.yields) codes)) _ c (λ items s. s))
does_kept system Begin c = by_test c _ _ c.rest.in_unit (fails 205 c (omega arith)) (λ s. s)
does_kept system End c = by_test c _ _ c.rest.in_unit (λ s. s) (fails 206 c (omega arith))
does_kept system Abort c = by_test c _ _ c.rest.in_unit (λ s. s) (fails 206 c (omega arith))
does_kept system Restart c = by_test c _ _ c.rest.in_unit (λ s. s) (fails 206 c (omega arith))
does_kept system (Receive into) c = by_taken (spot_here c into) _ c (λ item s. s)
does_kept system (Reply from) c = by_taken (taken_here c from) _ c (λ found s. s)
does_kept system (Read file locking key into) c =
    by_taken (taken_here c key) _ c (λ found. by_taken (spot_here c into) _ c (λ item s. s))
does_kept system (ReadNext file locking config_after_answers into) c =
    by_taken (taken_here c config_after_answers) _ c (λ found. by_taken (spot_here c into) _ c (λ item s. s))
does_kept system (Write file from) c = by_taken (taken_here c from) _ c (λ found s. s)
does_kept system (Rewrite file from) c = by_taken (taken_here c from) _ c (λ found s. s)
does_kept system (Delete file key) c = by_taken (taken_here c key) _ c (λ found s. s)
does_kept system (Jump n) c = λ s. s
does_kept system (ParagraphEnd start) c = λ s. s
does_kept system (Until paragraph cond) c = λ s. s
does_kept system NoCode c = λ s. s

ticked : (system : System) (i : Instr) (c : Config) → Keeps c (code_statement_counted (does system i) c)
ticked system i c = by_count (does system i) c (does_kept system i (more c))

act_kept : (system : System) (o : Option Instr) (c : Config) → Keeps c (act system o c)
act_kept system None c = leaves_kept system (split_last c.rest.frames) c
act_kept system (Some (Jump n)) c = λ s. s
act_kept system (Some (ParagraphEnd start)) c = ends_kept start (split_last c.top.returns) c
act_kept system (Some (Until paragraph cond)) c = test_kept paragraph (holds_here c cond) c
act_kept system (Some NoCode) c = fails 204 c (omega arith)
act_kept system (Some (JumpUnless cond n)) c = ticked system (JumpUnless cond n) c
act_kept system (Some (Move from to)) c = ticked system (Move from to) c
act_kept system (Some (Compute a)) c = ticked system (Compute a) c
act_kept system (Some (OnSizeError a n)) c = ticked system (OnSizeError a n) c
act_kept system (Some (Perform paragraph)) c = ticked system (Perform paragraph) c
act_kept system (Some (PerformTimes paragraph times)) c = ticked system (PerformTimes paragraph times) c
act_kept system (Some (PerformOneOf paragraphs position)) c =
    ticked system (PerformOneOf paragraphs position) c
act_kept system (Some Exit) c = ticked system Exit c
act_kept system (Some ExitProgram) c = ticked system ExitProgram c
act_kept system (Some StopRun) c = ticked system StopRun c
act_kept system (Some (DisplayScreen screen base)) c = ticked system (DisplayScreen screen base) c
act_kept system (Some (Display one)) c = ticked system (Display one) c
act_kept system (Some (Accept screen keys)) c = ticked system (Accept screen keys) c
act_kept system (Some (Call program arguments keeps)) c = ticked system (Call program arguments keeps) c
act_kept system (Some (Send class message codes)) c = ticked system (Send class message codes) c
act_kept system (Some Begin) c = ticked system Begin c
act_kept system (Some End) c = ticked system End c
act_kept system (Some Abort) c = ticked system Abort c
act_kept system (Some Restart) c = ticked system Restart c
act_kept system (Some (Receive into)) c = ticked system (Receive into) c
act_kept system (Some (Reply from)) c = ticked system (Reply from) c
act_kept system (Some (Read file locking key into)) c = ticked system (Read file locking key into) c
act_kept system (Some (ReadNext file locking config_after_answers into)) c =
    ticked system (ReadNext file locking config_after_answers into) c
act_kept system (Some (Write file from)) c = ticked system (Write file from) c
act_kept system (Some (Rewrite file from)) c = ticked system (Rewrite file from) c
act_kept system (Some (Delete file key)) c = ticked system (Delete file key) c

step_kept : (system : System) (c : Config) → Keeps c (step system c)
step_kept system c = course-holds (Keeps c) c.rest.course _ _ _ (act_kept system (instr_of system c) c) (λ s. s) (λ code s. s)

-- ---- answers

-- a run fault that is told is one of a log line
abbrev pub IsTold : Answer → Type 0
IsTold (answer.Failed code) = code < 2 ^ 16
IsTold _ = Unit {0}

checked : (table : ScreenTable) (line : EntryLineModel) (found : EntryAnswer) (c : Config)
    → Keeps c (entry_checked table line found c)
checked table line (Valid place) c = λ s. s
checked table line BadKey c = λ s. tt
checked table line (BadField place) c = λ s. tt

yields : (o : Option (ℕ × Spot)) (reply : List ℕ) (c : Config) → Keeps c (yielded o reply c)
yields None reply c = by (c.rest.in_unit)
  where
    by : (b : Bool) → IsSmall c → IsSmallFault (if b then answered c.rest else unit_ended c.rest).course
    by true s = s
    by false s = s
yields (Some found) reply c = by (c.rest.in_unit)
  where
    by : (b : Bool) → IsSmall c → IsSmallFault (if b then answered c.rest else unit_ended c.rest).course
    by true s = s
    by false s = s

enters : (table : ScreenTable) (keys : List ℕ) (a : Answer) (c : Config)
    → Keeps c (entry_put table keys a c)
enters table keys (answer.Entry line) c = checked table line (check table keys line) c
enters table keys answer.Shown c = λ s. s
enters table keys (answer.Begun r) c = λ s. s
enters table keys (answer.Replied reply) c = λ s. s
enters table keys (answer.Failed code) c = λ s. s
enters table keys answer.Ended c = λ s. s
enters table keys answer.Dropped c = λ s. s
enters table keys (answer.FileDone status content) c = λ s. s

replies : (codes : List ReplyCode) (a : Answer) → IsTold a → (c : Config)
    → Keeps c (reply_put codes a c)
replies codes (answer.Replied reply) told c = yields _ reply c
replies codes (answer.Failed code) told c = λ s. told
replies codes (answer.Entry line) told c = λ s. s
replies codes answer.Shown told c = λ s. s
replies codes (answer.Begun r) told c = λ s. s
replies codes answer.Ended told c = λ s. s
replies codes answer.Dropped told c = λ s. s
replies codes (answer.FileDone status content) told c = λ s. s

begins : (a : Answer) (c : Config) → Keeps c (begin_put a c)
begins (answer.Begun r) c = λ s. s
begins (answer.Replied reply) c = λ s. s
begins (answer.Failed code) c = λ s. s
begins (answer.Entry line) c = λ s. s
begins answer.Shown c = λ s. s
begins answer.Ended c = λ s. s
begins answer.Dropped c = λ s. s
begins (answer.FileDone status content) c = λ s. s

reads : (into : StoragePlace) (a : Answer) (c : Config) → Keeps c (read_put into a c)
reads into (answer.FileDone status content) c = λ s. s
reads into (answer.Begun r) c = λ s. s
reads into (answer.Replied reply) c = λ s. s
reads into (answer.Failed code) c = λ s. s
reads into (answer.Entry line) c = λ s. s
reads into answer.Shown c = λ s. s
reads into answer.Ended c = λ s. s
reads into answer.Dropped c = λ s. s

files : (a : Answer) (c : Config) → Keeps c (file_put a c)
files (answer.FileDone status content) c = λ s. s
files (answer.Begun r) c = λ s. s
files (answer.Replied reply) c = λ s. s
files (answer.Failed code) c = λ s. s
files (answer.Entry line) c = λ s. s
files answer.Shown c = λ s. s
files answer.Ended c = λ s. s
files answer.Dropped c = λ s. s

by_instr : (system : System) (o : Option Instr) (a : Answer) → IsTold a → (c : Config)
    → Keeps c (answered_by system o a c)
by_instr system (Some (DisplayScreen screen base)) a told c = λ s. tt
by_instr system (Some (Display one)) a told c = λ s. tt
by_instr system (Some (Accept screen keys)) a told c = enters (screen_at system screen) keys a c
by_instr system (Some (Send class message codes)) a told c = replies codes a told c
by_instr system (Some Begin) a told c = begins a c
by_instr system (Some End) a told c = λ s. s
by_instr system (Some Abort) a told c = λ s. s
by_instr system (Some (Read file locking key into)) a told c = reads into a c
by_instr system (Some (ReadNext file locking key into)) a told c = reads into a c
by_instr system (Some (Write file from)) a told c = files a c
by_instr system (Some (Rewrite file from)) a told c = files a c
by_instr system (Some (Delete file key)) a told c = files a c
by_instr system (Some Restart) a told c = λ s. s
by_instr system (Some (Reply from)) a told c = λ s. s
by_instr system (Some (Jump n)) a told c = λ s. s
by_instr system (Some (JumpUnless cond n)) a told c = λ s. s
by_instr system (Some (ParagraphEnd start)) a told c = λ s. s
by_instr system (Some (Move from to)) a told c = λ s. s
by_instr system (Some (Compute one)) a told c = λ s. s
by_instr system (Some (OnSizeError one n)) a told c = λ s. s
by_instr system (Some (Perform paragraph)) a told c = λ s. s
by_instr system (Some (PerformTimes paragraph times)) a told c = λ s. s
by_instr system (Some (Until paragraph cond)) a told c = λ s. s
by_instr system (Some (PerformOneOf paragraphs position)) a told c = λ s. s
by_instr system (Some Exit) a told c = λ s. s
by_instr system (Some ExitProgram) a told c = λ s. s
by_instr system (Some StopRun) a told c = λ s. s
by_instr system (Some (Call program arguments keeps)) a told c = λ s. s
by_instr system (Some NoCode) a told c = λ s. s
by_instr system (Some (Receive into)) a told c = λ s. s
by_instr system None a told c = λ s. s

put_kept : (system : System) (a : Answer) → IsTold a → (c : Config) → Keeps c (put system a c)
put_kept system a told c =
    course-holds (Keeps c) c.rest.course _ _ _ (by_instr system (instr_of system c) a told c) (λ s. tt) (λ code s. s)

-- ---- along answers

module _ (system : System) where
  abbrev going : ℕ → Config → List Answer → Bool → Run Config Answer
  going n c q b = elim b as (λ _. Run Config Answer) [
    | true ↦ elim q as (λ _. Run Config Answer) [
      | [] ↦ record { at = c; left = [] }
      | a ∷ others ↦ run system n (put system a c) others
    ]
    | false ↦ run system n (step system c) q
  ]

  run_kept : (n : ℕ) (c : Config) (answers : List Answer) → AllByRecursion IsTold answers
      → IsSmall c → IsSmall (run system n c answers).at
  run_kept zero c answers told s = s
  run_kept (suc n) c answers told s =
      by (at_verb c) answers told (λ a others one rest.
      run_kept n (put system a c) others rest (put_kept system a one c s))
      (λ q told. run_kept n (step system c) q told (step_kept system c s))
    where
      by : (b : Bool) (q : List Answer) → AllByRecursion IsTold q
          → ((a : Answer) (others : List Answer) → IsTold a → AllByRecursion IsTold others
          → IsSmall (run system n (put system a c) others).at)
          → ((q : List Answer) → AllByRecursion IsTold q → IsSmall (run system n (step system c) q).at)
          → IsSmall (going n c q b).at
      by true [] told one more = s
      by true (a ∷ others) told one more = one a others told.0 told.1
      by false q told one more = more q told

  -- where the code stands behind answers
  pub after_kept : (c : Config) (answers : List Answer) → AllByRecursion IsTold answers → IsSmall c
      → IsSmall (config_after_answers system c answers)
  after_kept c answers told s = run_kept (most_steps * (length answers + 1)) c answers told s

-- ---- what is asked

-- the verb is no run fault
abbrev IsNone : Verb → Type 0
IsNone (verb.Fault code) = ⊥
IsNone _ = Unit {0}

none-asked : (o : Option Instr) (c : Config) → IsNone (asked_by o c)
none-asked (Some (DisplayScreen screen base)) c = tt
none-asked (Some (Display one)) c = tt
none-asked (Some (Accept screen keys)) c = tt
none-asked (Some (Send class message codes)) c = tt
none-asked (Some Begin) c = tt
none-asked (Some End) c = tt
none-asked (Some Abort) c = tt
none-asked (Some (Read file locking key into)) c = tt
none-asked (Some (ReadNext file locking key into)) c = tt
none-asked (Some (Write file from)) c = tt
none-asked (Some (Rewrite file from)) c = tt
none-asked (Some (Delete file key)) c = tt
none-asked (Some Restart) c = tt
none-asked (Some (Reply from)) c = tt
none-asked (Some (Jump n)) c = tt
none-asked (Some (JumpUnless cond n)) c = tt
none-asked (Some (ParagraphEnd start)) c = tt
none-asked (Some (Move from to)) c = tt
none-asked (Some (Compute one)) c = tt
none-asked (Some (OnSizeError one n)) c = tt
none-asked (Some (Perform paragraph)) c = tt
none-asked (Some (PerformTimes paragraph times)) c = tt
none-asked (Some (Until paragraph cond)) c = tt
none-asked (Some (PerformOneOf paragraphs position)) c = tt
none-asked (Some Exit) c = tt
none-asked (Some ExitProgram) c = tt
none-asked (Some StopRun) c = tt
none-asked (Some (Call program arguments keeps)) c = tt
none-asked (Some NoCode) c = tt
none-asked (Some (Receive into)) c = tt
none-asked None c = tt

fault-of : (v : Verb) (x : ℕ) → IsNone v → v ≡ verb.Fault x → x < 2 ^ 16
fault-of v x none is = absurd (subst IsNone is none)

abbrev fault_in : Verb → ℕ
fault_in (verb.Fault x) = x
fault_in _ = 0

-- a run fault that is asked is that of the configuration
pub verb_small : (system : System) (c : Config) (x : ℕ) → IsSmall c
    → verb_of system c ≡ verb.Fault x → x < 2 ^ 16
verb_small system c x = by c.rest.course
  where
    by : (course : Course) → IsSmallFault course
        → by_course course (asked_by (instr_of system c) c) verb.Show verb.Fault ≡ verb.Fault x
        → x < 2 ^ 16
    by (Fault code) s is = subst (λ n. n < 2 ^ 16) (ap fault_in is) s
    by Advisory s is = fault-of verb.Show x tt is
    by Instruction s is = fault-of (asked_by (instr_of system c) c) x
        (none-asked (instr_of system c) c) is
