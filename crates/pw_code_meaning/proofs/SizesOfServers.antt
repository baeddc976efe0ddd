-- The server at work is sound: no program waits for it, and its storage never gets shorter.
use Rattle.std.proofs.Common.{◌≡◌, ℕ, zero, suc, ◌+◌, ◌-◌, ◌≤◌, ◌<◌, Bool, true, false, List, [], ◌∷◌, ◌++◌, length, Option, Some, None, refl, sym, ap, ◌∙◌, subst, arith}
use Rattle.std.specs.Prelude.{All, IsTrue, map, slice_get, slice_index_or, nat_lt, ◌==◌, Result, Ok, Err, if◌then◌else◌}
use Rattle.std.proofs.lemmas.Bool.{cases_lt, le-ltb}
use Rattle.std.proofs.lemmas.List.{length-append, length-drop, length-take}
use Rattle.pw_base.proofs.Plain.{some_is}
use Rattle.pw_number.specs.Number.{Number}
use Rattle.pw_number.specs.declared.size_error.SizeError.{SizeError}
use Rattle.pw_picture.specs.Stored.{is_kept, moved}
use Rattle.pw_picture.specs.declared.picture.Picture.{Picture}
use Rattle.pw_terminal.specs.Shown.{written}
use Rattle.pw_code.proofs.CourseLemmas.{course-holds}
use Rattle.pw_code.specs.Instrs.{AreInstrs, IsInstr, is_for, no_code, program_at}
use Rattle.pw_code.specs.Valid.{IsCode, IsValid}
use Rattle.pw_code.specs.declared.code.Code.{Code}
use Rattle.pw_code.specs.declared.context.Context.{Context}
use Rattle.pw_code.specs.declared.context.Frame.{Frame}
use Rattle.pw_code.specs.declared.context.Return.{Return}
use Rattle.pw_code.specs.declared.instr.Arithmetic.{Arithmetic}
use Rattle.pw_code.specs.declared.instr.ArithmeticOperation.{ArithmeticOperation}
use Rattle.pw_code.specs.declared.instr.Instr.{Instr}
use Rattle.pw_code.specs.declared.instr.Instr.TheVariants.{Jump, JumpUnless, ParagraphEnd, Move, Compute, OnSizeError, Perform, PerformTimes, Until, PerformOneOf, Exit, ExitProgram, StopRun, DisplayScreen, Display, Accept, Call, Send, NoCode, Begin, End, Abort, Restart, Receive, Reply, Read, ReadNext, Write, Rewrite, Delete}
use Rattle.pw_code.specs.declared.instr.Turn.{Turn}
use Rattle.pw_code.specs.declared.place.StoragePlace.{StoragePlace}
use Rattle.pw_code.specs.declared.system.System.{System}
use Rattle.pw_code.specs.declared.verb.Answer.{Answer}
use Rattle.pw_code.specs.declared.verb.Answer.TheVariants as answer
use Rattle.pw_tree_meaning.specs.Values.{Text', Value, number_of, whole_part}
use Rattle.pw_code_meaning.specs.Answers.{answered_by, file_done, file_put, moved_into, put, read_put, shown}
use Rattle.pw_code_meaning.specs.Calls.{leaves_by, stops}
use Rattle.pw_code_meaning.specs.Config.{Config, closed, code_at, code_of, code_statement_counted, faults, is_server, most_counted, on, over, starting_server, with_storage, with_taken}
use Rattle.pw_code_meaning.specs.Moves.{computed, move_value, moved_chars, moves, operands_of, operated, receiver_decimals, result_of, stored_by, stored_in}
use Rattle.pw_code_meaning.specs.Reading.{Spot, ResolvedOperand, put_at, registers_of, spot_of, value_in}
use Rattle.pw_code_meaning.specs.Runs.{Comes, Run, StandsForFiles, at_verb, runs}
use Rattle.pw_code_meaning.specs.Sound.{AreWaiting, IsFrame, IsSound, IsSoundContext}
use Rattle.pw_code_meaning.specs.Steps.{act, branch, does, holds_here, instr_of, or_else, read_here, spot_here, spots_here, step, taken_here}
use Rattle.pw_code_meaning.specs.Turns.{at_position, chosen, comes_back, ends_by, most_performs, placed, split_last, tested, turn, turns}

-- ---- storages that do not get shorter

written-long : (place : ℕ) (text cells : List ℕ) → length cells ≤ length (written place text cells)
written-long place text cells = simp (length-append, length-take, length-drop) (omega arith)

move-long : (value : Value) (spot : Spot) (storage : List ℕ) → length storage ≤ length (move_value value spot storage)
move-long value spot storage = written-long spot.at (moved_chars spot.picture spot.size value) storage

moves-long : (source : ResolvedOperand) (spots : List Spot) (storage : List ℕ) → length storage ≤ length (moves source spots storage)
moves-long source [] storage = omega arith
moves-long source (spot ∷ spots) storage =
    let first = move-long (value_in storage source) spot storage in
    let rest = moves-long source spots (move_value (value_in storage source) spot storage) in
    omega (arith, first, rest)

stored-long : (p : Option Picture) (spot : Spot) (m : Number) (storage out : List ℕ) → stored_by p spot m storage ≡ Some out → length storage ≤ length out
stored-long None spot m storage out e = absurd (cc e)
stored-long (Some p) spot m storage out e = by (is_kept p m) e
  where
    by : (b : Bool) → (if b then Some (put_at spot (moved p m) storage) else None) ≡ Some out → length storage ≤ length out
    by true e =
        let long = written-long spot.at (moved p m) storage in
        let same = ap (length {A = ℕ}) (some_is e) in
        omega (arith, long, same)
    by false e = absurd (cc e)

computed-in-long : (r : Result Number SizeError) (spot : Spot) (storage out : List ℕ) → stored_in spot r storage ≡ Some out → length storage ≤ length out
computed-in-long (Ok m) spot storage out e = stored-long spot.picture spot m storage out e
computed-in-long (Err error) spot storage out e = absurd (cc e)

computed-long : (op : ArithmeticOperation) (first second : Value) (spot : Spot) (storage out : List ℕ) → computed op first second spot storage ≡ Some out → length storage ≤ length out
computed-long op first second spot storage out e = computed-in-long (operated op (receiver_decimals spot.picture) (number_of first) (number_of second)) spot storage out e

-- ---- what leaves the program at work

pub record Grows (c d : Config) : Type 0 where
  pub program : d.top.program ≡ c.top.program
  pub size : length c.top.storage ≤ length d.top.storage
  pub frames : d.rest.frames ≡ c.rest.frames

same : (c d : Config) → d.top.program ≡ c.top.program → d.top.storage ≡ c.top.storage → d.rest.frames ≡ c.rest.frames → Grows c d
same c d program storage frames = record { program = program; size = let long = ap (length {A = ℕ}) storage in omega (arith, long); frames = frames }

longer : (c d : Config) → d.top.program ≡ c.top.program → length c.top.storage ≤ length d.top.storage → d.rest.frames ≡ c.rest.frames → Grows c d
longer c d program size frames = record { program = program; size = size; frames = frames }

by_test : (c d e : Config) (b : Bool) → Grows c d → Grows c e → Grows c (if b then d else e)
by_test c d e true g h = g
by_test c d e false g h = h

by_taken : {A : Type 0} (o : Option A) (next : A → Config → Config) (c : Config) → ((a : A) → o ≡ Some a → Grows c (next a c)) → Grows c (with_taken o next c)
by_taken None next c h = same c _ refl refl refl
by_taken (Some a) next c h = h a refl

abbrev more : Config → Config
more c = record c { rest = record c.rest { count = c.rest.count + 1 } }

by_count : (f : Config → Config) (c : Config) → Grows (more c) (f (more c)) → Grows c (code_statement_counted f c)
by_count f c g = by_test c (f (more c)) (faults 201 c) (nat_lt c.rest.count most_counted) (record { program = g.program; size = g.size; frames = g.frames }) (same c _ refl refl refl)

abbrev one_turn : ℕ → Turn → ℕ → Config → Config
one_turn resume paragraph left c =
    if nat_lt (length c.top.returns) most_performs
    then placed paragraph.start (c.top.returns ++ (record { resume = resume; until = paragraph.end; turns = left }) ∷ []) c
    else faults 202 c

turn_grows : (resume : ℕ) (paragraph : Turn) (left : ℕ) (c : Config) → Grows c (turn resume paragraph left c)
turn_grows resume paragraph left c =
    by_count (one_turn resume paragraph left) c (by_test (more c) _ _ (nat_lt (length c.top.returns) most_performs) (same (more c) _ refl refl refl) (same (more c) _ refl refl refl))

turns_grows : (paragraph : Turn) (n : ℕ) (c : Config) → Grows c (turns paragraph n c)
turns_grows paragraph n c = by_test c _ _ (n == 0) (same c _ refl refl refl) (turn_grows (c.top.at + 1) paragraph (n - 1) c)

chosen_grows : (o : Option Turn) (c : Config) → Grows c (chosen o c)
chosen_grows None c = same c _ refl refl refl
chosen_grows (Some paragraph) c = turn_grows (c.top.at + 1) paragraph 0 c

comes_grows : (start : ℕ) (before : List Return) (last : Return) (c : Config) → Grows c (comes_back start before last c)
comes_grows start before last c =
    by_test c _ _ (last.turns == 0) (same c _ refl refl refl)
    (by_count (placed start (before ++ (record last { turns = last.turns - 1 }) ∷ [])) c (same (more c) _ refl refl refl))

ends_grows : (start : ℕ) (o : Option (List Return × Return)) (c : Config) → Grows c (ends_by start o c)
ends_grows start None c = same c _ refl refl refl
ends_grows start (Some found) c = by_test c _ _ (found.1.until == c.top.at) (comes_grows start found.0 found.1 c) (same c _ refl refl refl)

test_grows : (paragraph : Turn) (o : Option Bool) (c : Config) → Grows c (tested paragraph o c)
test_grows paragraph None c = same c _ refl refl refl
test_grows paragraph (Some true) c = same c _ refl refl refl
test_grows paragraph (Some false) c = turn_grows c.top.at paragraph 0 c

stops_grows : (system : System) (c : Config) → Grows c (stops system c)
stops_grows system c = by_test c _ _ (is_server system c) (same c _ refl refl refl) (by_test c _ _ c.rest.in_unit (same c _ refl refl refl) (same c _ refl refl refl))

branch_grows : (n : ℕ) (b : Bool) (c : Config) → Grows c (branch n b c)
branch_grows n true c = same c _ refl refl refl
branch_grows n false c = same c _ refl refl refl

result_grows : (c : Config) (o : Option (List ℕ)) (n : ℕ) → ((storage : List ℕ) → o ≡ Some storage → length c.top.storage ≤ length storage) → Grows c (or_else o on (over n) c)
result_grows c None n size = same c _ refl refl refl
result_grows c (Some storage) n size = longer c _ refl (size storage refl) refl

sure_grows : (c : Config) (o : Option (List ℕ)) → ((storage : List ℕ) → o ≡ Some storage → length c.top.storage ≤ length storage) → Grows c (or_else o on on c)
sure_grows c None size = same c _ refl refl refl
sure_grows c (Some storage) size = longer c _ refl (size storage refl) refl

-- a program that no other called is left
leaves_grows : (system : System) (c : Config) → c.rest.frames ≡ [] → Grows c (leaves_by system (split_last c.rest.frames) c)
leaves_grows system c alone = subst (λ o. Grows c (leaves_by system o c)) (sym (ap split_last alone)) (stops_grows system c)

module _ (system : System) (c : Config) (alone : c.rest.frames ≡ []) where
  does_grows : (i : Instr) → IsTrue (is_for true i) → Grows c (does system i c)
  does_grows (JumpUnless cond n) for = by_taken (holds_here c cond) _ c (λ b e. branch_grows n b c)
  does_grows (Move from to) for = by_taken (taken_here c from) _ c (λ source e. by_taken (spots_here c to) _ c (λ targets found. longer c _ refl (moves-long source targets c.top.storage) refl))
  does_grows (Compute a) for =
      by_taken (operands_of (registers_of c.rest) c.top.storage a) _ c (λ found e.
      sure_grows c (result_of a.operation found c.top.storage) (λ storage out. computed-long a.operation found.first found.second found.receiver c.top.storage storage out))
  does_grows (OnSizeError a n) for =
      by_taken (operands_of (registers_of c.rest) c.top.storage a) _ c (λ found e.
      result_grows c (result_of a.operation found c.top.storage) n (λ storage out. computed-long a.operation found.first found.second found.receiver c.top.storage storage out))
  does_grows (Perform paragraph) for = turn_grows (c.top.at + 1) paragraph 0 c
  does_grows (PerformTimes paragraph times) for = by_taken (read_here c times) _ c (λ value e. turns_grows paragraph (whole_part (number_of value)) c)
  does_grows (PerformOneOf paragraphs position) for = by_taken (read_here c position) _ c (λ value e. chosen_grows (at_position paragraphs (whole_part (number_of value))) c)
  does_grows Exit for = same c _ refl refl refl
  does_grows ExitProgram for = leaves_grows system c alone
  does_grows StopRun for = stops_grows system c
  does_grows (Receive into) for = by_taken (spot_here c into) _ c (λ item e. longer c _ refl (move-long (Text' _) item c.top.storage) refl)
  does_grows (Reply from) for = by_taken (taken_here c from) _ c (λ found e. same c _ refl refl refl)
  does_grows (Read file locking key into) for = by_taken (taken_here c key) _ c (λ found e. by_taken (spot_here c into) _ c (λ item e. same c _ refl refl refl))
  does_grows (ReadNext file locking after into) for = by_taken (taken_here c after) _ c (λ found e. by_taken (spot_here c into) _ c (λ item e. same c _ refl refl refl))
  does_grows (Write file from) for = by_taken (taken_here c from) _ c (λ found e. same c _ refl refl refl)
  does_grows (Rewrite file from) for = by_taken (taken_here c from) _ c (λ found e. same c _ refl refl refl)
  does_grows (Delete file key) for = by_taken (taken_here c key) _ c (λ found e. same c _ refl refl refl)
  does_grows (Jump n) for = same c _ refl refl refl
  does_grows (ParagraphEnd start) for = same c _ refl refl refl
  does_grows (Until paragraph cond) for = same c _ refl refl refl
  does_grows (DisplayScreen screen base) for = absurd (cc for)
  does_grows (Display one) for = absurd (cc for)
  does_grows (Accept screen keys) for = absurd (cc for)
  does_grows (Call program arguments keeps) for = absurd (cc for)
  does_grows (Send class message codes) for = absurd (cc for)
  does_grows NoCode for = absurd (cc for)
  does_grows Begin for = absurd (cc for)
  does_grows End for = absurd (cc for)
  does_grows Abort for = absurd (cc for)
  does_grows Restart for = absurd (cc for)

-- ---- answers

into-long : (spot : Option Spot) (status : ℕ) (content : Option (List ℕ)) (storage : List ℕ) → length storage ≤ length (moved_into spot status content storage)
into-long (Some spot) status (Some content) storage = by (status == 0)
  where
    by : (b : Bool) → length storage ≤ length (if b then move_value (Text' content) spot storage else storage)
    by true = move-long (Text' content) spot storage
    by false = omega arith
into-long (Some spot) status None storage = omega arith
into-long None status content storage = omega arith

done_grows : (into : Option Spot) (status : ℕ) (content : Option (List ℕ)) (c : Config) → Grows c (file_done into status content c)
done_grows into status content c = longer c _ refl (into-long into status content c.top.storage) refl

read_grows : (into : StoragePlace) (a : Answer) (c : Config) → Grows c (read_put into a c)
read_grows into (answer.FileDone status content) c = done_grows (spot_of (registers_of c.rest) c.top.storage into) status content c
read_grows into answer.Shown c = same c _ refl refl refl
read_grows into (answer.Entry line) c = same c _ refl refl refl
read_grows into (answer.Begun r) c = same c _ refl refl refl
read_grows into (answer.Replied reply) c = same c _ refl refl refl
read_grows into (answer.Failed code) c = same c _ refl refl refl
read_grows into answer.Ended c = same c _ refl refl refl
read_grows into answer.Dropped c = same c _ refl refl refl

put_grows : (a : Answer) (c : Config) → Grows c (file_put a c)
put_grows (answer.FileDone status content) c = done_grows None status content c
put_grows answer.Shown c = same c _ refl refl refl
put_grows (answer.Entry line) c = same c _ refl refl refl
put_grows (answer.Begun r) c = same c _ refl refl refl
put_grows (answer.Replied reply) c = same c _ refl refl refl
put_grows (answer.Failed code) c = same c _ refl refl refl
put_grows answer.Ended c = same c _ refl refl refl
put_grows answer.Dropped c = same c _ refl refl refl

answered_grows : (system : System) (i : Instr) (a : Answer) (c : Config) → IsTrue (is_for true i) → Grows c (answered_by system (Some i) a c)
answered_grows system (Read file locking key into) a c for = read_grows into a c
answered_grows system (ReadNext file locking after into) a c for = read_grows into a c
answered_grows system (Write file from) a c for = put_grows a c
answered_grows system (Rewrite file from) a c for = put_grows a c
answered_grows system (Delete file key) a c for = put_grows a c
answered_grows system (Jump n) a c for = same c _ refl refl refl
answered_grows system (JumpUnless cond n) a c for = same c _ refl refl refl
answered_grows system (ParagraphEnd start) a c for = same c _ refl refl refl
answered_grows system (Move from to) a c for = same c _ refl refl refl
answered_grows system (Compute one) a c for = same c _ refl refl refl
answered_grows system (OnSizeError one n) a c for = same c _ refl refl refl
answered_grows system (Perform paragraph) a c for = same c _ refl refl refl
answered_grows system (PerformTimes paragraph times) a c for = same c _ refl refl refl
answered_grows system (Until paragraph cond) a c for = same c _ refl refl refl
answered_grows system (PerformOneOf paragraphs position) a c for = same c _ refl refl refl
answered_grows system Exit a c for = same c _ refl refl refl
answered_grows system ExitProgram a c for = same c _ refl refl refl
answered_grows system StopRun a c for = same c _ refl refl refl
answered_grows system (Receive into) a c for = same c _ refl refl refl
answered_grows system (Reply from) a c for = same c _ refl refl refl
answered_grows system (DisplayScreen screen base) a c for = absurd (cc for)
answered_grows system (Display one) a c for = absurd (cc for)
answered_grows system (Accept screen keys) a c for = absurd (cc for)
answered_grows system (Call program arguments keeps) a c for = absurd (cc for)
answered_grows system (Send class message codes) a c for = absurd (cc for)
answered_grows system NoCode a c for = absurd (cc for)
answered_grows system Begin a c for = absurd (cc for)
answered_grows system End a c for = absurd (cc for)
answered_grows system Abort a c for = absurd (cc for)
answered_grows system Restart a c for = absurd (cc for)

-- ---- steps

instr-at : (system : System) (code : Code) (instrs : List Instr) → AreInstrs true system code instrs → (k : ℕ) (i : Instr) → slice_get instrs k ≡ Some i → IsTrue (is_for true i)
instr-at system code [] are k i e = absurd (cc e)
instr-at system code (first ∷ rest) are zero i e = let is : first ≡ i = cc e in subst (λ (x : Instr). IsTrue (is_for true x)) is are.0.kind
instr-at system code (first ∷ rest) are (suc k) i e = instr-at system code rest are.1 k i e

module _ (system : System) (valid : IsValid system) (server : ℕ) (known : server < length system.servers) where
  -- the server is at work alone, and its items lie in its storage
  pub record Serves (c : Config) : Type 0 where
    pub program : c.top.program ≡ length system.programs + server
    pub alone : c.rest.frames ≡ []
    pub frame : length (code_at system c.top.program).storage ≤ length c.top.storage

  code-is : code_at system (length system.programs + server) ≡ slice_index_or system.servers server no_code
  code-is =
      ap (λ b. if b then program_at system (length system.programs + server) else slice_index_or system.servers (length system.programs + server - length system.programs) no_code)
      (le-ltb (length system.programs + server) (length system.programs) (omega arith))
      ∙ ap (λ n. slice_index_or system.servers n no_code) (let is : length system.programs + server - length system.programs ≡ server = omega arith in is)

  valid-at : IsCode true system (code_at system (length system.programs + server))
  valid-at = subst (IsCode true system) (sym code-is) (valid.servers server no_code known)

  valid-of : (c : Config) → Serves c → IsCode true system (code_of system c)
  valid-of c s = subst (λ n. IsCode true system (code_at system n)) (sym s.program) valid-at

  grown : (c d : Config) → Grows c d → Serves c → Serves d
  grown c d g s = record {
    program = g.program ∙ s.program;
    alone = g.frames ∙ s.alone;
    frame = let le = s.frame in let size = g.size in let code = ap (λ n. length (code_at system n).storage) g.program in omega (arith, le, size, code);
  }

  instr-is : (c : Config) (i : Instr) → Serves c → instr_of system c ≡ Some i → IsTrue (is_for true i)
  instr-is c i s at = instr-at system (code_of system c) (code_of system c).instrs (valid-of c s).instrs c.top.at i at

  ticked : (i : Instr) (c : Config) → Serves c → IsTrue (is_for true i) → Grows c (code_statement_counted (does system i) c)
  ticked i c s for = by_count (does system i) c (does_grows system (more c) s.alone i for)

  act-grows : (i : Instr) (c : Config) → Serves c → IsTrue (is_for true i) → Grows c (act system (Some i) c)
  act-grows (Jump n) c s for = same c _ refl refl refl
  act-grows (ParagraphEnd start) c s for = ends_grows start (split_last c.top.returns) c
  act-grows (Until paragraph cond) c s for = test_grows paragraph (holds_here c cond) c
  act-grows NoCode c s for = absurd (cc for)
  act-grows (JumpUnless cond n) c s for = ticked (JumpUnless cond n) c s for
  act-grows (Move from to) c s for = ticked (Move from to) c s for
  act-grows (Compute a) c s for = ticked (Compute a) c s for
  act-grows (OnSizeError a n) c s for = ticked (OnSizeError a n) c s for
  act-grows (Perform paragraph) c s for = ticked (Perform paragraph) c s for
  act-grows (PerformTimes paragraph times) c s for = ticked (PerformTimes paragraph times) c s for
  act-grows (PerformOneOf paragraphs position) c s for = ticked (PerformOneOf paragraphs position) c s for
  act-grows Exit c s for = ticked Exit c s for
  act-grows ExitProgram c s for = ticked ExitProgram c s for
  act-grows StopRun c s for = ticked StopRun c s for
  act-grows (DisplayScreen screen base) c s for = ticked (DisplayScreen screen base) c s for
  act-grows (Display one) c s for = ticked (Display one) c s for
  act-grows (Accept screen keys) c s for = ticked (Accept screen keys) c s for
  act-grows (Call program arguments keeps) c s for = ticked (Call program arguments keeps) c s for
  act-grows (Send class message codes) c s for = ticked (Send class message codes) c s for
  act-grows Begin c s for = ticked Begin c s for
  act-grows End c s for = ticked End c s for
  act-grows Abort c s for = ticked Abort c s for
  act-grows Restart c s for = ticked Restart c s for
  act-grows (Receive into) c s for = ticked (Receive into) c s for
  act-grows (Reply from) c s for = ticked (Reply from) c s for
  act-grows (Read file locking key into) c s for = ticked (Read file locking key into) c s for
  act-grows (ReadNext file locking after into) c s for = ticked (ReadNext file locking after into) c s for
  act-grows (Write file from) c s for = ticked (Write file from) c s for
  act-grows (Rewrite file from) c s for = ticked (Rewrite file from) c s for
  act-grows (Delete file key) c s for = ticked (Delete file key) c s for

  by-instr : (o : Option Instr) (c : Config) → Serves c → instr_of system c ≡ o → Grows c (act system o c)
  by-instr None c s at = leaves_grows system c s.alone
  by-instr (Some i) c s at = act-grows i c s (instr-is c i s at)

  step-serves : (c : Config) → Serves c → Serves (step system c)
  step-serves c s = grown c (step system c) (course-holds (Grows c) c.rest.course _ _ _ (by-instr (instr_of system c) c s refl) (same c _ refl refl refl) (λ code. same c _ refl refl refl)) s

  put-by : (o : Option Instr) (a : Answer) (c : Config) → Serves c → instr_of system c ≡ o → Grows c (answered_by system o a c)
  put-by None a c s at = same c _ refl refl refl
  put-by (Some i) a c s at = answered_grows system i a c (instr-is c i s at)

  put-serves : (a : Answer) (c : Config) → Serves c → Serves (put system a c)
  put-serves a c s =
      grown c (put system a c)
      (course-holds (Grows c) c.rest.course _ _ _ (put-by (instr_of system c) a c s refl) (same c (shown c) refl refl refl) (λ code. same c c refl refl refl)) s

  start-serves : (message : List ℕ) → Serves (starting_server system server message)
  start-serves message = record {
    program = refl;
    alone = refl;
    frame = let sum = length-append (code_at system (length system.programs + server)).storage message in omega (arith, sum);
  }

  abbrev one_turn-of : ℕ → Config → List Answer → Bool → Run Config Answer
  one_turn-of n c answers b = elim b as (λ _. Run Config Answer) [
    | true ↦ elim answers as (λ _. Run Config Answer) [
      | [] ↦ record { at = c; left = [] }
      | a ∷ rest ↦ runs at_verb (step system) (put system) n (put system a c) rest
    ]
    | false ↦ runs at_verb (step system) (put system) n (step system c) answers
  ]

  run-serves : (n : ℕ) (c d : Config) (answers : List Answer) → runs at_verb (step system) (put system) n c answers ≡ record { at = d; left = [] } → Serves c → Serves d
  run-serves zero c d answers is s = subst (Serves) (ap (λ (r : Run Config Answer). r.at) is) s
  run-serves (suc n) c d answers is s =
      by (at_verb c) answers is (λ a rest is. run-serves n (put system a c) d rest is (put-serves a c s)) (λ q is. run-serves n (step system c) d q is (step-serves c s))
    where
      by : (b : Bool) (q : List Answer) → one_turn-of n c q b ≡ record { at = d; left = [] }
          → ((a : Answer) (rest : List Answer) → runs at_verb (step system) (put system) n (put system a c) rest ≡ record { at = d; left = [] } → Serves d)
          → ((q : List Answer) → runs at_verb (step system) (put system) n (step system c) q ≡ record { at = d; left = [] } → Serves d) → Serves d
      by true [] is one on = subst (Serves) (ap (λ (r : Run Config Answer). r.at) is) s
      by true (a ∷ rest) is one on = one a rest is
      by false q is one on = on q is

  sound-of : (c : Config) → Serves c → IsSound system c
  sound-of c s = record {
    top = record { known = let is = s.program in omega (arith, is, known); storage = s.frame };
    waiting = subst (λ fs. AreWaiting system fs c.top) (sym s.alone) tt;
    few = let none = ap (length {A = Frame}) s.alone in omega (arith, none);
  }

  serves : (message : List ℕ) (answers : List Answer) (context : Context) → (stands : StandsForFiles system server message answers context) → Serves stands.at
  serves message answers context stands = run-serves stands.comes.0 (starting_server system server message) stands.at answers stands.comes.1 (start-serves message)

pub server-stands : (system : System) (server : ℕ) (message : List ℕ) (answers : List Answer) (context : Context) → IsValid system → server < length system.servers → StandsForFiles system server message answers context → IsSoundContext system context
server-stands system server message answers context valid known stands =
    record { at = stands.at; sound = sound-of system valid server known stands.at (serves system valid server known message answers context stands); is = stands.is }
