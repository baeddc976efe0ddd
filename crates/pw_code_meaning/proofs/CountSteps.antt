-- Steps leave the counts of a context and its file status.
use Rattle.std.proofs.Common.{◌≡◌, ℕ, ◌+◌, ◌-◌, Bool, true, false, List, [], ◌∷◌, ◌++◌, length, Option, Some, None, refl}
use Rattle.std.specs.Prelude.{map, nat_lt, ◌==◌, if◌then◌else◌}
use Rattle.pw_code.proofs.CourseLemmas.{course-holds}
use Rattle.pw_code.specs.declared.context.Context.{Context}
use Rattle.pw_code.specs.declared.context.Frame.{Frame}
use Rattle.pw_code.specs.declared.context.Return.{Return}
use Rattle.pw_code.specs.declared.instr.Instr.{Instr}
use Rattle.pw_code.specs.declared.instr.Instr.TheVariants.{Jump, JumpUnless, ParagraphEnd, Move, Compute, OnSizeError, Perform, PerformTimes, Until, PerformOneOf, Exit, ExitProgram, StopRun, DisplayScreen, Display, Accept, Call, Send, NoCode, Begin, End, Abort, Restart, Receive, Reply, Read, ReadNext, Write, Rewrite, Delete}
use Rattle.pw_code.specs.declared.instr.Turn.{Turn}
use Rattle.pw_code.specs.declared.system.System.{System}
use Rattle.pw_code.specs.Instrs.{program_at}
use Rattle.pw_tree_meaning.specs.Values.{number_of, whole_part}
use Rattle.pw_code_meaning.specs.Calls.{active, called_frame, calls, leaves_by, most_active, most_calls, stops}
use Rattle.pw_code_meaning.specs.Config.{Config, faults, code_statement_counted, is_server, most_counted, on, over, with_taken}
use Rattle.pw_code_meaning.specs.Moves.{operands_of, result_of}
use Rattle.pw_code_meaning.specs.Reading.{Spot, registers_of}
use Rattle.pw_code_meaning.specs.Steps.{act, branch, does, holds_here, instr_of, or_else, read_here, spot_here, spots_here, step, taken_here}
use Rattle.pw_code_meaning.specs.Turns.{at_position, chosen, comes_back, ends_by, most_performs, placed, split_last, tested, turn, turns}

-- the registers that answers alone change
pub record Counts : Type 0 where
  pub units : ℕ
  pub in_unit : Bool
  pub restarts : ℕ
  pub phase : ℕ
  pub attempt : ℕ
  pub shown : ℕ
  pub entries : ℕ
  pub file_status : ℕ

abbrev pub counts_in : Context → Counts
counts_in context = record {
  units = context.units;
  in_unit = context.in_unit;
  restarts = context.restarts;
  phase = context.phase;
  attempt = context.attempt;
  shown = context.shown;
  entries = context.entries;
  file_status = context.file_status;
}

-- they are the same
abbrev Same : Config → Config → Type 0
Same c d = counts_in d.rest ≡ counts_in c.rest

by_test : (c d e : Config) (b : Bool) → Same c d → Same c e → Same c (if b then d else e)
by_test c d e true g h = g
by_test c d e false g h = h

by_taken : {A : Type 0} (o : Option A) (next : A → Config → Config) (c : Config) → ((a : A) → Same c (next a c)) → Same c (with_taken o next c)
by_taken None next c h = refl
by_taken (Some a) next c h = h a

abbrev more : Config → Config
more c = record c { rest = record c.rest { count = c.rest.count + 1 } }

by_count : (f : Config → Config) (c : Config) → Same (more c) (f (more c)) → Same c (code_statement_counted f c)
by_count f c g = by_test c (f (more c)) (faults 201 c) (nat_lt c.rest.count most_counted) g refl

-- ---- turns

abbrev one_turn : ℕ → Turn → ℕ → Config → Config
one_turn resume paragraph left c =
    if nat_lt (length c.top.returns) most_performs
    then placed paragraph.start (c.top.returns ++ (record { resume = resume; until = paragraph.end; turns = left }) ∷ []) c
    else faults 202 c

turn_same : (resume : ℕ) (paragraph : Turn) (left : ℕ) (c : Config) → Same c (turn resume paragraph left c)
turn_same resume paragraph left c =
    by_count (one_turn resume paragraph left) c (by_test (more c) _ _ (nat_lt (length c.top.returns) most_performs) refl refl)

turns_same : (paragraph : Turn) (n : ℕ) (c : Config) → Same c (turns paragraph n c)
turns_same paragraph n c = by_test c _ _ (n == 0) refl (turn_same (c.top.at + 1) paragraph (n - 1) c)

chosen_same : (o : Option Turn) (c : Config) → Same c (chosen o c)
chosen_same None c = refl
chosen_same (Some paragraph) c = turn_same (c.top.at + 1) paragraph 0 c

comes_same : (start : ℕ) (before : List Return) (last : Return) (c : Config) → Same c (comes_back start before last c)
comes_same start before last c =
    by_test c _ _ (last.turns == 0) refl
    (by_count (placed start (before ++ (record last { turns = last.turns - 1 }) ∷ [])) c refl)

ends_same : (start : ℕ) (o : Option (List Return × Return)) (c : Config) → Same c (ends_by start o c)
ends_same start None c = refl
ends_same start (Some found) c = by_test c _ _ (found.1.until == c.top.at) (comes_same start found.0 found.1 c) refl

test_same : (paragraph : Turn) (o : Option Bool) (c : Config) → Same c (tested paragraph o c)
test_same paragraph None c = refl
test_same paragraph (Some true) c = refl
test_same paragraph (Some false) c = turn_same c.top.at paragraph 0 c

-- ---- calls, and where a program is left

stops_same : (system : System) (c : Config) → Same c (stops system c)
stops_same system c = by_test c _ _ (is_server system c) refl (by_test c _ _ c.rest.in_unit refl refl)

leaves_same : (system : System) (o : Option (List Frame × Frame)) (c : Config) → Same c (leaves_by system o c)
leaves_same system None c = stops_same system c
leaves_same system (Some found) c = refl

calls_same : (system : System) (program : ℕ) (keeps : Bool) (places : List Spot) (c : Config) → Same c (calls system program keeps places c)
calls_same system program keeps places c =
    by_test c _ _ (nat_lt (length c.rest.frames) most_calls)
    (by_test c _ _ (nat_lt most_active (active system c + length (program_at system program).storage)) refl refl)
    refl

-- ---- statements

branch_same : (n : ℕ) (b : Bool) (c : Config) → Same c (branch n b c)
branch_same n true c = refl
branch_same n false c = refl

sure_same : (o : Option (List ℕ)) (c : Config) → Same c (or_else o on on c)
sure_same None c = refl
sure_same (Some storage) c = refl

guarded_same : (o : Option (List ℕ)) (n : ℕ) (c : Config) → Same c (or_else o on (over n) c)
guarded_same None n c = refl
guarded_same (Some storage) n c = refl

does_same : (system : System) (i : Instr) (c : Config) → Same c (does system i c)
does_same system (JumpUnless cond n) c = by_taken (holds_here c cond) _ c (λ b. branch_same n b c)
does_same system (Move from to) c = by_taken (taken_here c from) _ c (λ source. by_taken (spots_here c to) _ c (λ targets. refl))
does_same system (Compute a) c = by_taken (operands_of (registers_of c.rest) c.top.storage a) _ c (λ found. sure_same (result_of a.operation found c.top.storage) c)
does_same system (OnSizeError a n) c = by_taken (operands_of (registers_of c.rest) c.top.storage a) _ c (λ found. guarded_same (result_of a.operation found c.top.storage) n c)
does_same system (Perform paragraph) c = turn_same (c.top.at + 1) paragraph 0 c
does_same system (PerformTimes paragraph times) c = by_taken (read_here c times) _ c (λ value. turns_same paragraph (whole_part (number_of value)) c)
does_same system (PerformOneOf paragraphs position) c = by_taken (read_here c position) _ c (λ value. chosen_same (at_position paragraphs (whole_part (number_of value))) c)
does_same system Exit c = refl
does_same system ExitProgram c = leaves_same system (split_last c.rest.frames) c
does_same system StopRun c = stops_same system c
does_same system (DisplayScreen screen base) c = refl
does_same system (Display one) c = by_taken (read_here c one) _ c (λ value. refl)
does_same system (Accept screen keys) c = refl
does_same system (Call program arguments keeps) c = by_taken (spots_here c arguments) _ c (λ places. calls_same system program keeps places c)
does_same system (Send class message codes) c = by_taken (taken_here c message) _ c (λ found. by_taken (spots_here c (map (λ code. code.yields) codes)) _ c (λ items. refl))
does_same system Begin c = by_test c _ _ c.rest.in_unit refl refl
does_same system End c = by_test c _ _ c.rest.in_unit refl refl
does_same system Abort c = by_test c _ _ c.rest.in_unit refl refl
does_same system Restart c = by_test c _ _ c.rest.in_unit refl refl
does_same system (Receive into) c = by_taken (spot_here c into) _ c (λ item. refl)
does_same system (Reply from) c = by_taken (taken_here c from) _ c (λ found. refl)
does_same system (Read file locking key into) c = by_taken (taken_here c key) _ c (λ found. by_taken (spot_here c into) _ c (λ item. refl))
does_same system (ReadNext file locking after into) c = by_taken (taken_here c after) _ c (λ found. by_taken (spot_here c into) _ c (λ item. refl))
does_same system (Write file from) c = by_taken (taken_here c from) _ c (λ found. refl)
does_same system (Rewrite file from) c = by_taken (taken_here c from) _ c (λ found. refl)
does_same system (Delete file key) c = by_taken (taken_here c key) _ c (λ found. refl)
does_same system (Jump n) c = refl
does_same system (ParagraphEnd start) c = refl
does_same system (Until paragraph cond) c = refl
does_same system NoCode c = refl

ticked : (system : System) (i : Instr) (c : Config) → Same c (code_statement_counted (does system i) c)
ticked system i c = by_count (does system i) c (does_same system i (more c))

act_same : (system : System) (o : Option Instr) (c : Config) → Same c (act system o c)
act_same system None c = leaves_same system (split_last c.rest.frames) c
act_same system (Some (Jump n)) c = refl
act_same system (Some (ParagraphEnd start)) c = ends_same start (split_last c.top.returns) c
act_same system (Some (Until paragraph cond)) c = test_same paragraph (holds_here c cond) c
act_same system (Some NoCode) c = refl
act_same system (Some (JumpUnless cond n)) c = ticked system (JumpUnless cond n) c
act_same system (Some (Move from to)) c = ticked system (Move from to) c
act_same system (Some (Compute a)) c = ticked system (Compute a) c
act_same system (Some (OnSizeError a n)) c = ticked system (OnSizeError a n) c
act_same system (Some (Perform paragraph)) c = ticked system (Perform paragraph) c
act_same system (Some (PerformTimes paragraph times)) c = ticked system (PerformTimes paragraph times) c
act_same system (Some (PerformOneOf paragraphs position)) c = ticked system (PerformOneOf paragraphs position) c
act_same system (Some Exit) c = ticked system Exit c
act_same system (Some ExitProgram) c = ticked system ExitProgram c
act_same system (Some StopRun) c = ticked system StopRun c
act_same system (Some (DisplayScreen screen base)) c = ticked system (DisplayScreen screen base) c
act_same system (Some (Display one)) c = ticked system (Display one) c
act_same system (Some (Accept screen keys)) c = ticked system (Accept screen keys) c
act_same system (Some (Call program arguments keeps)) c = ticked system (Call program arguments keeps) c
act_same system (Some (Send class message codes)) c = ticked system (Send class message codes) c
act_same system (Some Begin) c = ticked system Begin c
act_same system (Some End) c = ticked system End c
act_same system (Some Abort) c = ticked system Abort c
act_same system (Some Restart) c = ticked system Restart c
act_same system (Some (Receive into)) c = ticked system (Receive into) c
act_same system (Some (Reply from)) c = ticked system (Reply from) c
act_same system (Some (Read file locking key into)) c = ticked system (Read file locking key into) c
act_same system (Some (ReadNext file locking after into)) c = ticked system (ReadNext file locking after into) c
act_same system (Some (Write file from)) c = ticked system (Write file from) c
act_same system (Some (Rewrite file from)) c = ticked system (Rewrite file from) c
act_same system (Some (Delete file key)) c = ticked system (Delete file key) c

pub step_same : (system : System) (c : Config) → counts_in (step system c).rest ≡ counts_in c.rest
step_same system c = course-holds (Same c) c.rest.course _ _ _ (act_same system (instr_of system c) c) refl (λ code. refl)
