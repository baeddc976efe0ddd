-- What leaves the program at work, how long its storage is, and the programs that wait.
use Rattle.std.proofs.Common.{◌≡◌, ℕ, ◌+◌, ◌-◌, ◌≤◌, Bool, true, false, List, [], ◌∷◌, ◌++◌, length, Option, Some, None, refl, ap}
use Rattle.std.specs.Prelude.{IsTrue, map, nat_lt, ◌==◌, if◌then◌else◌}
use Rattle.pw_code.specs.Instrs.{HasRanges, is_for}
use Rattle.pw_code.specs.Places.{IsPlace}
use Rattle.pw_code.specs.declared.code.Code.{Code}
use Rattle.pw_code.specs.declared.context.Return.{Return}
use Rattle.pw_code.specs.declared.instr.Arithmetic.{Arithmetic}
use Rattle.pw_code.specs.declared.instr.Instr.{Instr}
use Rattle.pw_code.specs.declared.instr.Instr.TheVariants.{Jump, JumpUnless, ParagraphEnd, Move, Compute, OnSizeError, Perform, PerformTimes, Until, PerformOneOf, Exit, ExitProgram, StopRun, DisplayScreen, Display, Accept, Call, Send, NoCode, Begin, End, Abort, Restart, Receive, Reply, Read, ReadNext, Write, Rewrite, Delete}
use Rattle.pw_code.specs.declared.instr.Turn.{Turn}
use Rattle.pw_code.specs.declared.system.System.{System}
use Rattle.pw_tree_meaning.specs.Values.{Value, number_of, whole_part}
use Rattle.pw_code_meaning.specs.Calls.{stops}
use Rattle.pw_code_meaning.specs.Config.{Config, code_statement_counted, faults, is_server, most_counted, on, over, with_storage, with_taken}
use Rattle.pw_code_meaning.specs.Moves.{Operands, operands_of, operands_with, result_of}
use Rattle.pw_code_meaning.specs.Reading.{Spot, read, registers_of, spot_of}
use Rattle.pw_code_meaning.specs.Steps.{branch, does, holds_here, or_else, read_here, spots_here, taken_here}
use Rattle.pw_code_meaning.specs.Turns.{at_position, chosen, comes_back, ends_by, most_performs, placed, tested, turn, turns}
use Rattle.pw_code_meaning.proofs.Written.{computed-size, moves-size, spot-is, spots-are}

pub record Plain (c d : Config) : Type 0 where
  pub program : d.top.program ≡ c.top.program
  pub size : length d.top.storage ≡ length c.top.storage
  pub frames : d.rest.frames ≡ c.rest.frames

pub same : (c d : Config) → d.top.program ≡ c.top.program → d.top.storage ≡ c.top.storage → d.rest.frames ≡ c.rest.frames → Plain c d
same c d program storage frames = record { program = program; size = ap (length {A = ℕ}) storage; frames = frames }

pub by_test : (c d e : Config) (b : Bool) → Plain c d → Plain c e → Plain c (if b then d else e)
by_test c d e true g h = g
by_test c d e false g h = h

by_taken : {A : Type 0} (o : Option A) (next : A → Config → Config) (c : Config) → ((a : A) → o ≡ Some a → Plain c (next a c)) → Plain c (with_taken o next c)
by_taken None next c h = same c _ refl refl refl
by_taken (Some a) next c h = h a refl

abbrev pub more : Config → Config
more c = record c { rest = record c.rest { count = c.rest.count + 1 } }

by_count : (f : Config → Config) (c : Config) → Plain (more c) (f (more c)) → Plain c (code_statement_counted f c)
by_count f c g = by_test c (f (more c)) (faults 201 c) (nat_lt c.rest.count most_counted) (record { program = g.program; size = g.size; frames = g.frames }) (same c _ refl refl refl)

abbrev one_turn : ℕ → Turn → ℕ → Config → Config
one_turn resume paragraph left c =
    if nat_lt (length c.top.returns) most_performs
    then placed paragraph.start (c.top.returns ++ (record { resume = resume; until = paragraph.end; turns = left }) ∷ []) c
    else faults 202 c

turn_plain : (resume : ℕ) (paragraph : Turn) (left : ℕ) (c : Config) → Plain c (turn resume paragraph left c)
turn_plain resume paragraph left c =
    by_count (one_turn resume paragraph left) c (by_test (more c) _ _ (nat_lt (length c.top.returns) most_performs) (same (more c) _ refl refl refl) (same (more c) _ refl refl refl))

turns_plain : (paragraph : Turn) (n : ℕ) (c : Config) → Plain c (turns paragraph n c)
turns_plain paragraph n c = by_test c _ _ (n == 0) (same c _ refl refl refl) (turn_plain (c.top.at + 1) paragraph (n - 1) c)

chosen_plain : (o : Option Turn) (c : Config) → Plain c (chosen o c)
chosen_plain None c = same c _ refl refl refl
chosen_plain (Some paragraph) c = turn_plain (c.top.at + 1) paragraph 0 c

comes_plain : (start : ℕ) (before : List Return) (last : Return) (c : Config) → Plain c (comes_back start before last c)
comes_plain start before last c =
    by_test c _ _ (last.turns == 0) (same c _ refl refl refl)
    (by_count (placed start (before ++ (record last { turns = last.turns - 1 }) ∷ [])) c (same (more c) _ refl refl refl))

pub ends_plain : (start : ℕ) (o : Option (List Return × Return)) (c : Config) → Plain c (ends_by start o c)
ends_plain start None c = same c _ refl refl refl
ends_plain start (Some found) c = by_test c _ _ (found.1.until == c.top.at) (comes_plain start found.0 found.1 c) (same c _ refl refl refl)

pub test_plain : (paragraph : Turn) (o : Option Bool) (c : Config) → Plain c (tested paragraph o c)
test_plain paragraph None c = same c _ refl refl refl
test_plain paragraph (Some true) c = same c _ refl refl refl
test_plain paragraph (Some false) c = turn_plain c.top.at paragraph 0 c

pub stops_plain : (system : System) (c : Config) → Plain c (stops system c)
stops_plain system c = by_test c _ _ (is_server system c) (same c _ refl refl refl) (by_test c _ _ c.rest.in_unit (same c _ refl refl refl) (same c _ refl refl refl))

branch_plain : (n : ℕ) (b : Bool) (c : Config) → Plain c (branch n b c)
branch_plain n true c = same c _ refl refl refl
branch_plain n false c = same c _ refl refl refl

-- a storage of the same size
stored_plain : (c : Config) (storage : List ℕ) → length storage ≡ length c.top.storage → Plain c (with_storage storage c)
stored_plain c storage size = record { program = refl; size = size; frames = refl }

result_plain : (c : Config) (o : Option (List ℕ)) (n : ℕ) → ((storage : List ℕ) → o ≡ Some storage → length storage ≡ length c.top.storage) → Plain c (or_else o on (over n) c)
result_plain c None n size = same c _ refl refl refl
result_plain c (Some storage) n size = record { program = refl; size = size storage refl; frames = refl }

sure_plain : (c : Config) (o : Option (List ℕ)) → ((storage : List ℕ) → o ≡ Some storage → length storage ≡ length c.top.storage) → Plain c (or_else o on on c)
sure_plain c None size = same c _ refl refl refl
sure_plain c (Some storage) size = record { program = refl; size = size storage refl; frames = refl }

receiver-of : (first second : Option Value) (receiver : Option Spot) (found : Operands) → operands_with first second receiver ≡ Some found → receiver ≡ Some found.receiver
receiver-of (Some first) (Some second) (Some receiver) found e = cc e
receiver-of (Some first) (Some second) None found e = absurd (cc e)
receiver-of (Some first) None receiver found e = absurd (cc e)
receiver-of None second receiver found e = absurd (cc e)

-- the statements of a terminal's program, but CALL and EXIT PROGRAM
abbrev pub is_inner : Instr → Bool
is_inner (Call program arguments keeps) = false
is_inner ExitProgram = false
is_inner _ = true

module _ (system : System) (code : Code) (behind : ℕ) (c : Config) (le : length code.storage ≤ length c.top.storage) where
  arithmetic : (a : Arithmetic) (found : Operands) → IsPlace (length code.storage) a.receiver → operands_of (registers_of c.rest) c.top.storage a ≡ Some found → (storage : List ℕ)
      → result_of a.operation found c.top.storage ≡ Some storage → length storage ≡ length c.top.storage
  arithmetic a found is e storage out =
      let spot = spot-is (registers_of c.rest) c.top.storage (length code.storage) a.receiver is found.receiver
      (receiver-of (read (registers_of c.rest) c.top.storage a.first) (read (registers_of c.rest) c.top.storage a.second) (spot_of (registers_of c.rest) c.top.storage a.receiver) found e) in
      computed-size (length code.storage) a.operation found.first found.second found.receiver c.top.storage storage spot.sits le out

  pub does_plain : (i : Instr) → HasRanges system code behind i → IsTrue (is_for false i) → is_inner i ≡ true → Plain c (does system i c)
  does_plain (JumpUnless cond n) is for inner = by_taken (holds_here c cond) _ c (λ b e. branch_plain n b c)
  does_plain (Move from to) is for inner =
      by_taken (taken_here c from) _ c (λ source e. by_taken (spots_here c to) _ c (λ targets found.
      record {
        program = refl;
        size = moves-size (length code.storage) to targets source c.top.storage (spots-are (registers_of c.rest) c.top.storage (length code.storage) to targets is.1 found) le;
        frames = refl;
      }))
  does_plain (Compute a) is for inner = by_taken (operands_of (registers_of c.rest) c.top.storage a) _ c (λ found e. sure_plain c (result_of a.operation found c.top.storage) (arithmetic a found is.receiver e))
  does_plain (OnSizeError a n) is for inner = by_taken (operands_of (registers_of c.rest) c.top.storage a) _ c (λ found e. result_plain c (result_of a.operation found c.top.storage) n (arithmetic a found is.0.receiver e))
  does_plain (Perform paragraph) is for inner = turn_plain (c.top.at + 1) paragraph 0 c
  does_plain (PerformTimes paragraph times) is for inner = by_taken (read_here c times) _ c (λ value e. turns_plain paragraph (whole_part (number_of value)) c)
  does_plain (PerformOneOf paragraphs position) is for inner = by_taken (read_here c position) _ c (λ value e. chosen_plain (at_position paragraphs (whole_part (number_of value))) c)
  does_plain Exit is for inner = same c _ refl refl refl
  does_plain ExitProgram is for inner = absurd (cc inner)
  does_plain StopRun is for inner = stops_plain system c
  does_plain (DisplayScreen screen base) is for inner = same c _ refl refl refl
  does_plain (Display one) is for inner = by_taken (read_here c one) _ c (λ value e. same c _ refl refl refl)
  does_plain (Accept screen keys) is for inner = same c _ refl refl refl
  does_plain (Call program arguments keeps) is for inner = absurd (cc inner)
  does_plain (Send class message codes) is for inner =
      by_taken (taken_here c message) _ c (λ found e. by_taken (spots_here c (map (λ code. code.yields) codes)) _ c (λ items e. same c _ refl refl refl))
  does_plain Begin is for inner = by_test c _ _ c.rest.in_unit (same c _ refl refl refl) (same c _ refl refl refl)
  does_plain End is for inner = by_test c _ _ c.rest.in_unit (same c _ refl refl refl) (same c _ refl refl refl)
  does_plain Abort is for inner = by_test c _ _ c.rest.in_unit (same c _ refl refl refl) (same c _ refl refl refl)
  does_plain Restart is for inner = by_test c _ _ c.rest.in_unit (same c _ refl refl refl) (same c _ refl refl refl)
  does_plain (Receive into) is for inner = absurd (cc for)
  does_plain (Reply from) is for inner = absurd (cc for)
  does_plain (Read file locking key into) is for inner = absurd (cc for)
  does_plain (ReadNext file locking after into) is for inner = absurd (cc for)
  does_plain (Write file from) is for inner = absurd (cc for)
  does_plain (Rewrite file from) is for inner = absurd (cc for)
  does_plain (Delete file key) is for inner = absurd (cc for)
  does_plain (Jump n) is for inner = same c _ refl refl refl
  does_plain (ParagraphEnd start) is for inner = same c _ refl refl refl
  does_plain (Until paragraph cond) is for inner = same c _ refl refl refl
  does_plain NoCode is for inner = same c _ refl refl refl
