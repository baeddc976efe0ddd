-- The serial order of a log: what each entry reads as.
use Rattle.std.specs.Prelude.{ℕ, zero, suc, ◌+◌, ◌&&◌, Bool, true, false, not, List, [], ◌∷◌, ◌++◌, length, max, nat_lt, Option, Some, None, is_none, if◌then◌else◌}
use Rattle.pw_code.specs.declared.verb.Verb.{Verb}
use Rattle.pw_code.specs.declared.verb.Verb.TheVariants as verb
use Rattle.pw_event.specs.declared.event.Event.{Event}
use Rattle.pw_event.specs.declared.event.Event.TheVariants.{Show, Key, Begin, Reply, Again, Commit, Back, Restart, FailTcp, End}
use Rattle.pw_onecopy.specs.Behaviour.{Behaviour}
use Rattle.pw_onecopy.specs.Blocks.{Aborted, Attempted, SerialBlock, Committed, Done, Left, Out, Restarted}
use Rattle.pw_onecopy.specs.Path.{is_outside, unit_number}
use Rattle.pw_onecopy.specs.Update.{upd}
use Rattle.pw_paired.specs.Failure.{is_of_pair}
use Rattle.pw_paired.specs.State.{PairMode, Gone, OpenUnit, State, starting}
use Rattle.pw_paired.specs.Step.{effect}
use Rattle.pw_paired.specs.Terminal.{next_verb, path_of}
use Rattle.pw_paired.specs.Units.{attempt_of}

-- What the reading of a log keeps of each terminal: the length of the longest path that it had
-- while no attempt of it was running, and how many answers entries have put on its path since the
-- BEGIN entry of its attempt, that entry included (it is read while an attempt runs, and at its
-- end).
pub record Reading : Type 0 where
  pub longest : ℕ → ℕ
  pub answers : ℕ → ℕ

-- before the first entry
abbrev pub reading_starts : Reading
reading_starts = record { longest = λ t. 0; answers = λ t. 0 }

-- how many answers the BEGIN entry of a unit puts on the path: Begun(r) for Begin, none for Send
abbrev pub answers_at_begin : Verb → ℕ
answers_at_begin verb.Begin = 1
answers_at_begin _ = 0

-- one answer more on a path
abbrev pub one_answer_more : ℕ → (ℕ → ℕ) → ℕ → ℕ
one_answer_more t answers = upd answers t (answers t + 1)

-- the answers behind an entry
abbrev pub answers_behind : Behaviour → State → Event → (ℕ → ℕ) → ℕ → ℕ
answers_behind sys state (Begin t n r) answers =
    upd answers t (answers_at_begin (next_verb sys state t))
answers_behind sys state (Show t phase attempt k) answers = one_answer_more t answers
answers_behind sys state (Key t k) answers = one_answer_more t answers
answers_behind sys state (Reply c i t fault) answers = one_answer_more t answers
answers_behind sys state (Again t n) answers = one_answer_more t answers
answers_behind sys state (Commit t n) answers = one_answer_more t answers
answers_behind sys state (Back t n) answers = one_answer_more t answers
answers_behind sys state _ answers = answers

-- no attempt of the terminal runs
abbrev pub is_idle : State → ℕ → Bool
is_idle state t = is_none (attempt_of (state.units t))

-- the longest paths in a state, with those before it
abbrev pub longest_with : State → (ℕ → ℕ) → ℕ → ℕ
longest_with state longest t =
    if is_idle state t then max (longest t) (length (path_of state t)) else longest t

-- the reading behind an entry
abbrev pub read_on : Behaviour → State → Event → Reading → Reading
read_on sys state entry reading = record {
  longest = longest_with (effect sys state entry) reading.longest;
  answers = answers_behind sys state entry reading.answers;
}

-- a SHOW or KEY outside a unit reads as Out where its path is longer than every path that the
-- terminal had before while no attempt of it was running
abbrev pub out_block : State → Reading → ℕ → List SerialBlock
out_block state reading t =
    if is_idle state t && nat_lt (reading.longest t) (length (path_of state t) + 1)
    then Out t ∷ []
    else []

-- an attempt that runs is left
abbrev pub left_block : ℕ → ℕ → Option OpenUnit → List SerialBlock
left_block t j None = []
left_block t j (Some unit) =
    if is_none unit.running then [] else Attempted t unit.number Left j ∷ []

-- the running attempts of some terminals below n are left, in the order of terminals
abbrev pub left_blocks : State → Reading → (ℕ → Bool) → ℕ → List SerialBlock
left_blocks state reading whose zero = []
left_blocks state reading whose (suc t) =
    left_blocks state reading whose t
    ++ (if whose t then left_block t (reading.answers t) (state.units t) else [])

-- a mode is Gone
abbrev pub is_gone : PairMode → Bool
is_gone Gone = true
is_gone _ = false

-- the entry makes the pair Gone
abbrev pub makes_gone : Behaviour → State → Event → ℕ → Bool
makes_gone sys state entry p =
    is_gone ((effect sys state entry).modes p) && not (is_gone (state.modes p))

-- the REPLY OK of a unit that is one SEND commits it
abbrev pub reply_commits : State → ℕ → Option ℕ → ℕ → List SerialBlock
reply_commits state t None j =
    if is_outside (path_of state t)
    then Attempted t (unit_number (path_of state t)) Committed j ∷ []
    else []
reply_commits state t (Some x) j = []

-- what an entry reads as, from the state before it; the reading is the one before it too
abbrev pub blocks_of : Behaviour → State → Reading → Event → List SerialBlock
blocks_of sys state reading (Show t phase attempt k) = out_block state reading t
blocks_of sys state reading (Key t k) = out_block state reading t
blocks_of sys state reading (Commit t n) = Attempted t n Committed (reading.answers t + 1) ∷ []
blocks_of sys state reading (Reply c i t fault) =
    reply_commits state t fault (reading.answers t + 1)
blocks_of sys state reading (Back t n) = Attempted t n Aborted (reading.answers t + 1) ∷ []
blocks_of sys state reading (Restart t n cause) = Attempted t n Restarted (reading.answers t) ∷ []
blocks_of sys state reading (FailTcp p primary k) =
    if makes_gone sys state (FailTcp p primary k) p
    then left_blocks state reading (is_of_pair sys p) sys.terminals
    else []
blocks_of sys state reading (End t ending) =
    left_block t (reading.answers t) (state.units t) ++ Done t ending ∷ []
blocks_of sys state reading _ = []

-- the blocks that the entries of a log give, from a state on
abbrev pub entry_blocks_from : Behaviour → State → Reading → List Event → List SerialBlock
entry_blocks_from sys state reading [] = []
entry_blocks_from sys state reading (entry ∷ log) =
    blocks_of sys state reading entry
    ++ entry_blocks_from sys (effect sys state entry) (read_on sys state entry reading) log

-- at the end of a log each attempt that still runs is left, in the order of terminals (none runs
-- behind a finished one)
abbrev pub last_blocks_from : Behaviour → State → Reading → List Event → List SerialBlock
last_blocks_from sys state reading [] = left_blocks state reading (λ t. true) sys.terminals
last_blocks_from sys state reading (entry ∷ log) =
    last_blocks_from sys (effect sys state entry) (read_on sys state entry reading) log

-- the serial order of a log
abbrev pub blocks : Behaviour → List Event → List SerialBlock
blocks sys log =
    entry_blocks_from sys (starting sys) reading_starts log
    ++ last_blocks_from sys (starting sys) reading_starts log
