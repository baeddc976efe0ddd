-- Whether a block is legal in the one-copy machine, and it is defined on a list of blocks, as tests
-- that compute.
use Rattle.std.specs.Prelude.{ℕ, zero, suc, ◌==◌, ◌&&◌, nat_lt, Bool, true, false, not, List, [], ◌∷◌, Option, Some, is_none}
use Rattle.pw_code.specs.declared.verb.Verb.{Verb}
use Rattle.pw_code.specs.declared.verb.Verb.TheVariants as verb
use Rattle.pw_event.specs.declared.event.Ending.{Ending}
use Rattle.pw_event.specs.declared.event.Ending.TheVariants as ending
use Rattle.pw_onecopy.specs.Attempt.{Attempt, attempt}
use Rattle.pw_onecopy.specs.OneCopy.{Machine, Single, beginning, next_attempt, run_block}
use Rattle.pw_onecopy.specs.Path.{PathAnswer, Replied, Dropped, Ended, entries_on, unit_number}
use Rattle.pw_onecopy.specs.Blocks.{SerialBlock, Out, Attempted, Done, AttemptEnding, Committed, Aborted, Restarted, Left}
use Rattle.pw_onecopy.specs.Behaviour.{Behaviour}
use Rattle.pw_laws.specs.legal.Values.{is_same_answer, some_with}
use Rattle.pw_laws.specs.legal.Verbs.{asks_accept, asks_fault, asks_stop, begins_unit}

-- the verb takes an answer; an Accept needs an entry line
abbrev pub takes_answer : Behaviour → ℕ → List PathAnswer → Verb → Bool
takes_answer sys t path verb.Begin = true
takes_answer sys t path verb.Show = true
takes_answer sys t path (verb.Accept screen) = nat_lt (entries_on path) (sys.entries t)
takes_answer sys t path (verb.Send class message) = true
takes_answer sys t path verb.End = true
takes_answer sys t path verb.Drop = true
takes_answer sys t path _ = false

-- one more verb may be answered
abbrev pub goes_on : Behaviour → ℕ → List PathAnswer → Attempt → Bool
goes_on sys t q at =
    takes_answer sys t at.path (sys.ask t at.path) && unit_number at.path == unit_number q

-- the attempt is defined for j answers
abbrev pub is_attempt : Behaviour → ℕ → List PathAnswer → (ℕ → List (List ℕ)) → ℕ → ℕ → Bool
is_attempt sys t q files r zero = begins_unit (sys.ask t q) q
is_attempt sys t q files r (suc j) =
    is_attempt sys t q files r j && goes_on sys t q (attempt sys t q files r j)

-- the terminal is started, and has no ending
abbrev pub is_going_on : Behaviour → Machine → ℕ → Bool
is_going_on sys machine t = nat_lt t sys.terminals && is_none (machine.terms t).ending

-- the next verb is Show, or Accept with an entry line left
abbrev pub asks_out : Behaviour → ℕ → List PathAnswer → Verb → Bool
asks_out sys t path verb.Show = true
asks_out sys t path (verb.Accept screen) = nat_lt (entries_on path) (sys.entries t)
asks_out sys t path _ = false

-- the attempt's last answer is Ended, or Replied for one SEND
abbrev pub ends_committed : Verb → Option PathAnswer → Bool
ends_committed asked (Some Ended) = true
ends_committed (verb.Send class message) (Some (Replied reply)) = true
ends_committed _ _ = false

-- how an attempt may be over
abbrev pub may_be : Behaviour → ℕ → Single → Attempt → AttemptEnding → Bool
may_be sys t single at Committed = ends_committed (sys.ask t single.path) at.last
may_be sys t single at Aborted = some_with (λ last. is_same_answer last Dropped) at.last
may_be sys t single at Restarted = nat_lt single.restarts (sys.max_restarts t)
may_be sys t single at Left = true

-- where an ending may come
abbrev pub may_end : Behaviour → ℕ → Single → Ending → Verb → Bool
may_end sys t single ending.Stopped asked = asks_stop asked
may_end sys t single ending.NoEntries asked =
    asks_accept asked && entries_on single.path == sys.entries t
may_end sys t single (ending.Fault x) asked = asks_fault x asked
may_end sys t single (ending.Suspended cause) asked = single.restarts == sys.max_restarts t
may_end sys t single ending.Lost asked = true

-- the block is legal in the machine
unfoldable pub is_legal_block : Behaviour → Machine → SerialBlock → Bool
is_legal_block sys machine (Out t) =
    is_going_on sys machine t && (not (machine.terms t).is_left
    && asks_out sys t (machine.terms t).path (sys.ask t (machine.terms t).path))
is_legal_block sys machine (Attempted t n how j) =
    is_going_on sys machine t && (not (machine.terms t).is_left
    && (n == unit_number (machine.terms t).path
    && (is_attempt sys t (machine.terms t).path machine.files (machine.terms t).restarts j
    && may_be sys t (machine.terms t) (next_attempt sys machine t j) how)))
is_legal_block sys machine (Done t ending) =
    is_going_on sys machine t
    && may_end sys t (machine.terms t) ending (sys.ask t (machine.terms t).path)

-- each block is legal in the machine behind those before it
abbrev pub is_serial_from : Behaviour → Machine → List SerialBlock → Bool
is_serial_from sys machine [] = true
is_serial_from sys machine (block ∷ rest) =
    is_legal_block sys machine block && is_serial_from sys (run_block sys machine block) rest

-- the one-copy machine is defined on the list of blocks
abbrev pub is_serial : Behaviour → List SerialBlock → Bool
is_serial sys order = is_serial_from sys (beginning sys) order
