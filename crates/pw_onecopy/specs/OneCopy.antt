-- The one-copy machine: it runs one block at a time, without pairs, checkpoints, processes, locks
-- and requests.
use Rattle.std.specs.Prelude.{◌≡◌, ℕ, ◌+◌, ◌<◌, Bool, true, false, List, [], ◌∷◌, ◌++◌, Option, Some, None}
use Rattle.pw_code.specs.declared.verb.Verb.{Verb}
use Rattle.pw_code.specs.declared.verb.Verb.TheVariants as verb
use Rattle.pw_event.specs.declared.event.Ending.{Ending}
use Rattle.pw_event.specs.declared.event.Ending.TheVariants as ending
use Rattle.pw_onecopy.specs.Attempt.{Attempt, IsAttempt, attempt}
use Rattle.pw_onecopy.specs.Behaviour.{Behaviour}
use Rattle.pw_onecopy.specs.Blocks.{SerialBlock, Out, Attempted, Done, AttemptEnding, Committed, Aborted, Restarted, Left}
use Rattle.pw_onecopy.specs.Path.{PathAnswer, Shown, Entry, Replied, unit_number, entries_on, Dropped, Ended}
use Rattle.pw_onecopy.specs.Refreshes.{next_refresh}
use Rattle.pw_onecopy.specs.Update.{upd}
use Rattle.pw_onecopy.specs.declared.refresh.Refresh.{Refresh}

-- a terminal of the machine: its path, its r, its refreshes, whether its unit was left, and its
-- ending
pub record Single : Type 0 where
  pub path : List PathAnswer
  pub restarts : ℕ
  pub refreshes : List Refresh
  pub is_left : Bool
  pub ending : Option Ending

-- the one-copy machine
pub record Machine : Type 0 where
  pub files : ℕ → List (List ℕ)
  pub terms : ℕ → Single

-- the deck's files, empty paths and r = 0
abbrev pub beginning : Behaviour → Machine
beginning sys = record {
  files = sys.records;
  terms = λ t. record { path = []; restarts = 0; refreshes = []; is_left = false; ending = None };
}

-- the next attempt of a terminal's unit, with j answers, on the machine's files
abbrev pub next_attempt : Behaviour → Machine → ℕ → ℕ → Attempt
next_attempt sys machine t j =
    attempt sys t (machine.terms t).path machine.files (machine.terms t).restarts j

-- the terminal is started, and has no ending
pub record IsGoingOn (sys : Behaviour) (machine : Machine) (t : ℕ) : Type 0 where
  pub known : t < sys.terminals
  pub live : (machine.terms t).ending ≡ None

-- the next verb is Show, or Accept with an entry line left
abbrev pub AsksOut : Behaviour → ℕ → List PathAnswer → Verb → Type 0
AsksOut sys t path verb.Show = Unit {0}
AsksOut sys t path (verb.Accept screen) = entries_on path < sys.entries t
AsksOut sys t path _ = ⊥

-- Out(t)
pub record LegalOut (sys : Behaviour) (machine : Machine) (t : ℕ) : Type 0 where
  pub live : IsGoingOn sys machine t
  pub not_left : (machine.terms t).is_left ≡ false
  pub asks : AsksOut sys t (machine.terms t).path (sys.ask t (machine.terms t).path)

-- the attempt's last answer is Ended, or Replied for one SEND
abbrev pub EndsCommitted : Verb → Option PathAnswer → Type 0
EndsCommitted asked (Some Ended) = Unit {0}
EndsCommitted (verb.Send class message) (Some (Replied reply)) = Unit {0}
EndsCommitted _ _ = ⊥

-- how an attempt may be over: Committed by its last answer; Aborted where that is Dropped;
-- Restarted where r is below MAXTMFRESTARTS; Left always
abbrev pub MayBe : Behaviour → ℕ → Single → Attempt → AttemptEnding → Type 0
MayBe sys t single at Committed = EndsCommitted (sys.ask t single.path) at.last
MayBe sys t single at Aborted = at.last ≡ Some Dropped
MayBe sys t single at Restarted = single.restarts < sys.max_restarts t
MayBe sys t single at Left = Unit {0}

-- Attempted(t, n, how) with j: n is the path's ended units plus 1, and the attempt is defined
pub record LegalAttempted (sys : Behaviour) (machine : Machine) (t n : ℕ) (how : AttemptEnding)
    (j : ℕ) : Type 0 where
  pub live : IsGoingOn sys machine t
  pub not_left : (machine.terms t).is_left ≡ false
  pub number : n ≡ unit_number (machine.terms t).path
  pub is_attempt : IsAttempt sys t (machine.terms t).path machine.files (machine.terms t).restarts j
  pub may_be : MayBe sys t (machine.terms t) (next_attempt sys machine t j) how

-- where an ending may come: Stopped and Fault(x) at their verbs, NoEntries at Accept with every
-- line on the path, Suspended where r is MAXTMFRESTARTS, Lost always
abbrev pub MayEnd : Behaviour → ℕ → Single → Ending → Verb → Type 0
MayEnd sys t single ending.Stopped asked = asked ≡ verb.Stop
MayEnd sys t single ending.NoEntries asked =
    (screen : ℕ) × (asked ≡ verb.Accept screen) × (entries_on single.path ≡ sys.entries t)
MayEnd sys t single (ending.Fault x) asked = asked ≡ verb.Fault x
MayEnd sys t single (ending.Suspended cause) asked = single.restarts ≡ sys.max_restarts t
MayEnd sys t single ending.Lost asked = Unit {0}

-- Done(t, ending)
pub record LegalDone (sys : Behaviour) (machine : Machine) (t : ℕ) (ending : Ending) : Type 0 where
  pub live : IsGoingOn sys machine t
  pub may_end : MayEnd sys t (machine.terms t) ending (sys.ask t (machine.terms t).path)

-- where a block is legal
abbrev pub LegalBlock : Behaviour → Machine → SerialBlock → Type 0
LegalBlock sys machine (Out t) = LegalOut sys machine t
LegalBlock sys machine (Attempted t n how j) = LegalAttempted sys machine t n how j
LegalBlock sys machine (Done t ending) = LegalDone sys machine t ending

-- a terminal behind Out: the path gets its answer, and a Show adds a refresh
abbrev pub single_behind_out : Behaviour → ℕ → Verb → Single → Single
single_behind_out sys t verb.Show single = record single {
  path = single.path ++ Shown ∷ [];
  refreshes = single.refreshes ++ next_refresh sys t single.path ∷ [];
}
single_behind_out sys t (verb.Accept screen) single =
    record single { path = single.path ++ Entry (entries_on single.path + 1) ∷ [] }
single_behind_out sys t _ single = single

-- A terminal behind an attempt: its refreshes are added. Committed and Aborted take its path, and r
-- is 0; Restarted takes nothing, and r grows by 1; Left takes its path, and only Done may follow.
abbrev pub single_behind : AttemptEnding → Attempt → Single → Single
single_behind Committed at single =
    record single { path = at.path; restarts = 0; refreshes = single.refreshes ++ at.refreshes }
single_behind Aborted at single =
    record single { path = at.path; restarts = 0; refreshes = single.refreshes ++ at.refreshes }
single_behind Restarted at single =
    record single { restarts = single.restarts + 1; refreshes = single.refreshes ++ at.refreshes }
single_behind Left at single =
    record single { path = at.path; refreshes = single.refreshes ++ at.refreshes; is_left = true }

-- the files behind an attempt: Committed takes the attempt's, and otherwise they stay
abbrev pub files_behind : AttemptEnding → Attempt → (ℕ → List (List ℕ)) → ℕ → List (List ℕ)
files_behind Committed at files = at.files
files_behind Aborted at files = files
files_behind Restarted at files = files
files_behind Left at files = files

-- the machine with a terminal changed
abbrev pub with_term : ℕ → Single → Machine → Machine
with_term t single machine = record machine { terms = upd machine.terms t single }

-- the machine behind a block
abbrev pub run_block : Behaviour → Machine → SerialBlock → Machine
run_block sys machine (Out t) =
    let single : Single = machine.terms t in
    with_term t (single_behind_out sys t (sys.ask t single.path) single) machine
run_block sys machine (Attempted t n how j) =
    let at : Attempt = next_attempt sys machine t j in
    record (with_term t (single_behind how at (machine.terms t)) machine) {
      files = files_behind how at machine.files;
    }
run_block sys machine (Done t ending) =
    with_term t (record (machine.terms t) { ending = Some ending }) machine

-- each block is legal in the machine before it
abbrev pub IsSerialFrom : Behaviour → Machine → List SerialBlock → Type 0
IsSerialFrom sys machine [] = Unit {0}
IsSerialFrom sys machine (block ∷ rest) =
    LegalBlock sys machine block × IsSerialFrom sys (run_block sys machine block) rest

-- the machine behind a list of blocks
abbrev pub run_blocks : Behaviour → Machine → List SerialBlock → Machine
run_blocks sys machine [] = machine
run_blocks sys machine (block ∷ rest) = run_blocks sys (run_block sys machine block) rest

-- the one-copy machine is defined on a list of blocks
abbrev pub IsSerial : Behaviour → List SerialBlock → Type 0
IsSerial sys order = IsSerialFrom sys (beginning sys) order

-- the one-copy machine behind a list of blocks
abbrev pub one_copy : Behaviour → List SerialBlock → Machine
one_copy sys order = run_blocks sys (beginning sys) order
