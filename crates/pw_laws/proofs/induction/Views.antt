-- What the state has of one terminal, and the ways in which an entry may change it.
use Rattle.std.proofs.Common.{◌≡◌, ◌≢◌, ℕ, ◌+◌, ◌<◌, ◌≤◌, Bool, true, false, List, [], ◌∷◌, ◌++◌, Option, Some, None, unwrap_or}
use Rattle.pw_code.specs.declared.verb.Verb.{Verb}
use Rattle.pw_code.specs.declared.verb.Verb.TheVariants as verb
use Rattle.pw_event.specs.declared.event.Cause.{Cause}
use Rattle.pw_event.specs.declared.event.Cause.TheVariants as cause
use Rattle.pw_event.specs.declared.event.Ending.{Ending}
use Rattle.pw_onecopy.specs.Attempt.{BeginsUnit}
use Rattle.pw_onecopy.specs.Behaviour.{Behaviour}
use Rattle.pw_onecopy.specs.Path.{PathAnswer, Entry, Failed, Replied, Shown, entries_on, is_outside, unit_number, Dropped, Ended}
use Rattle.pw_paired.specs.Failure.{with_restart, resume_terminal}
use Rattle.pw_paired.specs.Raising.{is_takeover, settled_mode, with_message}
use Rattle.pw_paired.specs.State.{Alone, Copy, Down, End, Gone, LastEnded, BackupCopy, Message, PairMode, OpenUnit, Paired, Raising, Start, State, Term}
use Rattle.pw_paired.specs.Terminal.{HoldsEnd, HoldsStart, unit_with_attempt, begun_path, closing_answer, kept_reply}
use Rattle.pw_paired.specs.Units.{attempt_of, last_after_leaving, restarts_of}
use Rattle.pw_laws.proofs.terms.TermOk.{HasMessages, IsWorking}

-- what the state has of one terminal
pub record View : Type 0 where
  pub last : LastEnded
  pub unit : Option OpenUnit
  pub memory : Option BackupCopy
  pub flight : Option Message
  pub term : Term
  pub mode : PairMode

-- the view of a terminal in a state
abbrev pub view_of : Behaviour → State → ℕ → View
view_of sys s t = record {
  last = s.ended t;
  unit = s.units t;
  memory = s.memory t;
  flight = s.flight t;
  term = s.terms t;
  mode = s.modes (sys.pair_of t);
}

-- the terminal's path
abbrev pub path_in : View → List PathAnswer
path_in v = v.term.path

-- what its program asks next
abbrev pub verb_in : Behaviour → ℕ → View → Verb
verb_in sys t v = sys.ask t (path_in v)

-- the terminal can step
pub record Able (sys : Behaviour) (t : ℕ) (v : View) : Type 0 where
  pub known : t < sys.terminals
  pub going_on : v.term.ending ≡ None
  pub paired : v.mode ≡ Paired
  pub calm : v.term.pending ≡ None

-- a request of the terminal is out
pub record Waits (sys : Behaviour) (t : ℕ) (v : View) : Type 0 where
  pub known : t < sys.terminals
  pub going_on : v.term.ending ≡ None
  pub working : IsWorking v.mode
  pub calm : v.term.pending ≡ None
  pub unit : OpenUnit
  pub is_open : v.unit ≡ Some unit
  pub start : List PathAnswer
  pub runs : unit.running ≡ Some start
  pub class : ℕ
  pub message : List ℕ
  pub asks : verb_in sys t v ≡ verb.Send class message

-- the backup holds the terminal
abbrev pub IsThere : Option BackupCopy → Type 0
IsThere memory = (held : BackupCopy) × (memory ≡ Some held)

-- the path gets an answer
abbrev pub gets : PathAnswer → View → View
gets a v = record v { term = record v.term { path = path_in v ++ a ∷ [] } }

-- the unit of the path's number ends, with this reply kept
abbrev pub unit_over_in : Option (List ℕ) → View → View
unit_over_in reply v = record v { unit = None; last = record { number = unit_number (path_in v); reply = reply } }

-- the terminal has the ending, and nothing is left of it in its pair
abbrev pub over : Ending → Bool → View → View
over e lacks v = record v {
  term = record v.term { pending = None; ending = Some e };
  memory = None;
  flight = None;
  mode = settled_mode v.mode lacks;
}

-- The ways in which an entry may change the view of a started terminal. Each is an entry of the terminal itself or of its
-- pair; `stays` is every other entry.
pub data Moves (sys : Behaviour) (t : ℕ) (v w : View) : Type 0 where
  -- an entry of others
  stays : w ≡ v → Moves sys t v w
  -- the pair may have become up to date
  settles : (lacks : Bool) → (lacks ≡ false → v.term.ending ≡ None → IsThere v.memory) → w ≡ record v { mode = settled_mode v.mode lacks } → Moves sys t v w
  -- SHOW
  shows : Able sys t v → verb_in sys t v ≡ verb.Show → w ≡ gets Shown v → Moves sys t v w
  -- KEY
  enters : Able sys t v → (screen k : ℕ) → verb_in sys t v ≡ verb.Accept screen → k ≡ entries_on (path_in v) + 1 → k ≤ sys.entries t
      → w ≡ gets (Entry k) v → Moves sys t v w
  -- CHECK START
  sends_start : Able sys t v → attempt_of v.unit ≡ None → BeginsUnit (verb_in sys t v) (path_in v) → v.last.number ≢ unit_number (path_in v)
      → (¬ HoldsStart v.memory (unit_number (path_in v)) (path_in v)) → v.flight ≡ None
      → w ≡ record v { flight = Some (Start (unit_number (path_in v)) (path_in v)) } → Moves sys t v w
  -- CHECK END
  sends_end : Able sys t v → (a : PathAnswer) → closing_answer (verb_in sys t v) ≡ Some a → (¬ HoldsEnd v.memory (path_in v ++ a ∷ [])) → v.flight ≡ None
      → w ≡ record v { flight = Some (End (path_in v ++ a ∷ [])) } → Moves sys t v w
  -- CHECK COPY
  sends_copy : v.term.ending ≡ None → v.mode ≡ Raising → v.memory ≡ None → v.flight ≡ None
      → w ≡ record v { flight = Some (Copy (unit_number (unwrap_or (attempt_of v.unit) (path_in v))) (unwrap_or (attempt_of v.unit) (path_in v))) }
      → Moves sys t v w
  -- APPLIED
  applies : (message : Message) → v.flight ≡ Some message → HasMessages v.mode → (lacks : Bool)
      → w ≡ record v { memory = with_message (Some message) v.memory; flight = None; mode = settled_mode v.mode lacks } → Moves sys t v w
  -- BEGIN
  begins : Able sys t v → attempt_of v.unit ≡ None → BeginsUnit (verb_in sys t v) (path_in v) → v.last.number ≢ unit_number (path_in v)
      → HoldsStart v.memory (unit_number (path_in v)) (path_in v) → (birth : ℕ)
      → w ≡ record v {
        unit = Some (unit_with_attempt (unit_number (path_in v)) birth (path_in v) v.unit);
        term = record v.term { path = begun_path (restarts_of v.unit) (verb_in sys t v) (path_in v) };
      } → Moves sys t v w
  -- REPLY OK in a transaction
  is_answered : Waits sys t v → (reply : List ℕ) → is_outside (path_in v) ≡ false → w ≡ gets (Replied reply) v → Moves sys t v w
  -- REPLY OK of a unit that is one SEND
  is_served : Waits sys t v → (reply : List ℕ) → is_outside (path_in v) ≡ true → w ≡ gets (Replied reply) (unit_over_in (Some reply) v) → Moves sys t v w
  -- REPLY FAULT
  is_failed : Waits sys t v → (x : ℕ) → w ≡ gets (Failed x) v → Moves sys t v w
  -- AGAIN
  is_answered_again : Able sys t v → (class : ℕ) (message : List ℕ) → verb_in sys t v ≡ verb.Send class message → is_outside (path_in v) ≡ true
      → unit_number (path_in v) ≡ v.last.number → w ≡ gets (Replied (kept_reply v.last)) v → Moves sys t v w
  -- COMMIT
  commits : Able sys t v → verb_in sys t v ≡ verb.End → HoldsEnd v.memory (path_in v ++ Ended ∷ [])
      → w ≡ gets Ended (unit_over_in None v) → Moves sys t v w
  -- BACK
  drops : Able sys t v → verb_in sys t v ≡ verb.Drop → HoldsEnd v.memory (path_in v ++ Dropped ∷ [])
      → w ≡ gets Dropped (unit_over_in None v) → Moves sys t v w
  -- RESTART
  restarts : (unit : OpenUnit) → v.unit ≡ Some unit → (start : List PathAnswer) → unit.running ≡ Some start → (kind : Cause)
      → unit.restarts < sys.max_restarts t
      → w ≡ record v { unit = with_restart kind (Some unit); term = record v.term { path = start; pending = None } } → Moves sys t v w
  -- FAIL TCP PRIMARY of an up-to-date pair
  goes_down : v.mode ≡ Paired → w ≡ record v { mode = Down; flight = None; term = record v.term { path = []; pending = None } } → Moves sys t v w
  -- FAIL TCP of the last up-to-date member
  is_lost : w ≡ record v { mode = Gone; unit = None; last = last_after_leaving v.unit v.last; memory = None; flight = None; term = record v.term { path = []; pending = None } }
      → Moves sys t v w
  -- FAIL TCP BACKUP
  loses_backup : HasMessages v.mode → w ≡ record v { mode = Alone; memory = None; flight = None } → Moves sys t v w
  -- FAIL SERVER at its request
  loses_server : Waits sys t v → (k : ℕ) → w ≡ record v { term = record v.term { pending = Some (cause.Server k) } } → Moves sys t v w
  -- TAKEOVER
  is_taken_over : (p : ℕ) → v.mode ≡ Down → v.term.ending ≡ None → (held : BackupCopy) → v.memory ≡ Some held
      → w ≡ record v { mode = Alone; memory = None; term = resume_terminal p (Some held) v.unit v.last v.term } → Moves sys t v w
  is_passed_over : v.mode ≡ Down → (e : Ending) → v.term.ending ≡ Some e → w ≡ record v { mode = Alone; memory = None } → Moves sys t v w
  -- RAISE
  is_raised : v.mode ≡ Alone → is_takeover v.term.pending ≡ false → w ≡ record v { mode = Raising; memory = None } → Moves sys t v w
  -- END
  stops : (e : Ending) (lacks : Bool) → v.term.ending ≡ None → attempt_of v.unit ≡ None → w ≡ over e lacks v → Moves sys t v w
  leaves : (e : Ending) (lacks : Bool) → w ≡ over e lacks (record v { unit = None; last = last_after_leaving v.unit v.last }) → Moves sys t v w
