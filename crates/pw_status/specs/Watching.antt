-- What contracts see of a watch.
use Rattle.std.specs.BTreeSet.{BTreeSet}
use Rattle.std.specs.Prelude.{◌≡◌, ◌++◌, ◌∷◌, [], false, length, List, Result, Ok, Err}
use Rattle.pw_code.specs.Limits.{most_log_lines}
use Rattle.pw_code.specs.declared.system.System.{System}
use Rattle.pw_status.specs.Shown.{AreShownOf}
use Rattle.pw_status.specs.Tally.{IsTallyOf, TallyState}
use Rattle.pw_event.specs.declared.event.Event.{Event}
use Rattle.pw_event.specs.declared.script.FailLine.{FailLine}
use Rattle.pw_code_meaning.specs.OfSystem.{behaviour}
use Rattle.pw_report_text.specs.declared.numbers.ListedRefreshNumber.{ListedRefreshNumber}
use Rattle.pw_world.specs.States.{WorldState}
use Rattle.pw_onecopy.specs.Behaviour.{Behaviour}
use Rattle.pw_paired.specs.Shown.{refreshes}
use Rattle.pw_paired.specs.State.{State}
use Rattle.pw_paired.specs.Step.{Legal, after}
use Rattle.pw_tmf.specs.Tmf.{TmfState}
use Rattle.pw_status.specs.declared.watch.WatchFault.{WatchFault}
use Rattle.pw_status.specs.declared.watch.WatchFault.TheVariants as fault

-- the system and its failure lines, and the log that was pushed
pub record WatchState : Type 0 where
  pub system : System
  pub script : List FailLine
  pub log : List Event

-- its behaviour, by its codes
abbrev pub sys_in : WatchState → Behaviour
sys_in watch = behaviour watch.script watch.system

-- the paired state after its log
abbrev pub state_in : WatchState → State
state_in watch = after (sys_in watch) watch.log

-- a push adds a step; an entry that is none, and want of memory, leave all as it was
abbrev pub PushesToWatch : WatchState → Event → Result (Unit {0}) WatchFault → WatchState → Type 0
PushesToWatch watch event (Ok done) new =
    Legal (sys_in watch) (state_in watch) event × (new ≡ record watch { log = watch.log ++ event ∷ [] })
PushesToWatch watch event (Err fault.NotAStep) new = (¬ Legal (sys_in watch) (state_in watch) event) × (new ≡ watch)
PushesToWatch watch event (Err fault.Memory) new = new ≡ watch

-- ---- what its type keeps

-- what is seen of its world
abbrev pub watched : WorldState TmfState → WatchState
watched world = record { system = world.keep.system; script = world.script; log = world.ledger.log }

-- the world may have 500,000 entries and has met no fault, and what is counted is that of its log
pub record IsWatch (world : WorldState TmfState) (tally : TallyState) (numbers : List (BTreeSet ListedRefreshNumber)) : Type 0 where
  pub limit : world.limit ≡ most_log_lines
  pub sound : world.failed ≡ false
  pub counted : IsTallyOf world.keep.system (sys_in (watched world)) world.ledger.log tally
  pub count : length numbers ≡ length world.keep.system.terminals
  pub shown : AreShownOf (refreshes (sys_in (watched world)) world.ledger.log) numbers
