-- States in which no run comes to be, for premises that no run can miss.
use Rattle.std.specs.Prelude.{[], ◌∷◌, Option, Some, None}
use Rattle.pw_event.specs.declared.event.Cause.{Cause}
use Rattle.pw_event.specs.declared.event.Event.TheVariants.{Takeover}
use Rattle.pw_onecopy.specs.Behaviour.{Behaviour}
use Rattle.pw_onecopy.specs.Path.{Entry}
use Rattle.pw_paired.specs.State.{Raising, State}
use Rattle.pw_paired.specs.Step.{effect}
use Rattle.pw_worked_logs.specs.Deck.{deck}
use Rattle.pw_worked_logs.specs.logs.Takeovers.{takeover_restarts_open_unit}
use Rattle.pw_worked_logs.specs.Worked.{state_at}

-- a unit whose TAKEOVER cause is pending, but in a pair that is Raising
abbrev pub raising_before_restart : State
raising_before_restart =
    record (state_at takeover_restarts_open_unit 16) {
      modes = λ p. Raising;
    }

-- a pair that is Down, whose backup holds another unit than the one of which an attempt runs
abbrev pub holding_another_unit : State
holding_another_unit =
    record (state_at takeover_restarts_open_unit 15) {
      memory = λ t. Some (record { unit = 2; start = Entry 1 ∷ []; end = None });
    }

-- what is pending for its terminal behind the takeover
abbrev pub pending_after_takeover : Option Cause
pending_after_takeover =
    let sys : Behaviour = deck takeover_restarts_open_unit.setting in
    ((effect sys holding_another_unit (Takeover 0)).terms 0).pending
