-- The books have a flag for each entry of the log.
use Rattle.std.proofs.Common.{◌≡◌, List, [], ◌∷◌, length, suc, refl, ap}
use Rattle.pw_event.specs.declared.event.Event.{Event}
use Rattle.pw_world_model.specs.OneSends.{one_sends_from}
use Rattle.pw_onecopy.specs.Behaviour.{Behaviour}
use Rattle.pw_paired.specs.State.{State}
use Rattle.pw_paired.specs.Step.{effect}

pub length-flags : (sys : Behaviour) (state : State) (log : List Event) → length (one_sends_from sys state log) ≡ length log
length-flags sys state [] = refl
length-flags sys state (entry ∷ log) = ap suc (length-flags sys (effect sys state entry) log)
