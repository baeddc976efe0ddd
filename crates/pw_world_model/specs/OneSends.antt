-- Which entries of a log begin a unit that is one SEND.
use Rattle.std.specs.Prelude.{◌≡◌, ℕ, Bool, false, List, [], ◌∷◌, Some, take, slice_get}
use Rattle.pw_code.specs.declared.verb.Verb.TheVariants as verb
use Rattle.pw_event.specs.declared.event.Event.{Event}
use Rattle.pw_event.specs.declared.event.Event.TheVariants.{Begin}
use Rattle.pw_laws.specs.legal.Verbs.{asks_send}
use Rattle.pw_onecopy.specs.Behaviour.{Behaviour}
use Rattle.pw_paired.specs.State.{State, starting}
use Rattle.pw_paired.specs.Step.{after, effect}
use Rattle.pw_paired.specs.Terminal.{next_verb}

-- the entry at this place, counted from 0, is the BEGIN of a unit that is one SEND
pub record BeginsOneSend (sys : Behaviour) (log : List Event) (place : ℕ) : Type 0 where
  pub t : ℕ
  pub n : ℕ
  pub r : ℕ
  pub entry : slice_get log place ≡ Some (Begin t n r)
  pub class : ℕ
  pub message : List ℕ
  pub asks : next_verb sys (after sys (take place log)) t ≡ verb.Send class message

-- the entry is that in a state
abbrev pub begins_one_send : Behaviour → State → Event → Bool
begins_one_send sys state (Begin t n r) = asks_send (next_verb sys state t)
begins_one_send sys state _ = false

-- the same for each entry of a log, from a state on
abbrev pub one_sends_from : Behaviour → State → List Event → List Bool
one_sends_from sys state [] = []
one_sends_from sys state (entry ∷ log) =
    begins_one_send sys state entry ∷ one_sends_from sys (effect sys state entry) log

-- for each entry of a log whether it begins a unit that is one SEND
abbrev pub one_sends : Behaviour → List Event → List Bool
one_sends sys log = one_sends_from sys (starting sys) log
