-- An actor has one stamp.
use Rattle.std.proofs.Common.{◌≡◌, ℕ, ◌-◌, ◌<◌, ◌≤◌, List, length, sym, ◌∙◌, ⊎_elim, arith}
use Rattle.std.proofs.lemmas.Bool.{cases_eq, cases_lt}
use Rattle.pw_event.specs.declared.event.Event.{Event}
use Rattle.pw_world_model.specs.Stamps.{IsStamp}
use Rattle.pw_actor_queue.specs.declared.actor.Actor.{Actor}
use Rattle.pw_onecopy.specs.Behaviour.{Behaviour}

-- none is below another
not-below : (sys : Behaviour) (log : List Event) (actor : Actor) (n m : ℕ) → IsStamp sys log actor n → IsStamp sys log actor m → n < m → ⊥
not-below sys log actor n m first second low =
    ⊎_elim
    (λ is. omega (arith, is, low))
    (λ other.
    let within : m ≤ length log = second.within in
    other
    (first.since (m - 1) (omega (arith, low)) (omega (arith, within))
    ∙ sym (first.since m (omega (arith, low)) within)))
    second.changed

pub one-stamp : (sys : Behaviour) (log : List Event) (actor : Actor) (n m : ℕ) → IsStamp sys log actor n → IsStamp sys log actor m → n ≡ m
one-stamp sys log actor n m first second =
    ⊎_elim (λ is. is)
    (λ ne.
    absurd (⊎_elim (λ low. not-below sys log actor n m first second low) (λ high. not-below sys log actor m n second first (omega (arith, high, ne))) (cases_lt n m)))
    (cases_eq n m)
