-- The entries of a pair for one of its terminals.
use Rattle.std.specs.Prelude.{◌≡◌, ℕ, ◌<◌, true, false, length, Option, Some, None}
use Rattle.pw_code.specs.declared.system.System.{System}
use Rattle.pw_event.specs.declared.event.Event.{Event}
use Rattle.pw_world_state.specs.Entered.{tcp_of}
use Rattle.pw_world_state.specs.Kept.{Kept}
use Rattle.pw_world_state.specs.PairTests.{may_apply, may_copy}
use Rattle.pw_world_state.specs.TerminalTests.{seat_at}
use Rattle.pw_pair.specs.Pairs.{passes}
use Rattle.pw_pair.specs.Seats.{is_waiting}
use Rattle.pw_actor_queue.specs.declared.actor.Actor.TheVariants.{Pair}
use Rattle.pw_entry_tests.specs.Steps.{IsStepOf, IsUnbuilt}

-- the terminal is one of the pair
pub record IsMember (system : System) (p t : ℕ) : Type 0 where
  pub there : t < length system.terminals
  pub of_pair : tcp_of system t ≡ p

-- it has no entry but an APPLIED whose message is not built
pub record IsPassed (system : System) (kept : Kept) (t : ℕ) : Type 0 where
  pub copies : may_copy system kept t ≡ false
  pub applies : may_apply system kept t ≡ true → passes is_waiting (seat_at system kept t) ≡ true

-- it has none but such, or this is one that is not such
abbrev pub IsBuiltFound : System → Kept → ℕ → ℕ → Option Event → Type 0
IsBuiltFound system kept p t None = IsPassed system kept t
IsBuiltFound system kept p t (Some entry) =
    IsStepOf system kept (Pair p) entry × (IsUnbuilt system kept entry → ⊥)
