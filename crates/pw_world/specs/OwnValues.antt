-- The numbers and characters of the contexts of an actor.
use Rattle.std.specs.Prelude.{◌≡◌, Some}
use Rattle.pw_code.specs.declared.context.Context.{Context}
use Rattle.pw_image.specs.Values.{HasValues}
use Rattle.pw_world_state.specs.Kept.{Kept, KeptTerminal}
use Rattle.pw_actor_queue.specs.declared.actor.Actor.{Actor}
use Rattle.pw_actor_queue.specs.declared.actor.Actor.TheVariants.{Terminal}

-- those of a terminal at its last answer and at its verb are of their types
pub record TerminalHasValues (own : KeptTerminal) : Type 0 where
  pub behind : (context : Context) → own.context ≡ Some context → HasValues context
  pub ready : (context : Context) → own.ready ≡ Some context → HasValues context

-- the tests of the steps of other actors look at no image
abbrev pub HasOwnValues : Kept → Actor → Type 0
HasOwnValues kept (Terminal t) = TerminalHasValues (kept.terminals t)
HasOwnValues kept _ = Unit {0}
