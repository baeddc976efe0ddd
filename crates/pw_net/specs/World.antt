-- The net world: the members, the messages ever sent, and the events.
use Rattle.std.specs.Prelude.{ℕ, zero, suc, eqb, cond, List, [], ◌∷◌, ◌++◌, Option, Some, None, slice_get}
use Rattle.pw_net.specs.Member.{Member, MemberOutcome, first_member, standing_of, mark_of, start, handle, refuse, ask, give_up, restart}
use Rattle.pw_net.specs.declared.message.Mark.{Mark}
use Rattle.pw_net.specs.declared.message.Net.{Net}
use Rattle.pw_net.specs.declared.message.NetId.{NetId}

-- the member of each system, and all messages ever sent; a net of n systems is one whose events
-- name 1 to n alone
pub record NetWorld : Type 0 where
  pub members : ℕ → Member
  pub sent : List Net

-- the calls of a member, and the delivery of the k-th message sent, from 1; it may come never,
-- often, in any order
pub data NetEvent : Type 0 where
  Start : (system : ℕ) (others : List ℕ) → NetEvent
  Refuse : (system : ℕ) (id : NetId) → NetEvent
  Ask : (system : ℕ) (id : NetId) → NetEvent
  GiveUp : (system : ℕ) (number : ℕ) → NetEvent
  Restart : (system : ℕ) → NetEvent
  Deliver : (k : ℕ) → NetEvent

-- the members with another one for a system
unfoldable pub with_member : (ℕ → Member) → ℕ → Member → ℕ → Member
with_member members system member other = cond (eqb other system) member (members other)

-- what a call of a system's member makes of the world
abbrev pub done : NetWorld → ℕ → MemberOutcome → NetWorld
done world system outcome = record {
  members = with_member world.members system outcome.member;
  sent = world.sent ++ outcome.messages;
}

-- the k-th message, from 1
abbrev pub message_at : List Net → ℕ → Option Net
message_at sent zero = None
message_at sent (suc k) = slice_get sent k

-- the message comes to its receiver; a message that was not sent does nothing
abbrev pub delivered : NetWorld → Option Net → NetWorld
delivered world None = world
delivered world (Some message) = done world message.to (handle (world.members message.to) message)

-- the world after an event
abbrev pub effect : NetWorld → NetEvent → NetWorld
effect world (Start system others) = done world system (start (world.members system) others)
effect world (Refuse system id) = done world system (refuse (world.members system) id)
effect world (Ask system id) = done world system (ask (world.members system) id)
effect world (GiveUp system number) = done world system (give_up (world.members system) number)
effect world (Restart system) =
    record world { members = with_member world.members system (restart (world.members system)) }
effect world (Deliver k) = delivered world (message_at world.sent k)

-- no marks, and nothing sent
abbrev pub first_world : NetWorld
first_world = record { members = first_member; sent = [] }

-- the world after events, from a world on
abbrev pub after_from : NetWorld → List NetEvent → NetWorld
after_from world [] = world
after_from world (event ∷ events) = after_from (effect world event) events

-- the world after these events
abbrev pub net_world_after : List NetEvent → NetWorld
net_world_after events = after_from first_world events

-- the mark of a transaction at a system
abbrev pub mark_at : NetWorld → ℕ → NetId → Option Mark
mark_at world system id = mark_of (standing_of (world.members system) id)
