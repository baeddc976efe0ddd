-- The net world of a schedule as it is kept: a member for each system that has done something.
use Rattle.std.specs.Prelude.{◌≡◌, ◌≢◌, ◌≤◌, ◌+◌, ℕ, List, [], Option, Some, None, Result, Ok, Err}
use Rattle.std.specs.BTreeMap.{is_at}
use Rattle.std.specs.Map.{lookup}
use Rattle.std.specs.Option.{unwrap_or}
use Rattle.std.specs.Ordering.{nat_cmp}
use Rattle.pw_net.specs.Member.{Member, MemberOutcome, first_member, start, refuse, ask, give_up, restart}
use Rattle.pw_net.specs.World.{NetWorld, NetEvent, effect, after_from}
use Rattle.pw_net.specs.declared.message.Net.{Net}
use Rattle.pw_expand.specs.declared.event.ScheduleCall.{ScheduleCall}
use Rattle.pw_expand.specs.declared.event.ScheduleCall.TheVariants as call
use Rattle.pw_expand.specs.declared.fault.ScheduleFault.{ScheduleFault}
use Rattle.pw_expand.specs.declared.fault.ScheduleFault.TheVariants.{At, Memory}
use Rattle.pw_expand.specs.Schedule.{Schedule, events_from}

-- the member of a system: a new one, where none is kept
abbrev pub member_in : List (ℕ × Member) → ℕ → Member
member_in members system =
    unwrap_or (lookup (is_at (nat_cmp system)) members) (first_member system)

-- the world of these members and messages
abbrev pub world_of : List (ℕ × Member) → List Net → NetWorld
world_of members sent = record { members = member_in members; sent = sent }

-- the members of the other systems stay
abbrev pub KeepsOthers : ℕ → List (ℕ × Member) → List (ℕ × Member) → Type 0
KeepsOthers system old new = (other : ℕ) → other ≢ system → member_in new other ≡ member_in old other

-- what a call leaves of a member, and the messages to send
abbrev pub outcome_of : ScheduleCall → Member → MemberOutcome
outcome_of (call.Start others) member = start member others
outcome_of (call.Refuse id) member = refuse member id
outcome_of (call.Ask id) member = ask member id
outcome_of (call.GiveUp number) member = give_up member number
outcome_of call.Restart member = record { member = restart member; messages = [] }

-- no member has begun more transactions than this
abbrev pub HasBegun : ℕ → NetWorld → Type 0
HasBegun most world = (system : ℕ) → (world.members system).last ≤ most

-- what happens on a line: the world after the event that it names, or the fault at its number;
-- of want of memory nothing is said
abbrev pub NetStepsTo : Result (Unit {0}) ScheduleFault → NetWorld → NetWorld → ℕ → Option NetEvent → Type 0
NetStepsTo (Ok done) old now number None = ⊥
NetStepsTo (Ok done) old now number (Some event) = now ≡ effect old event
NetStepsTo (Err (At line)) old now number None = line ≡ number
NetStepsTo (Err (At line)) old now number (Some event) = ⊥
NetStepsTo (Err Memory) old now number event = Unit {0}

-- the world after events, or the line of the fault
abbrev pub played : NetWorld → Result (List NetEvent) ℕ → Result NetWorld ℕ
played world (Err fault) = Err fault
played world (Ok events) = Ok (after_from world events)

-- a world has come out, or the fault of this line, unless memory ran out
abbrev pub SchedulePlaysTo : Result (Unit {0}) ScheduleFault → NetWorld → Result NetWorld ℕ → Type 0
SchedulePlaysTo (Ok done) now defined = defined ≡ Ok now
SchedulePlaysTo (Err (At line)) now defined = defined ≡ Err line
SchedulePlaysTo (Err Memory) now defined = Unit {0}

-- One line is behind: what lines are left comes to the same from here on, with so many lines of
-- events that may still come; or the fault is this line's, whatever is left.
abbrev pub ScheduleGoesOn : Result ℕ ScheduleFault → NetWorld → (systems number : ℕ)
    → (List (List ℕ) → Result NetWorld ℕ) → Type 0
ScheduleGoesOn (Ok left) now systems number defined = (rest : List (List ℕ))
    → defined rest ≡ played now (events_from systems (number + 1) left rest)
ScheduleGoesOn (Err (At line)) now systems number defined =
    (rest : List (List ℕ)) → defined rest ≡ Err line
ScheduleGoesOn (Err Memory) now systems number defined = Unit {0}

-- the systems of a schedule, and the world after its events, or the line of its fault
abbrev pub schedule_played : NetWorld → Result Schedule ℕ → Result (ℕ × NetWorld) ℕ
schedule_played world (Err fault) = Err fault
schedule_played world (Ok schedule) = Ok (schedule.systems, after_from world schedule.events)

-- so many systems and a world have come out, or the fault of this line, unless memory ran out
abbrev pub PlaysTo : Result ℕ ScheduleFault → NetWorld → Result (ℕ × NetWorld) ℕ → Type 0
PlaysTo (Ok systems) now defined = defined ≡ Ok (systems, now)
PlaysTo (Err (At line)) now defined = defined ≡ Err line
PlaysTo (Err Memory) now defined = Unit {0}

-- the fault is the one that is defined, unless memory ran out
abbrev pub IsFaultOf : {A : Type 0} → ScheduleFault → Result A ℕ → Type 0
IsFaultOf (At line) defined = defined ≡ Err line
IsFaultOf Memory defined = Unit {0}
