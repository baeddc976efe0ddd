-- The event that a line of a schedule names.
use Rattle.std.specs.Prelude.{ℕ, ◌==◌, List, [], ◌∷◌, Bool, true, ◌&&◌, not, nat_le, length, codes, Option, Some, None, if◌then◌else◌}
use Rattle.std.specs.List.{list_all, list_any, slice_split}
use Rattle.std.specs.Str.{bytes_eq}
use Rattle.pw_base.specs.Characters.{space}
use Rattle.pw_net.specs.World.{NetEvent}
use Rattle.pw_net.specs.World as net
use Rattle.pw_net.specs.declared.message.NetId.{NetId}
use Rattle.pw_expand.specs.Numbers.{counts_in}
use Rattle.pw_expand.specs.declared.event.ScheduleCall.{ScheduleCall}
use Rattle.pw_expand.specs.declared.event.ScheduleCall.TheVariants as call
use Rattle.pw_expand.specs.declared.event.ScheduleEvent.{ScheduleEvent}
use Rattle.pw_expand.specs.declared.event.ScheduleEvent.TheVariants as event
use Rattle.pw_expand.specs.declared.event.ScheduleKeyword.{ScheduleKeyword}
use Rattle.pw_expand.specs.declared.event.ScheduleKeyword.TheVariants.{Start, Deliver, Refuse, Ask, GiveUp, Restart}

-- the event that happens at a system
abbrev pub net_call : ℕ → ScheduleCall → NetEvent
net_call system (call.Start others) = net.Start system others
net_call system (call.Refuse id) = net.Refuse system id
net_call system (call.Ask id) = net.Ask system id
net_call system (call.GiveUp number) = net.GiveUp system number
net_call system call.Restart = net.Restart system

-- the event of the net world
abbrev pub net_event : ScheduleEvent → NetEvent
net_event (event.Deliver k) = net.Deliver k
net_event (event.Call system call) = net_call system call

-- the words of a line: what stands between its spaces, so that two spaces have an empty word between them
abbrev pub words_of : List ℕ → List (List ℕ)
words_of line = slice_split (λ byte. byte == space) line

-- the keyword that a word is
unfoldable pub keyword_in : List ℕ → Option ScheduleKeyword
keyword_in word =
    if bytes_eq word (codes "START") then Some Start
    else (if bytes_eq word (codes "DELIVER") then Some Deliver
    else (if bytes_eq word (codes "REFUSE") then Some Refuse
    else (if bytes_eq word (codes "ASK") then Some Ask
    else (if bytes_eq word (codes "GIVEUP") then Some GiveUp
    else (if bytes_eq word (codes "RESTART") then Some Restart else None)))))

-- the system is there
abbrev pub is_system : ℕ → ℕ → Bool
is_system systems number = nat_le number systems

-- no number stands twice
abbrev pub all_differ : List ℕ → Bool
all_differ [] = true
all_differ (n ∷ ns) = not (list_any (λ other. other == n) ns) && all_differ ns

-- a home and its others may start a transaction: 1 to 7 others, which are there and differ from
-- each other and from the home
abbrev pub may_start : ℕ → List ℕ → Bool
may_start systems numbers =
    nat_le 2 (length numbers)
    && (nat_le (length numbers) 8 && (list_all (is_system systems) numbers && all_differ numbers))

-- the event, where it may come
abbrev pub event_if : Bool → NetEvent → Option NetEvent
event_if may event = if may then Some event else None

-- the start by the first of these systems, with the others
abbrev pub start_of : ℕ → List ℕ → Option NetEvent
start_of systems [] = None
start_of systems (home ∷ others) =
    event_if (may_start systems (home ∷ others)) (net.Start home others)

-- a system that is there, and a transaction whose home is there
abbrev pub about : ℕ → (ℕ → NetId → NetEvent) → List ℕ → Option NetEvent
about systems event (system ∷ home ∷ number ∷ []) =
    event_if (is_system systems system && is_system systems home)
    (event system (record { home = home; number = number }))
about systems event _ = None

-- the event of a keyword with these numbers
abbrev pub event_of : ℕ → ScheduleKeyword → List ℕ → Option NetEvent
event_of systems Start numbers = start_of systems numbers
event_of systems Deliver (k ∷ []) = Some (net.Deliver k)
event_of systems Deliver _ = None
event_of systems Refuse numbers = about systems net.Refuse numbers
event_of systems Ask numbers = about systems net.Ask numbers
event_of systems GiveUp (home ∷ number ∷ []) =
    event_if (is_system systems home) (net.GiveUp home number)
event_of systems GiveUp _ = None
event_of systems Restart (system ∷ []) = event_if (is_system systems system) (net.Restart system)
event_of systems Restart _ = None

-- the event of a keyword and numbers, where both are there
abbrev pub keyword_event : ℕ → Option ScheduleKeyword → Option (List ℕ) → Option NetEvent
keyword_event systems None numbers = None
keyword_event systems (Some keyword) None = None
keyword_event systems (Some keyword) (Some numbers) = event_of systems keyword numbers

-- the event of a line's words
abbrev pub event_by : ℕ → List (List ℕ) → Option NetEvent
event_by systems [] = None
event_by systems (word ∷ fields) = keyword_event systems (keyword_in word) (counts_in fields)

-- the event that a line names, among this many systems
unfoldable pub event_in : ℕ → List ℕ → Option NetEvent
event_in systems line = event_by systems (words_of line)
