-- A schedule: its systems and events, or the line of its fault.
use Rattle.std.specs.Prelude.{ℕ, zero, suc, ◌+◌, ◌-◌, List, [], ◌∷◌, ◌&&◌, nat_le, nat_lt, length, codes, Option, Some, None, Result, Ok, Err, if◌then◌else◌}
use Rattle.std.specs.Str.{bytes_eq}
use Rattle.pw_base.specs.Limits.{longest_input}
use Rattle.pw_sections.specs.Lines.{lines}
use Rattle.pw_sections.specs.Steps.{is_blank}
use Rattle.pw_net.specs.World.{NetEvent}
use Rattle.pw_expand.specs.Numbers.{counts_in}
use Rattle.pw_expand.specs.Events.{words_of, event_in}

-- how many systems there are, and what happens, in order
pub record Schedule : Type 0 where
  pub systems : ℕ
  pub events : List NetEvent

-- the most lines of events
abbrev pub most_events : ℕ
most_events = 10000

-- one number, from 2 to 8
abbrev pub net_size : Option (List ℕ) → Option ℕ
net_size (Some (n ∷ [])) = if nat_le 2 n && nat_le n 8 then Some n else None
net_size _ = None

-- the number of systems of the first line's words
abbrev pub systems_by : List (List ℕ) → Option ℕ
systems_by [] = None
systems_by (word ∷ fields) =
    if bytes_eq word (codes "SYSTEMS") then net_size (counts_in fields) else None

-- the number of systems that the first line names
unfoldable pub systems_in : List ℕ → Option ℕ
systems_in line = systems_by (words_of line)

-- the event of a line, where so many lines of events may still come
abbrev pub event_on : ℕ → ℕ → List ℕ → Option NetEvent
event_on systems zero line = None
event_on systems (suc left) line = event_in systems line

-- an event before others; without it the fault stands at this line
abbrev pub then_events : ℕ → Option NetEvent → Result (List NetEvent) ℕ → Result (List NetEvent) ℕ
then_events number None later = Err number
then_events number (Some event) (Err fault) = Err fault
then_events number (Some event) (Ok events) = Ok (event ∷ events)

-- The events of lines, of which the first has a number; so many lines of events may still come.
-- Lines without a word are skipped.
unfoldable pub events_from : (systems number left : ℕ) → List (List ℕ) → Result (List NetEvent) ℕ
events_from systems number left [] = Ok []
events_from systems number left (line ∷ rest) =
    if is_blank line then events_from systems (number + 1) left rest
    else then_events number (event_on systems left line)
    (events_from systems (number + 1) (left - 1) rest)

-- the schedule of events
abbrev pub with_systems : ℕ → Result (List NetEvent) ℕ → Result Schedule ℕ
with_systems systems (Err fault) = Err fault
with_systems systems (Ok events) = Ok (record { systems = systems; events = events })

-- the schedule whose first line names the systems; without them the fault stands at this line
abbrev pub schedule_begun : ℕ → Option ℕ → List (List ℕ) → Result Schedule ℕ
schedule_begun number None rest = Err number
schedule_begun number (Some systems) rest =
    with_systems systems (events_from systems (number + 1) most_events rest)

-- the schedule of lines, of which the first has a number; where each is blank, the fault stands
-- behind the last
unfoldable pub schedule_from : ℕ → List (List ℕ) → Result Schedule ℕ
schedule_from number [] = Err number
schedule_from number (line ∷ rest) =
    if is_blank line then schedule_from (number + 1) rest else schedule_begun number (systems_in line) rest

-- the schedule of an input, or the line of its first fault, which is 0 for an input over the limit
abbrev pub schedule_of : List ℕ → Result Schedule ℕ
schedule_of bytes =
    if nat_lt longest_input (length bytes) then Err 0 else schedule_from 1 (lines bytes)
