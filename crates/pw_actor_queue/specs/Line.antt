-- Who comes next: the line of those who were called, and the round over all places.
use Rattle.std.specs.Prelude.{◌≡◌, ◌<◌, ◌≤◌, ℕ, ◌+◌, ◌-◌, ◌==◌, ◌++◌, ◌∷◌, [], nat_lt, nat_le, Bool, true, false, List, Option, Some, None, find, length, slice_index_or, if◌then◌else◌}
use Rattle.std.specs.List.{IsDistinct, list_any}
use Rattle.pw_actor_queue.specs.Places.{actor_place, blank, is_placed, is_waiting}
use Rattle.pw_actor_queue.specs.declared.roster.ActorNote.{ActorNote}
use Rattle.pw_actor_queue.specs.declared.actor.Actor.{Actor}

-- what is noted of actors, and who comes next of them
pub record RosterState : Type 0 where
  -- what is noted at each place
  pub notes : List ActorNote
  -- the places of those who were called and have not come since: first called, first come
  pub line : List ℕ
  -- where the round stands: it goes on from this place, and from the last place to the first
  pub round : ℕ
  -- how many have come from the line since one came by the round
  pub passed : ℕ

-- all but the notes is the same
abbrev pub IsRenoted : RosterState → RosterState → Type 0
IsRenoted old new = new ≡ record old { notes = new.notes }

-- ---- the line

-- behind all in line, unless the place stands in line
abbrev pub behind_all : ℕ → List ℕ → List ℕ
behind_all place line = if list_any (λ other. place == other) line then line else line ++ place ∷ []

-- who is called stands in line from then on
abbrev pub line_called : Actor → List ℕ → List ℕ
line_called actor line = if is_placed actor then behind_all (actor_place actor) line else line

-- the actor of the place is marked and not out
abbrev pub waits_at : List ActorNote → ℕ → Bool
waits_at notes place = is_waiting (slice_index_or notes place blank)

-- those behind the first who passes a test; who stands before him leaves the line too
abbrev pub behind_first : (ℕ → Bool) → List ℕ → List ℕ
behind_first test [] = []
behind_first test (place ∷ line) = if test place then line else behind_first test line

-- how many come from the line before one comes by the round
abbrev pub most_passed : ℕ
most_passed = 16

-- who comes from the line: the first who waits
abbrev pub first_in_line : RosterState → Option ℕ
first_in_line roster = if nat_lt roster.passed most_passed then find (waits_at roster.notes) roster.line else None

-- the line behind him
abbrev pub line_behind : RosterState → List ℕ
line_behind roster = if nat_lt roster.passed most_passed then behind_first (waits_at roster.notes) roster.line else roster.line

-- ---- the round

-- how far ahead a place is in the round that stands at another one
abbrev pub steps_ahead : ℕ → ℕ → ℕ
steps_ahead round place = if nat_le round place then place - round else place + 408 - round

-- nobody who waits is nearer in the round
abbrev pub IsNearest : List ActorNote → ℕ → ℕ → Type 0
IsNearest notes round place = (other : ℕ) → other < 408 → waits_at notes other ≡ true
    → steps_ahead round place ≤ steps_ahead round other

-- ---- who comes next

-- From the line comes the first who waits. By the round comes the nearest who waits, and is last in the round then, so that
-- whoever was passed over comes before whoever was not: it is their turn where nobody in line waits, and behind so many
-- from the line.
abbrev pub ComesNext : Option ℕ → RosterState → Option Actor → RosterState → Type 0
ComesNext (Some place) old None new = ⊥
ComesNext (Some place) old (Some actor) new =
    (actor_place actor ≡ place) × (new ≡ record old { line = line_behind old; passed = old.passed + 1 })
ComesNext None old None new = new ≡ record old { line = line_behind old; passed = 0 }
ComesNext None old (Some actor) new =
    IsNearest old.notes old.round (actor_place actor)
    × (new ≡ record old { line = line_behind old; round = actor_place actor + 1; passed = 0 })

-- it was the turn of who came
abbrev pub TakesTurn : RosterState → Option Actor → RosterState → Type 0
TakesTurn old result new = ComesNext (first_in_line old) old result new

-- ---- kept

-- a line of places, each once, for which there is room, beside whether each place stands in line
pub record IsPlaceLine (capacity : ℕ) (stands : List Bool) (line : List ℕ) : Type 0 where
  pub room : 408 ≤ capacity
  pub size : length stands ≡ 408
  pub low : (place : ℕ) → list_any (λ other. place == other) line ≡ true → place < 408
  pub once : IsDistinct (λ a b. a == b) line
  pub stands_if : (place : ℕ) → place < 408 → slice_index_or stands place false ≡ list_any (λ other. place == other) line

-- there is a note at each place, and where it is said so each of them is marked
pub record IsRoster (notes : List ActorNote) (round : ℕ) (passed : ℕ) (all : Bool) : Type 0 where
  pub size : length notes ≡ 408
  pub within : round ≤ 408
  pub few : passed ≤ most_passed
  pub marked : all ≡ true → (k : ℕ) → k < 408 → (slice_index_or notes k blank).marked ≡ true
