-- Where the requests of terminals are, by a list of places.
use Rattle.std.specs.Prelude.{◌≡◌, ℕ, List, Option, None, Some, false, slice_index_or}
use Rattle.pw_class.specs.Book.{is_out, IsAt}
use Rattle.pw_class.specs.Queue.{Queue}
use Rattle.pw_class.specs.declared.request.RequestPlace.{RequestPlace}

-- what is noted of a terminal, nothing past the end of the list
abbrev pub noted_place : List (Option RequestPlace) → ℕ → Option RequestPlace
noted_place places terminal = slice_index_or places terminal None

-- a request of the terminal is at the place, and where there is no place, none is out
abbrev pub IsRequestPlace : List Queue → ℕ → Option RequestPlace → Type 0
IsRequestPlace book terminal None = is_out book terminal ≡ false
IsRequestPlace book terminal (Some place) = IsAt book terminal place

-- what is noted of each terminal is its place
abbrev pub AreNoted : List Queue → List (Option RequestPlace) → Type 0
AreNoted book places = (terminal : ℕ) → IsRequestPlace book terminal (noted_place places terminal)
