-- A deck is cut before its section lines.
use Rattle.std.specs.Prelude.{◌≡◌, ℕ, ◌+◌, ◌-◌, ◌<◌, ◌≤◌, ◌==◌, List, [], ◌∷◌, get_or, Bool, true, false, ◌&&◌, if◌then◌else◌}
use Rattle.pw_base.specs.Characters.{line_feed, question_mark}

-- what stands before the first section line, and each section with its line, up to the next section line
pub record DeckSections : Type 0 where
  pub front : List ℕ
  pub sections : List (List ℕ)

-- a byte stands in front, and begins a section line or does not
abbrev pub with_byte : Bool → ℕ → DeckSections → DeckSections
with_byte begins b cut =
    if begins then record { front = []; sections = (b ∷ cut.front) ∷ cut.sections }
    else record cut { front = b ∷ cut.front }

-- A text is cut. A section line begins with `?`, at the start of a line.
unfoldable pub cut : Bool → List ℕ → DeckSections
cut at_start [] = record { front = []; sections = [] }
cut at_start (b ∷ rest) = with_byte (at_start && b == question_mark) b (cut (b == line_feed) rest)

-- the sections of a text that stands at the start of a line
abbrev pub sections : List ℕ → List (List ℕ)
sections text = (cut true text).sections

-- what stands before its first section
abbrev pub front : List ℕ → List ℕ
front text = (cut true text).front

-- the text begins with a section line, or is empty
abbrev pub IsAtSection : List ℕ → Type 0
IsAtSection text = front text ≡ []

-- a place of a text stands at the start of a line: the first as the text does, and each other behind LF
abbrev pub starts : Bool → List ℕ → ℕ → Bool
starts at_start text i = if i == 0 then at_start else get_or text (i - 1) 0 == line_feed

-- a section line begins at a place
abbrev pub begins_at : Bool → List ℕ → ℕ → Bool
begins_at at_start text i = starts at_start text i && get_or text i 0 == question_mark

-- none begins at so many places from one on
abbrev pub NoneBegins : Bool → List ℕ → ℕ → ℕ → Type 0
NoneBegins at_start text from count =
    (i : ℕ) → from ≤ i → i < from + count → begins_at at_start text i ≡ false
