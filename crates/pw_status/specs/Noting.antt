-- What is noted of an entry before it is entered.
use Rattle.std.specs.BTreeSet.{BTreeSet}
use Rattle.std.specs.Prelude.{◌≡◌, ◌<◌, ℕ, Bool, true, false, List, Option, Some, None, length}
use Rattle.pw_status.specs.Shown.{IsForgotten, IsNumberNoted}
use Rattle.pw_event.specs.declared.event.Event.{Event}
use Rattle.pw_event.specs.declared.event.Event.TheVariants.{Show}
use Rattle.pw_report_text.specs.declared.numbers.ListedRefreshNumber.{ListedRefreshNumber}

-- the terminal of a SHOW, and its refresh number
abbrev pub shown_in : Event → Option (ℕ × ListedRefreshNumber)
shown_in (Show t phase attempt k) = Some (t, record { phase = phase; attempt = attempt; k = k })
shown_in _ = None

-- the terminal is one of those whose numbers are kept
abbrev pub HasKeptNumbers : Option (ℕ × ListedRefreshNumber) → List (BTreeSet ListedRefreshNumber) → Type 0
HasKeptNumbers None sets = Unit {0}
HasKeptNumbers (Some shown) sets = shown.0 < length sets

-- the number is noted, if there is one, and is new or not
abbrev pub Notes : Option (ℕ × ListedRefreshNumber) → Bool → List (BTreeSet ListedRefreshNumber) → List (BTreeSet ListedRefreshNumber) → Type 0
Notes None fresh old new = (fresh ≡ false) × (new ≡ old)
Notes (Some shown) fresh old new = IsNumberNoted shown.0 shown.1 fresh old new

-- a number that was new is forgotten
pub record IsUndone (shown : ℕ × ListedRefreshNumber) (fresh : Bool) (old new : List (BTreeSet ListedRefreshNumber)) : Type 0 where
  pub new_one : fresh ≡ true → IsForgotten shown.0 shown.1 old new
  pub seen : fresh ≡ false → new ≡ old

-- a refresh number that was new, if there is one, is forgotten
abbrev pub Forgets : Option (ℕ × ListedRefreshNumber) → Bool → List (BTreeSet ListedRefreshNumber) → List (BTreeSet ListedRefreshNumber) → Type 0
Forgets None fresh old new = new ≡ old
Forgets (Some shown) fresh old new = IsUndone shown fresh old new
