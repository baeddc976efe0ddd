-- The different refresh numbers of each terminal.
use Rattle.std.specs.BTreeSet.{BTreeSet, Updates, btree_set_len, contains}
use Rattle.std.specs.Prelude.{◌≡◌, ℕ, ◌+◌, ◌<◌, Bool, true, false, not, List, [], length, slice_index_or, slice_set, if◌then◌else◌}
use Rattle.pw_report_text.specs.Listing.{refreshes_counted_once}
use Rattle.pw_report_text.specs.Numbers.{number_cmp, number_of_refresh}
use Rattle.pw_report_text.specs.declared.numbers.ListedRefreshNumber.{ListedRefreshNumber}
use Rattle.pw_onecopy.specs.Refreshes.{refreshes_of, same_number}
use Rattle.pw_onecopy.specs.declared.refresh.Refresh.{Refresh}
use Rattle.std.specs.List.{list_any}

-- no numbers
abbrev pub no_numbers : BTreeSet ListedRefreshNumber
no_numbers = record { keys = [] }

-- the refresh numbers of a terminal
abbrev pub numbers_of : List (BTreeSet ListedRefreshNumber) → ℕ → BTreeSet ListedRefreshNumber
numbers_of sets t = slice_index_or sets t no_numbers

-- each terminal has the numbers that it had
pub record IsSameAs (old new : List (BTreeSet ListedRefreshNumber)) : Type 0 where
  pub count : length new ≡ length old
  pub keys : (t : ℕ) → t < length old → (numbers_of new t).keys ≡ (numbers_of old t).keys

-- the terminal has the number too, which is new to it or not
pub record IsNumberNoted (t : ℕ) (number : ListedRefreshNumber) (fresh : Bool) (old new : List (BTreeSet ListedRefreshNumber)) : Type 0 where
  pub sets : new ≡ slice_set old t (numbers_of new t)
  pub fresh_is : fresh ≡ not (contains number_cmp (numbers_of old t) number)
  pub updates : Updates number_cmp (numbers_of old t) (numbers_of new t) number true
  pub count : btree_set_len (numbers_of new t) ≡ btree_set_len (numbers_of old t) + (if fresh then 1 else 0)

-- the terminal has the number no more
pub record IsForgotten (t : ℕ) (number : ListedRefreshNumber) (old new : List (BTreeSet ListedRefreshNumber)) : Type 0 where
  pub sets : new ≡ slice_set old t (numbers_of new t)
  pub updates : Updates number_cmp (numbers_of old t) (numbers_of new t) number false
  pub count : contains number_cmp (numbers_of old t) number ≡ true
      → btree_set_len (numbers_of new t) + 1 ≡ btree_set_len (numbers_of old t)

-- a set has the numbers of these refreshes, and as many as they count once
pub record HasNumbers (refreshes : List Refresh) (t : ℕ) (numbers : BTreeSet ListedRefreshNumber) : Type 0 where
  pub has : (r : Refresh) → contains number_cmp numbers (number_of_refresh r)
      ≡ list_any (same_number r) (refreshes_of t refreshes)
  pub count : btree_set_len numbers ≡ length (refreshes_counted_once refreshes t)

-- the refresh numbers that are kept are those of the refreshes
abbrev pub AreShownOf : List Refresh → List (BTreeSet ListedRefreshNumber) → Type 0
AreShownOf refreshes sets =
    (t : ℕ) → t < length sets → HasNumbers refreshes t (numbers_of sets t)
