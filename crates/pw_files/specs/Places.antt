-- Where a search by key ends.
use Rattle.std.specs.Prelude.{◌≡◌, ℕ, suc, ◌≤◌, ◌<◌, true, List, length, take, drop, slice_get, None, Result, Ok, Err}
use Rattle.pw_files.specs.Records.{below, above, record_at, has_key}

-- the record with this key is at this place, behind the ones below it and before the ones above it
pub record IsRecordAt (n : ℕ) (records : List (List ℕ)) (key : List ℕ) (place : ℕ) : Type 0 where
  pub within : place < length records
  pub before : take place records ≡ below n records key
  pub here : slice_get records place ≡ record_at n records key
  pub is_there : has_key n records key ≡ true
  pub after : drop (suc place) records ≡ above n records key

-- no record has this key, and at this place it would be behind the ones below it and before the ones above it
pub record IsMissing (n : ℕ) (records : List (List ℕ)) (key : List ℕ) (place : ℕ) : Type 0 where
  pub within : place ≤ length records
  pub before : take place records ≡ below n records key
  pub nowhere : record_at n records key ≡ None
  pub after : drop place records ≡ above n records key

-- the place of the record with this key, or where it would stand
abbrev pub IsRecordPlace : ℕ → List (List ℕ) → List ℕ → Result ℕ ℕ → Type 0
IsRecordPlace n records key (Ok place) = IsRecordAt n records key place
IsRecordPlace n records key (Err place) = IsMissing n records key place
