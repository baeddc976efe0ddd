-- The records of a file, in the order of their keys.
use Rattle.std.specs.Prelude.{ℕ, Bool, List, ◌∷◌, ◌++◌, Option, is_some, take, map, filter, find, slice_get, All}
use Rattle.std.specs.List.Sorted.{IsStrictlySortedBy}
use Rattle.std.specs.Ordering.{nat_cmp, is_lt, is_eq, is_gt}
use Rattle.std.specs.declared.cmp.Ordering.{Ordering}
use Rattle.std.specs.Cmp.Lexicographic.{slice_cmp}
pub use Rattle.pw_base.specs.Lengths.{IsKeyLength, IsContent}

-- how two keys compare, byte by byte
abbrev pub key_cmp : List ℕ → List ℕ → Ordering
key_cmp = slice_cmp nat_cmp

-- how the key of a content, its first n bytes, compares with a key
abbrev pub compared : ℕ → List ℕ → List ℕ → Ordering
compared n key content = key_cmp (take n content) key

-- the records with keys below this one
abbrev pub below : ℕ → List (List ℕ) → List ℕ → List (List ℕ)
below n records key = filter (λ content. is_lt (compared n key content)) records

-- the records with keys above this one
abbrev pub above : ℕ → List (List ℕ) → List ℕ → List (List ℕ)
above n records key = filter (λ content. is_gt (compared n key content)) records

-- the record with this key, if there is one
abbrev pub record_at : ℕ → List (List ℕ) → List ℕ → Option (List ℕ)
record_at n records key = find (λ content. is_eq (compared n key content)) records

-- whether there is a record with this key
abbrev pub has_key : ℕ → List (List ℕ) → List ℕ → Bool
has_key n records key = is_some (record_at n records key)

-- the record with the first key above this one, if there is one
abbrev pub record_after : ℕ → List (List ℕ) → List ℕ → Option (List ℕ)
record_after n records key = slice_get (above n records key) 0

-- the records with this content at its key, in place of the one there, if any
abbrev pub with_record : ℕ → List (List ℕ) → List ℕ → List (List ℕ)
with_record n records content = below n records (take n content) ++ content ∷ above n records (take n content)

-- the records without the one with this key, if any
abbrev pub without_key : ℕ → List (List ℕ) → List ℕ → List (List ℕ)
without_key n records key = below n records key ++ above n records key

-- the key has a length that keys may have, each content has a length that contents may have, and the keys rise
pub record IsFile (n : ℕ) (records : List (List ℕ)) : Type 0 where
  pub key : IsKeyLength n
  pub contents : All (IsContent n) records
  pub order : IsStrictlySortedBy key_cmp (map (λ content. take n content) records)
