-- How the contents of a block lie in its bytes.
use Rattle.std.specs.Prelude.{◌≡◌, ℕ, zero, suc, ◌+◌, ◌*◌, ◌/◌, ◌%◌, ◌≤◌, List, [], ◌∷◌, ◌++◌, length, take, drop, flat_map, All, Option, Some, None, if◌then◌else◌}
use Rattle.std.specs.Borrow.{Bor}
use Rattle.std.specs.Ordering.{is_lt}
use Rattle.pw_base.specs.Limits.{most_content}
use Rattle.pw_files.specs.Records.{compared}

-- a content after its length in 2 bytes, the high one first
abbrev pub packed : List ℕ → List ℕ
packed content = length content / 256 ∷ length content % 256 ∷ content

-- the contents one after another
abbrev pub packed_all : List (List ℕ) → List ℕ
packed_all contents = flat_map packed contents

-- the contents that lie in some bytes, at most so many of them
abbrev pub unpacked_most : ℕ → List ℕ → List (List ℕ)
unpacked_most zero bytes = []
unpacked_most (suc most) [] = []
unpacked_most (suc most) (high ∷ []) = []
unpacked_most (suc most) (high ∷ low ∷ rest) = take (high * 256 + low) rest ∷ unpacked_most most (drop (high * 256 + low) rest)

-- the contents that lie in some bytes
unfoldable pub unpacked : List ℕ → List (List ℕ)
unpacked bytes = unpacked_most (length bytes) bytes

-- the bytes are those of some contents, each of which has at most 4,000 bytes, and there are at most 4,096 of them
pub record IsBlock (bytes : List ℕ) : Type 0 where
  pub whole : packed_all (unpacked bytes) ≡ bytes
  pub contents : All (λ content. length content ≤ most_content) (unpacked bytes)
  pub fits : length bytes ≤ 4096

-- at this place in the bytes one of their contents begins, or the last one ends
pub record IsFinger (bytes : List ℕ) (finger : ℕ) : Type 0 where
  pub front : List (List ℕ)
  pub back : List (List ℕ)
  pub contents : front ++ back ≡ unpacked bytes
  pub place : length (packed_all front) ≡ finger

-- the first of some contents, with the bytes of those behind it, and None exactly where there are none
abbrev pub IsFirst : Option (Bor (List ℕ) × Bor (List ℕ)) → List (List ℕ) → Type 0
IsFirst None [] = Unit {0}
IsFirst None (content ∷ contents) = ⊥
IsFirst (Some parts) [] = ⊥
IsFirst (Some parts) (content ∷ contents) = (parts.0.now ≡ content) × (parts.1.now ≡ packed_all contents)

-- the contents from the first one on whose key is not below this one
abbrev pub from_key : ℕ → List (List ℕ) → List ℕ → List (List ℕ)
from_key n [] key = []
from_key n (content ∷ contents) key = if is_lt (compared n key content) then from_key n contents key else content ∷ contents
