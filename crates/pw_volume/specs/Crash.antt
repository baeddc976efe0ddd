-- What the calls of a disk do to its bytes, and what a crash may make of them until the next sync.
use Rattle.std.specs.Prelude.{◌≡◌, ℕ, ◌+◌, ◌-◌, ◌≤◌, min, List, ◌++◌, length, take, drop, Result, IsErr}
use Rattle.pw_base.specs.Outside.{Rose}

-- the bytes with a piece written over them from a place on, past their end too
abbrev pub written : ℕ → List ℕ → List ℕ → List ℕ
written at piece bytes = take at bytes ++ (piece ++ drop (at + length piece) bytes)

-- a place in the bytes, or their end
abbrev pub IsWithin : ℕ → List ℕ → Type 0
IsWithin at bytes = at ≤ length bytes

-- What a crash may make of bytes after a write of n bytes at a place, made or not: any bytes in that
-- range, any bytes behind the old end, and the bytes outside as they were.
pub record Torn (at n : ℕ) (old new : List ℕ) : Type 0 where
  pub middle : List ℕ
  pub tail : List ℕ
  pub size : length middle ≡ min n (length old - at)
  pub is : new ≡ take at old ++ (middle ++ (drop (at + n) old ++ tail))

-- what a crash may make of bytes after a cut to n bytes, made or not: any bytes in place of those
-- that it took
pub record Shortened (n : ℕ) (old new : List ℕ) : Type 0 where
  pub tail : List ℕ
  pub is : new ≡ take n old ++ tail

-- each new image comes of an old one by such a step
abbrev pub ImagesComeBy : (List ℕ → List ℕ → Type 0) → (List ℕ → Type 0) → (List ℕ → Type 0) → Type 0
ImagesComeBy Step old new =
    (image : List ℕ) → new image → (before : List ℕ) × old before × Step before image

-- each new image is an old one
abbrev pub NoMore : (List ℕ → Type 0) → (List ℕ → Type 0) → Type 0
NoMore old new = (image : List ℕ) → new image → old image

-- a crash leaves these bytes and nothing else
abbrev pub Only : List ℕ → (List ℕ → Type 0) → Type 0
Only bytes images = (image : List ℕ) → images image → image ≡ bytes

-- the count of faults never falls, and rises where the call failed
pub record CountsFaults {T E : Type 0} (result : Result T E) (before now : ℕ) : Type 0 where
  pub stays : before ≤ now
  pub cause : IsErr result → Rose before now
