-- Where before-images stand in their list.
use Rattle.std.specs.Prelude.{◌≡◌, ◌==◌, ◌&&◌, ℕ, Bool, true, false, List, slice_get, Option, None, Some}
use Rattle.std.specs.BTreeMap.{BTreeMap}
use Rattle.std.specs.Cmp.Lexicographic.{slice_cmp}
use Rattle.std.specs.Global.{Vec}
use Rattle.std.specs.Ordering.{nat_cmp, ordering_then}
use Rattle.std.specs.Str.{bytes_eq}
use Rattle.std.specs.declared.cmp.Ordering.{Ordering}
use Rattle.pw_locks.specs.Indexes.{is_filed}
use Rattle.pw_paired.specs.State.{BeforeImage}

-- the image is of a terminal's unit at a key of a file
abbrev pub is_image_at : ℕ → ℕ → List ℕ → BeforeImage → Bool
is_image_at t file key image = image.terminal == t && (image.file == file && bytes_eq image.key key)

-- the same of one that was looked for
abbrev pub is_found_at : ℕ → ℕ → List ℕ → Option BeforeImage → Bool
is_found_at t file key None = false
is_found_at t file key (Some image) = is_image_at t file key image

-- files and keys in order
abbrev pub place_cmp : ℕ × List ℕ → ℕ × List ℕ → Ordering
place_cmp a b = ordering_then (nat_cmp a.0 b.0) (slice_cmp nat_cmp a.1 b.1)

-- each image is filed under its file and key, by its place in the list
abbrev pub AreFiled : List BeforeImage → BTreeMap (ℕ × List ℕ) (Vec ℕ) → Type 0
AreFiled images index = (i : ℕ) (image : BeforeImage) → slice_get images i ≡ Some image → is_filed place_cmp index (image.file, image.key) i ≡ true
