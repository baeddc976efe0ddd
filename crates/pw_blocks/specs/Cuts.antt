-- What lies round a key in the bytes of a block.
use Rattle.std.specs.Prelude.{◌≡◌, ℕ, ◌+◌, ◌≤◌, List, length, map, take}
use Rattle.std.specs.List.Sorted.{IsStrictlySortedBy}
use Rattle.std.specs.Option.{option_copied}
use Rattle.pw_files.specs.Records.{key_cmp, below, above, record_at}
use Rattle.pw_blocks.specs.Packing.{IsBlock, unpacked}
use Rattle.pw_blocks.specs.declared.cut.Cut.{Cut}

-- the keys of the contents rise
abbrev pub Rises : ℕ → List (List ℕ) → Type 0
Rises n contents = IsStrictlySortedBy key_cmp (map (λ content. take n content) contents)

-- the parts are the records below a key, the one at it and those above it, and they lie in one block
pub record IsCut (n : ℕ) (contents : List (List ℕ)) (key : List ℕ) (cut : Cut) : Type 0 where
  pub before_block : IsBlock cut.before.now
  pub behind_block : IsBlock cut.behind.now
  pub fits : length cut.before.now + length cut.behind.now ≤ 4096
  pub below : unpacked cut.before.now ≡ below n contents key
  pub here : option_copied cut.here ≡ record_at n contents key
  pub above : unpacked cut.behind.now ≡ above n contents key
