-- Where a key stands in a file of blocks.
use Rattle.std.specs.Prelude.{◌≡◌, ℕ, suc, ◌+◌, ◌≤◌, ◌++◌, List, length, take, drop}
use Rattle.std.specs.Option.{option_copied}
use Rattle.pw_files.specs.Records.{below, above, record_at}
use Rattle.pw_blocks.specs.Packing.{IsBlock, unpacked}
use Rattle.pw_blocks.specs.Blocks.{records_of}
use Rattle.pw_blocks.specs.declared.cut.Cut.{Cut}

-- the records below a key, the one at it and those above it are those of the blocks round a place, with the parts of the block there
pub record IsSeat (n : ℕ) (blocks : List (List (List ℕ))) (key : List ℕ) (place : ℕ) (cut : Cut) : Type 0 where
  pub before_block : IsBlock cut.before.now
  pub behind_block : IsBlock cut.behind.now
  pub fits : length cut.before.now + length cut.behind.now ≤ 4096
  pub below : below n (records_of blocks) key ≡ records_of (take place blocks) ++ unpacked cut.before.now
  pub here : record_at n (records_of blocks) key ≡ option_copied cut.here
  pub above : above n (records_of blocks) key ≡ unpacked cut.behind.now ++ records_of (drop (suc place) blocks)
