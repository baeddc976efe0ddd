use Rattle.std.proofs.Common.{◌≡◌, ℕ, ◌≤◌, List, length, take}
use Rattle.std.specs.Prelude.{reverse}
use Rattle.pw_blocks.specs.Blocks.{BlocksState, records_of}
use Rattle.pw_paired.specs.State.{BeforeImage}
use Rattle.pw_tmf.specs.Committed.{all_put_back}
use Rattle.pw_tmf.proofs.images.Images.put_back_in.Given as goal

-- the last images have been put back, and so many are left
pub record ArePut (number : ℕ) (first : BlocksState) (images : List BeforeImage) (file : BlocksState) (left : ℕ) : Type 0 where
  pub key_is : file.key ≡ first.key
  pub within : left ≤ length images
  pub same : all_put_back first.key number (reverse (take left images)) (records_of file.blocks) ≡ all_put_back first.key number (reverse images) (records_of first.blocks)

abbrev pub invariant-loop-left : goal.invariant-loop-left
invariant-loop-left l = ArePut l.number l.fn.file l.self-inside.images.items l.file l.left

abbrev pub decreases-loop-left : goal.decreases-loop-left
decreases-loop-left l = l.left
