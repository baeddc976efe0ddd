use Rattle.std.proofs.Common.{◌≡◌, ℕ, List}
use Rattle.pw_blocks.specs.Blocks.{BlocksState, records_of}
use Rattle.pw_tmf.specs.Committed.{all_put_back, images_below}
use Rattle.pw_tmf.specs.Slots.{SlotState}
use Rattle.pw_tmf.specs.Tmf.{unit_at}
use Rattle.pw_tmf.proofs.committed.put_all_back.Given as goal

-- what the units of the first terminals have changed is put back
pub record ArePutBack (number : ℕ) (first : BlocksState) (slots : List SlotState) (file : BlocksState) (place : ℕ) : Type 0 where
  pub key_is : file.key ≡ first.key
  pub same : records_of file.blocks ≡ all_put_back first.key number (images_below (unit_at slots) place) (records_of first.blocks)

abbrev pub invariant-loop-slot : goal.invariant-loop-slot
invariant-loop-slot l = ArePutBack l.number l.fn.file l.slots l.file l.slot-index
