use Rattle.std.proofs.Common.{◌≡◌, ℕ, List, [], take}
use Rattle.pw_blocks.specs.Blocks.{BlocksState, records_of}
use Rattle.pw_tmf.specs.Starting.{all_put}
use Rattle.pw_tmf.proofs.start.file_of.Given as goal

-- the key length stays, and the contents so far are put into the file
pub record IsPut (key : ℕ) (file : BlocksState) (contents : List (List ℕ)) : Type 0 where
  pub key_is : file.key ≡ key
  pub put : records_of file.blocks ≡ all_put key [] contents

abbrev pub invariant-loop-content : goal.invariant-loop-content
invariant-loop-content l = IsPut l.key l.file (take l.content-index l.records)
