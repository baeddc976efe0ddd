use Rattle.std.proofs.Common.{◌≡◌, map, take}
use Rattle.pw_blocks.specs.Blocks.{first_key}
use Rattle.pw_blocks.proofs.pieces.first_keys.Given as goal

-- the first keys of the blocks so far
abbrev pub invariant-loop-block : goal.invariant-loop-block
invariant-loop-block l = l.keys.items ≡ map (first_key l.key_length) (take l.block-index l.blocks)
