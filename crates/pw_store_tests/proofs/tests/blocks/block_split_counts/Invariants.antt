use Rattle.std.proofs.Common.{◌≡◌}
use Rattle.pw_store_tests.proofs.tests.blocks.block_split_counts.Given as goal

-- the keys of the file have two bytes
abbrev pub invariant-loop-row : goal.invariant-loop-row
invariant-loop-row g l = l.file.key ≡ 2
