use Rattle.std.proofs.Common.{◌≡◌}
use Rattle.pw_store_tests.proofs.tests.blocks.block_file_equals_sorted_file.Given as goal

-- the keys of both files have two bytes
abbrev pub invariant-loop-shift : goal.invariant-loop-shift
invariant-loop-shift g l = (l.file.key ≡ 2) × (l.plain.key ≡ 2)
