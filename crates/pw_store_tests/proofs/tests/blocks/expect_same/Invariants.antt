use Rattle.std.proofs.Common.{◌≡◌}
use Rattle.pw_store_tests.proofs.tests.blocks.expect_same.Given as goal

-- the keys of both files have two bytes
abbrev pub invariant-loop-row : goal.invariant-loop-row
invariant-loop-row g l = (l.file.key ≡ 2) × (l.plain.key ≡ 2)
