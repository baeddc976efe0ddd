-- The lines of the units so far.
use Rattle.std.proofs.Common.{◌≡◌, take}
use Rattle.pw_group_commit.specs.Lines.{lines_of}
use Rattle.pw_group_commit.proofs.lines.lines_of.Given as goal

abbrev pub invariant-loop-unit : goal.invariant-loop-unit
invariant-loop-unit l = l.text ≡ lines_of l.names (take l.unit-index l.units)
