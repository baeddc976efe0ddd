-- The moves that are left, on the storage now, give what all give.
use Rattle.std.proofs.Common.{◌≡◌, map, drop}
use Rattle.pw_code_meaning.specs.Moves.{moves}
use Rattle.pw_machine.specs.Views.{spot_by, taken_by}
use Rattle.pw_machine.proofs.statements.move_to_each.Given as goal

abbrev pub invariant-loop-target : goal.invariant-loop-target
invariant-loop-target l =
    moves (taken_by l.from l.source) (map spot_by (drop l.target-index l.targets)) l.storage
    ≡ moves (taken_by l.from l.source) (map spot_by l.targets) l.fn.storage
