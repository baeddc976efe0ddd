-- What the statements so far have, with what those that are left have, is all.
use Rattle.std.proofs.Common.{◌≡◌, drop}
use Rattle.std.specs.List.{flat_map}
use Rattle.pw_names.specs.Order.{first}
use Rattle.pw_names.specs.Faults.{faults}
use Rattle.pw_names.proofs.scope.NameScope.+statements.Given as goal

abbrev pub invariant-statements-loop-statement : goal.invariant-statements-loop-statement
invariant-statements-loop-statement l =
    first l.found (flat_map (faults l.self) (drop l.statement-index l.statements)) ≡ first l.fn.known (flat_map (faults l.self) l.statements)
