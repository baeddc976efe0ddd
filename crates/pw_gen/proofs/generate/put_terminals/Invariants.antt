use Rattle.std.proofs.Common.{◌≡◌, ◌++◌, ◌+◌, ◌-◌}
use Rattle.pw_gen.specs.Generated.{text_of, terminals_from}
use Rattle.pw_gen.proofs.generate.put_terminals.Given as goal

abbrev pub invariant-loop-number : goal.invariant-loop-number
invariant-loop-number l = l.text ++ text_of (terminals_from (l.terminals - l.number) (l.number + 1)) ≡ l.initial.text ++ text_of (terminals_from l.terminals 1)
