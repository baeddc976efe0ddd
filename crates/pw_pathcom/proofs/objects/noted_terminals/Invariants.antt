use Rattle.std.proofs.Common.{◌≡◌, drop}
use Rattle.std.specs.Prelude.{flat_map}
use Rattle.pw_base.specs.First.{least}
use Rattle.pw_pathcom.specs.Objects.{unknown_terminal}
use Rattle.pw_pathcom.proofs.objects.noted_terminals.Given as goal

abbrev pub invariant-loop-terminal : goal.invariant-loop-terminal
invariant-loop-terminal l =
    least l.best (flat_map (unknown_terminal l.commands l.programs) (drop l.terminal-index l.terminal-items))
    ≡ least l.fn.known (flat_map (unknown_terminal l.commands l.programs) l.terminal-items)
