use Rattle.std.proofs.Common.{ap, ◌∙◌}
use Rattle.std.specs.Prelude.{flat_map}
use Rattle.pw_base.specs.First.{least}
use Rattle.pw_pathcom.specs.Objects.{unknown_terminal}
use Rattle.pw_pathcom.proofs.Unknowns.{one_noted, all_noted}
use Rattle.pw_pathcom.proofs.objects.noted_terminals.Goals as goal

pub loop-terminal-preserved : goal.loop-terminal-preserved
loop-terminal-preserved c =
    let faults = unknown_terminal c.args.commands.now c.args.programs.now in
    one_noted faults c.as_slice-terminal-items.result.now c.loop-terminal.terminal-index c.terminal-item.result c.loop-terminal.best c.noted_terminal-best.result _
    c.loop-terminal-test.true (c.noted_terminal-best.ensures ∙ ap (λ t. least c.loop-terminal.best (faults t)) c.terminal-item.is) c.loop-terminal.invariant

pub returns : goal.returns
returns c =
    let faults = unknown_terminal c.args.commands.now c.args.programs.now in
    all_noted faults c.as_slice-terminal-items.result.now c.loop-terminal.terminal-index c.loop-terminal.best _ c.loop-terminal-test.false c.loop-terminal.invariant
    ∙ ap (λ ts. least c.args.known (flat_map faults ts)) c.as_slice-terminal-items.ensures
