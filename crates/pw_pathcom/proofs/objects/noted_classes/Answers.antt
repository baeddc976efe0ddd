use Rattle.std.proofs.Common.{ap, ◌∙◌}
use Rattle.std.specs.Prelude.{flat_map}
use Rattle.pw_base.specs.First.{least}
use Rattle.pw_pathcom.specs.Objects.{unknown_class}
use Rattle.pw_pathcom.proofs.Unknowns.{one_noted, all_noted}
use Rattle.pw_pathcom.proofs.objects.noted_classes.Goals as goal

pub loop-class-preserved : goal.loop-class-preserved
loop-class-preserved c =
    let faults = unknown_class c.args.servers.now in
    one_noted faults c.as_slice-class-items.result.now c.loop-class.class-index c.class-item.result c.loop-class.best c.noted_class-best.result _
    c.loop-class-test.true (c.noted_class-best.ensures ∙ ap (λ t. least c.loop-class.best (faults t)) c.class-item.is) c.loop-class.invariant

pub returns : goal.returns
returns c =
    let faults = unknown_class c.args.servers.now in
    all_noted faults c.as_slice-class-items.result.now c.loop-class.class-index c.loop-class.best _ c.loop-class-test.false c.loop-class.invariant
    ∙ ap (λ ts. least c.args.known (flat_map faults ts)) c.as_slice-class-items.ensures
