use Rattle.std.proofs.Common.{◌∙◌, ap, subst, sym}
use Rattle.pw_world_model.specs.Worlds.{IsDiscOf}
use Rattle.pw_tmf.specs.Starting.{told_at_start}
use Rattle.pw_world_model.proofs.Starts.{starts}
use Rattle.pw_status.proofs.Beginning.{begun-seen, watch-begun}
use Rattle.pw_status.proofs.watch.Watch.new.Goals as goal

pub new-requires-clause-disc : goal.new-requires-clause-disc
new-requires-clause-disc c κs =
    let system = c.into_parts-system.result.0 in
    let script = c.into_parts-system.result.1.lines in
    let same = c.system.ensures.system ∙ sym c.into_parts-system.ensures.system in
    subst (IsDiscOf system script) (sym (c.in-Ok.ensures.disc ∙ ap told_at_start same)) (starts system script)

pub invariant_of-result : goal.invariant_of-result
invariant_of-result c =
    let same = c.system.ensures.system ∙ sym c.into_parts-system.ensures.system in
    let tally = rw same at c.in-Ok.ensures.tally in
    let count = rw same at c.in-Ok.ensures.count in
    watch-begun c.in_ok-world.world c.into_parts-system.result.0 c.into_parts-system.result.1.lines _ c.in_ok-world.ensures
    _ _ tally count c.in-Ok.ensures.none

pub returns : goal.returns
returns c =
    rw (← c.into_parts-system.ensures.system, ← c.into_parts-system.ensures.script)
    (begun-seen c.in_ok-world.world c.into_parts-system.result.0 c.into_parts-system.result.1.lines _ c.in_ok-world.ensures)
