use Rattle.std.proofs.lemmas.List.Edits.{map_over_more}
use Rattle.pw_pathcom.specs.Reading.{start_class}
use Rattle.pw_pathcom.proofs.reading.start_classes.Goals as goal

pub loop-class-preserved : goal.loop-class-preserved
loop-class-preserved c =
    rw (c.start.ensures, ← c.class-item.is)
    (map_over_more (start_class c.args.line c.args.name.now) c.deref_mut-class-items.result.now c.loop-class.class-items c.loop-class.class-index c.class-item.result
    c.loop-class-test.true c.loop-class.invariant c.class-item.is)
