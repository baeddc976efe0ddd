use Rattle.std.proofs.lemmas.List.Edits.{map_over_more}
use Rattle.pw_pathcom.specs.Reading.{start_tcp}
use Rattle.pw_pathcom.proofs.reading.start_tcps.Goals as goal

pub loop-tcp-preserved : goal.loop-tcp-preserved
loop-tcp-preserved c =
    rw (c.start.ensures, ← c.tcp-item.is)
    (map_over_more (start_tcp c.args.line c.args.name.now) c.deref_mut-tcp-items.result.now c.loop-tcp.tcp-items c.loop-tcp.tcp-index c.tcp-item.result
    c.loop-tcp-test.true c.loop-tcp.invariant c.tcp-item.is)
