-- What was found is cut behind its zero gate.
use Rattle.std.proofs.Common.{◌∙◌, inr}
use Rattle.pw_trail.proofs.Recovering.{cut_keeps, cut_recovers}
use Rattle.pw_trail.proofs.recover.recover.Goals as goal

pub returns-in_err-cut_synced-clause-images : goal.returns-in_err-cut_synced-clause-images
returns-in_err-cut_synced-clause-images g c image may =
    inr (cut_keeps c.args.files.now (g.D.Disk.bytes c.args.disk.now) (g.D.Disk.bytes c.length.new.self) (g.D.Disk.bytes c.read_units.new.disk) (g.R.Recovery.taken c.read_units.new.into) c.in_ok-end.end
    c.in_ok-end.ensures.found (c.length.ensures.bytes ∙ c.in_ok-sync.ensures.bytes) c.read_units.ensures.bytes image (c.cut_synced.ensures.images image may))

pub returns-clause-images : goal.returns-clause-images
returns-clause-images g c image may =
    inr (cut_keeps c.args.files.now (g.D.Disk.bytes c.args.disk.now) (g.D.Disk.bytes c.length.new.self) (g.D.Disk.bytes c.read_units.new.disk) (g.R.Recovery.taken c.read_units.new.into) c.in_ok-end.end
    c.in_ok-end.ensures.found (c.length.ensures.bytes ∙ c.in_ok-sync.ensures.bytes) c.read_units.ensures.bytes image (c.cut_synced.ensures.images image may))

pub returns-clause-recovered : goal.returns-clause-recovered
returns-clause-recovered g c =
    cut_recovers c.args.files.now (g.D.Disk.bytes c.args.disk.now) (g.D.Disk.bytes c.length.new.self) (g.D.Disk.bytes c.read_units.new.disk) (g.R.Recovery.taken c.read_units.new.into) c.in_ok-end.end
    c.in_ok-end.ensures.found (c.length.ensures.bytes ∙ c.in_ok-sync.ensures.bytes) c.read_units.ensures.bytes _ _ c.in_ok-cut_synced.ensures.cut c.in_ok-cut_synced.ensures.durable
