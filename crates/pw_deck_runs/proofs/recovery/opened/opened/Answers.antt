use Rattle.std.proofs.Common.{ap}
use Rattle.pw_deck_runs.proofs.Starts.{no-stop}
use Rattle.pw_volume.specs.MemDisk.{life_by}
use Rattle.pw_deck_runs.proofs.recovery.opened.opened.Goals as goal

pub returns-in-Ok-clause-lasts : goal.returns-in-Ok-clause-lasts
returns-in-Ok-clause-lasts c =
    no-stop c.in-Ok.trail.log.disk.left (c.in-Ok.ensures.endless (ap life_by c.requires.lasts))
