use Rattle.std.proofs.Common.{ap}
use Rattle.pw_deck_runs.proofs.Starts.{no-stop}
use Rattle.pw_volume.specs.MemDisk.{MemDiskState, life_by}
use Rattle.pw_deck_runs.proofs.recovery.start.formatted.Goals as goal

pub returns-in-Ok-clause-lasts : goal.returns-in-Ok-clause-lasts
returns-in-Ok-clause-lasts c =
    no-stop c.format.new.disk.left (c.format.ensures.endless (ap (λ (d : MemDiskState). life_by d.left) c.in_ok-disk.ensures))
