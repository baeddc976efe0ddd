use Rattle.pw_summed_disk.proofs.Damage.{finds, refuses}
use Rattle.pw_summed_disk.proofs.laws.damage_laws.Goals as goal

pub returns-clause-extents : goal.returns-clause-extents
returns-clause-extents c = finds

pub returns-clause-piece : goal.returns-clause-piece
returns-clause-piece c = refuses
