use Rattle.std.proofs.Common.{rules}
use Rattle.pw_volume.proofs.Tears.{cut_lost, cut_made}
use Rattle.pw_volume.proofs.mem_disk.MemDiskDisk.cut.Goals as goal

pub returns-in_err-admit-clause-images : goal.returns-in_err-admit-clause-images
returns-in_err-admit-clause-images c = cut_lost c.args.length c.args.self.now _ _ (search rules) (search rules)

pub returns-clause-images : goal.returns-clause-images
returns-clause-images c = cut_made c.args.length c.args.self.now _ _ (search rules) (search rules)
