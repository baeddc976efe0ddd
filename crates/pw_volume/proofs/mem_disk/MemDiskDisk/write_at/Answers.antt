use Rattle.std.proofs.Common.{length, rules}
use Rattle.pw_volume.proofs.Tears.{write_lost, write_made}
use Rattle.pw_volume.proofs.mem_disk.MemDiskDisk.write_at.Goals as goal

pub returns-in_err-admit-clause-images : goal.returns-in_err-admit-clause-images
returns-in_err-admit-clause-images c = write_lost c.args.at (length c.args.piece.now) c.args.self.now _ _ (search rules) (search rules)

pub returns-in_err-overwrite-clause-images : goal.returns-in_err-overwrite-clause-images
returns-in_err-overwrite-clause-images c = write_lost c.args.at (length c.args.piece.now) c.args.self.now _ _ (search rules) (search rules)

pub returns-clause-images : goal.returns-clause-images
returns-clause-images c = write_made c.args.at c.args.piece.now c.args.self.now _ _ (search rules) (search rules)
