use Rattle.std.proofs.Common.{length, rules}
use Rattle.pw_file_disk.proofs.Images.{write_closes, write_made, write_stays}
use Rattle.pw_file_disk.proofs.file_disk.FileDiskDisk.write_at.Goals as goal

pub returns-in_err-admit-clause-images : goal.returns-in_err-admit-clause-images
returns-in_err-admit-clause-images g c =
    write_stays c.args.at (length c.args.piece.now) c.args.self.now _ _ _ _ (search rules) (search rules) (search rules) (search rules)

pub returns-in_err-noted-clause-images : goal.returns-in_err-noted-clause-images
returns-in_err-noted-clause-images g c =
    write_stays c.args.at (length c.args.piece.now) c.args.self.now _ _ _ _ (search rules) (search rules) (search rules) (search rules)

pub returns-in_err-overwrite-clause-images : goal.returns-in_err-overwrite-clause-images
returns-in_err-overwrite-clause-images g c =
    write_closes c.args.at (length c.args.piece.now) c.args.self.now _ _ _ _ (search rules) (search rules) (search rules)

pub returns-in_err-noted-2-clause-images : goal.returns-in_err-noted-2-clause-images
returns-in_err-noted-2-clause-images g c =
    write_made c.args.at c.args.piece.now c.args.self.now _ _ _ (search rules) (search rules) (search rules)

pub returns-clause-images : goal.returns-clause-images
returns-clause-images g c = write_made c.args.at c.args.piece.now c.args.self.now _ _ _ (search rules) (search rules) (search rules)
