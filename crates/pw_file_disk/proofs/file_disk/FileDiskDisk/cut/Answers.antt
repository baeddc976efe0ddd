use Rattle.std.proofs.Common.{rules}
use Rattle.pw_file_disk.proofs.Images.{cut_made, cut_stays}
use Rattle.pw_file_disk.proofs.file_disk.FileDiskDisk.cut.Goals as goal

pub returns-in_err-admit-clause-images : goal.returns-in_err-admit-clause-images
returns-in_err-admit-clause-images g c = cut_stays c.args.length c.args.self.now _ _ _ _ (search rules) (search rules) (search rules) (search rules)

pub returns-in_err-noted-clause-images : goal.returns-in_err-noted-clause-images
returns-in_err-noted-clause-images g c = cut_stays c.args.length c.args.self.now _ _ _ _ (search rules) (search rules) (search rules) (search rules)

pub returns-clause-images : goal.returns-clause-images
returns-clause-images g c = cut_made c.args.length c.args.self.now _ _ _ (search rules) (search rules) (search rules)
