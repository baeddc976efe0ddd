use Rattle.pw_summed_disk.proofs.summed_disk.SummedDisk.know_whole.Goals as goal

pub returns : goal.returns
returns g c = c.args.self.now.whole
