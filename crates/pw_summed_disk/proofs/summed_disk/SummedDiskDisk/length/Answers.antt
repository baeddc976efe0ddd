-- The content in memory is that of what is below.
use Rattle.std.proofs.Common.{rules, ◌≡◌, length, sym, ◌∙◌, ap}
use Rattle.pw_summed_disk.proofs.Files.{file_content}
use Rattle.pw_summed_disk.proofs.summed_disk.SummedDiskDisk.length.Goals as goal

pub returns-clause-length : goal.returns-clause-length
returns-clause-length g c =
    let own = c.args.self.now in
    let keeps = own.keeps c.in_ok-admit.ensures.goes in
    let size : c.len.result ≡ length own.bytes.items = search rules in
    size ∙ ap length (sym (file_content _ _ _ _ keeps.file))
