-- The content in memory is that of what is below.
use Rattle.std.proofs.Common.{◌≡◌, ℕ, List, length, take, drop, sym, ◌∙◌, ap, arith}
use Rattle.pw_summed_disk.proofs.Files.{file_content}
use Rattle.pw_summed_disk.specs.Summed.{content}
use Rattle.pw_summed_disk.proofs.summed_disk.SummedDiskDisk.read.Goals as goal

pub read_at-requires : goal.read_at-requires
read_at-requires g c =
    let own = c.args.self.now in
    let is : content (g.P.Disk.bytes own.disk) ≡ own.bytes.items = file_content _ _ _ _ (own.keeps c.in_ok-admit.ensures.goes).file in
    let size : length (content (g.P.Disk.bytes own.disk)) ≡ length own.bytes.items = ap length is in
    grind (arith, size, c.requires)

pub returns-clause-read : goal.returns-clause-read
returns-clause-read g c =
    let own = c.args.self.now in
    let is : content (g.P.Disk.bytes own.disk) ≡ own.bytes.items = file_content _ _ _ _ (own.keeps c.in_ok-admit.ensures.goes).file in
    c.read_at.ensures ∙ ap (λ (l : List ℕ). take (length c.args.into.now) (drop c.args.at l)) (sym is)
