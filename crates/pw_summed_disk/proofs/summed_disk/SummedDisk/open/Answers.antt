-- What was read is kept.
use Rattle.std.proofs.Common.{sym, ◌∙◌, ap, refl}
use Rattle.pw_summed_disk.specs.Extents.{content_of}
use Rattle.pw_summed_disk.proofs.Files.{file_reads}
use Rattle.pw_summed_disk.proofs.Plans.{opened_keeps, opened_whole}
use Rattle.pw_summed_disk.proofs.summed_disk.SummedDisk.open.Goals as goal

pub invariant_of-result : goal.invariant_of-result
invariant_of-result g c = record {
  whole = opened_whole _ _ _ _ _ c.in-Ok.ensures.file c.in-Ok.ensures.durable;
  keeps = λ e. opened_keeps _ _ _ _ _ c.in-Ok.ensures.file c.in-Ok.ensures.durable c.in-Ok.ensures.small;
}

pub returns-in-Ok-clause-opened : goal.returns-in-Ok-clause-opened
returns-in-Ok-clause-opened g c =
    (ap content_of (sym c.in-Ok.ensures.bytes) ∙ file_reads _ _ _ _ c.in-Ok.ensures.file, c.in-Ok.ensures.bytes, refl)
