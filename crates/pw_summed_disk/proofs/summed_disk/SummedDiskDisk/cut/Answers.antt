-- What a cut below leaves.
use Rattle.std.proofs.Common.{rules, ◌≡◌, ◌+◌, take, sym, ◌∙◌, ap, refl}
use Rattle.pw_volume.specs.Crash.{Shortened}
use Rattle.pw_summed_disk.specs.Summed.{content}
use Rattle.pw_summed_disk.proofs.Files.{file_content}
use Rattle.pw_volume.proofs.Tears.{uncut}
use Rattle.pw_summed_disk.proofs.Images.{stays, step_images, step_whole}
use Rattle.pw_summed_disk.proofs.Plans.{cut_left, cut_made}
use Rattle.pw_summed_disk.proofs.summed_disk.SummedDiskDisk.cut.Goals as goal

pub returns-in_err-admit_change-clause-images : goal.returns-in_err-admit_change-clause-images
returns-in_err-admit_change-clause-images g c = stays (Shortened c.args.length) (uncut c.args.length) (g.P.Disk.may_leave c.args.self.now.disk)

pub returns-then-length-self-clause-images : goal.returns-then-length-self-clause-images
returns-then-length-self-clause-images g c = stays (Shortened c.args.length) (uncut c.args.length) (g.P.Disk.may_leave c.args.self.now.disk)

pub invariant_of-self-in-Ok : goal.invariant_of-self-in-Ok
invariant_of-self-in-Ok g c =
    let own = c.args.self.now in
    let k = own.keeps c.in_ok-admit_change.ensures.goes in
    let only = k.synced c.in_ok-admit_change.ensures.synced in
    let end_is : c.args.length ≡ own.standing.end + 1 = search rules in
    let is : content (g.P.Disk.bytes own.disk) ≡ own.bytes.items = file_content _ _ _ _ k.file in
    record {
      whole = step_whole (Shortened (own.standing.gate + 4)) (Shortened c.args.length) (g.P.Disk.may_leave own.disk) (g.P.Disk.may_leave c.cut.new.self) own.bytes.items (g.P.Disk.bytes own.disk)
          is only c.cut.ensures.images
          (λ image. cut_left own.standing own.bytes.items (g.P.Disk.bytes own.disk) k.file c.args.length (own.standing.gate + 4) image end_is refl);
      keeps = λ e. cut_made own.standing own.bytes.items (g.P.Disk.bytes own.disk) k.file c.args.length (own.standing.gate + 4) (g.P.Disk.bytes c.cut.new.self) c.truncate.new.self.items
          (g.P.Disk.may_leave c.cut.new.self) end_is refl k.fits c.in-Ok.ensures.cut c.truncate.ensures.items;
    }

pub invariant_of-self-in-Err : goal.invariant_of-self-in-Err
invariant_of-self-in-Err g c =
    let own = c.args.self.now in
    let k = own.keeps c.in_ok-admit_change.ensures.goes in
    let only = k.synced c.in_ok-admit_change.ensures.synced in
    let end_is : c.args.length ≡ own.standing.end + 1 = search rules in
    let is : content (g.P.Disk.bytes own.disk) ≡ own.bytes.items = file_content _ _ _ _ k.file in
    record {
      whole = step_whole (Shortened (own.standing.gate + 4)) (Shortened c.args.length) (g.P.Disk.may_leave own.disk) (g.P.Disk.may_leave c.cut.new.self) own.bytes.items (g.P.Disk.bytes own.disk)
          is only c.cut.ensures.images
          (λ image. cut_left own.standing own.bytes.items (g.P.Disk.bytes own.disk) k.file c.args.length (own.standing.gate + 4) image end_is refl);
      keeps = λ e. absurd cc;
    }

pub returns-in-Ok-clause-cut : goal.returns-in-Ok-clause-cut
returns-in-Ok-clause-cut g c =
    let own = c.args.self.now in
    let k = own.keeps c.in_ok-admit_change.ensures.goes in
    let end_is : c.args.length ≡ own.standing.end + 1 = search rules in
    let is : content (g.P.Disk.bytes own.disk) ≡ own.bytes.items = file_content _ _ _ _ k.file in
    let made = cut_made own.standing own.bytes.items (g.P.Disk.bytes own.disk) k.file c.args.length (own.standing.gate + 4) (g.P.Disk.bytes c.cut.new.self) c.truncate.new.self.items
    (g.P.Disk.may_leave c.cut.new.self) end_is refl k.fits c.in-Ok.ensures.cut c.truncate.ensures.items in
    file_content _ _ _ _ made.file ∙ c.truncate.ensures.items ∙ ap (take c.args.length) (sym is)

pub returns-in-Ok-clause-images : goal.returns-in-Ok-clause-images
returns-in-Ok-clause-images g c =
    let own = c.args.self.now in
    let k = own.keeps c.in_ok-admit_change.ensures.goes in
    let only = k.synced c.in_ok-admit_change.ensures.synced in
    let end_is : c.args.length ≡ own.standing.end + 1 = search rules in
    let is : content (g.P.Disk.bytes own.disk) ≡ own.bytes.items = file_content _ _ _ _ k.file in
    step_images (Shortened (own.standing.gate + 4)) (Shortened c.args.length) (g.P.Disk.may_leave own.disk) (g.P.Disk.may_leave c.cut.new.self) own.bytes.items (g.P.Disk.bytes own.disk)
    is only c.cut.ensures.images
    (λ image. cut_left own.standing own.bytes.items (g.P.Disk.bytes own.disk) k.file c.args.length (own.standing.gate + 4) image end_is refl)

pub returns-in-Err-clause-images : goal.returns-in-Err-clause-images
returns-in-Err-clause-images g c =
    let own = c.args.self.now in
    let k = own.keeps c.in_ok-admit_change.ensures.goes in
    let only = k.synced c.in_ok-admit_change.ensures.synced in
    let end_is : c.args.length ≡ own.standing.end + 1 = search rules in
    let is : content (g.P.Disk.bytes own.disk) ≡ own.bytes.items = file_content _ _ _ _ k.file in
    step_images (Shortened (own.standing.gate + 4)) (Shortened c.args.length) (g.P.Disk.may_leave own.disk) (g.P.Disk.may_leave c.cut.new.self) own.bytes.items (g.P.Disk.bytes own.disk)
    is only c.cut.ensures.images
    (λ image. cut_left own.standing own.bytes.items (g.P.Disk.bytes own.disk) k.file c.args.length (own.standing.gate + 4) image end_is refl)
