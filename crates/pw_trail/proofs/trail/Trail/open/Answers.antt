use Rattle.std.proofs.Common.{◌≡◌, ◌∙◌, List, ap, sym, subst}
use Rattle.pw_code.specs.declared.file.FileInfo.{FileInfo}
use Rattle.pw_tmf.specs.Tmf.{told_of}
use Rattle.pw_tmf.specs.Told.{Told}
use Rattle.pw_trail.specs.Committing.{LeadsTo}
use Rattle.pw_trail.specs.Files.{files_read}
use Rattle.pw_trail.specs.Format.{units_in}
use Rattle.pw_trail.specs.Restoring.{HasFiles}
use Rattle.pw_trail.proofs.Keeping.{opened}
use Rattle.pw_trail.proofs.Opening.{opened-leads, opened-of}
use Rattle.pw_trail.proofs.trail.Trail.open.Goals as goal

pub invariant_of-result : goal.invariant_of-result
invariant_of-result g c =
    let system = c.args.system.now in
    let told : Told = told_of c.in_ok-log.tmf in
    let log = c.in_ok-log.ensures.log in
    let files : c.in_ok-log.log.files ≡ system.files = log.1 in
    let now = g.D.Disk.bytes c.in_ok-log.log.disk in
    record {
      of = subst (λ (fs : List FileInfo). HasFiles fs told) (sym files) (opened-of system (g.D.Disk.bytes c.args.disk) told c.in_ok-log.ensures.tmf);
      orderly = opened system (g.D.Disk.bytes c.args.disk) told c.in_ok-log.ensures.tmf;
      leads = λ goes.
          subst (λ (fs : List FileInfo). LeadsTo fs told now) (sym files)
          (ap (files_read system.files) log.2 ∙ opened-leads system (g.D.Disk.bytes c.args.disk) told c.in_ok-log.ensures.tmf);
      settled =
          let disk = c.in_ok-log.log.disk in
          let same : g.D.Disk.settled disk ≡ now = c.know_settled.ensures log.0 in
          subst (λ (fs : List FileInfo). LeadsTo fs told (g.D.Disk.settled disk)) (sym files)
          (ap (λ bytes. files_read system.files (units_in system.files bytes)) same
          ∙ (ap (files_read system.files) log.2 ∙ opened-leads system (g.D.Disk.bytes c.args.disk) told c.in_ok-log.ensures.tmf));
    }
