use Rattle.std.proofs.Common.{◌≡◌, ◌∙◌, ap}
use Rattle.pw_deck_runs.proofs.Starts.{first-kept, life-calls, life-endless, stands-stopping, told-counted, told-first, whole-first}
use Rattle.pw_deck_runs.specs.recovery.Kept.{trail_state}
use Rattle.pw_tmf.specs.Starting.{told_at_start}
use Rattle.pw_tmf.specs.Tmf.{TmfState, told_of}
use Rattle.pw_tmf.specs.Told.{Told}
use Rattle.pw_trail.specs.Format.{units_in}
use Rattle.pw_volume.specs.MemDisk.{MemDiskState}
use Rattle.pw_deck_runs.proofs.recovery.start.start.Goals as goal

pub opened-requires-clause-whole : goal.opened-requires-clause-whole
opened-requires-clause-whole c = whole-first c.args.system.now.files c.in_ok-disk.disk.bytes c.in_ok-disk.ensures.bytes

pub returns-then-at-eq0 : goal.returns-then-at-eq0
returns-then-at-eq0 c =
    let system = c.args.system.now in
    let trail = c.in_ok-trail.trail in
    let opens = c.in_ok-trail.ensures in
    let told : told_of trail.tmf ≡ told_at_start system =
    told-first system c.in_ok-disk.disk.bytes (told_of trail.tmf) c.in_ok-disk.ensures.bytes opens.read in
    record {
      told = told-counted system (told_of trail.tmf) trail.faults told opens.faults;
      files = opens.files;
      life = life-endless c.args.at trail.log.disk.left c.if-at-eq0.true opens.lasts;
      kept =
          first-kept
          (trail_state trail.log.files trail.log.disk trail.log.is_broken trail.faults trail.tmf)
          system.files c.in_ok-disk.disk.bytes c.in_ok-disk.ensures.bytes opens.stands opens.faults (ap (λ (t : Told). t.commits) told);
    }

pub returns : goal.returns
returns c =
    let system = c.args.system.now in
    let trail = c.in_ok-trail.trail in
    let opens = c.in_ok-trail.ensures in
    let next = c.stopping.result in
    let stops = c.stopping.ensures in
    let told : told_of next.tmf ≡ told_at_start system =
    ap (λ (t : TmfState). told_of t) stops.tmf
    ∙ told-first system c.in_ok-disk.disk.bytes (told_of trail.tmf) c.in_ok-disk.ensures.bytes opens.read in
    record {
      told = told-counted system (told_of next.tmf) next.faults told (stops.faults ∙ opens.faults);
      files = stops.files ∙ opens.files;
      life = life-calls c.args.at next.log.disk.left _ c.if-at-eq0.false c.from.ensures (ap (λ (d : MemDiskState). d.left) stops.disk);
      kept =
          first-kept
          (trail_state next.log.files next.log.disk next.log.is_broken next.faults next.tmf)
          system.files c.in_ok-disk.disk.bytes c.in_ok-disk.ensures.bytes
          (stands-stopping trail.log.files next.log.files trail.log.disk next.log.disk trail.log.is_broken next.log.is_broken _
          (units_in system.files c.in_ok-disk.disk.bytes) stops.files stops.disk stops.goes opens.stands)
          (stops.faults ∙ opens.faults) (ap (λ (t : Told). t.commits) told);
    }
