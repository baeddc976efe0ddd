-- What was appended is kept.
use Rattle.pw_trail.proofs.Logging.{keeps_of, kept, synced_of}
use Rattle.pw_trail.proofs.log.TrailLog.append.Goals as goal

pub invariant_of-self : goal.invariant_of-self
invariant_of-self g c =
    let old = c.args.self.now in
    let files = old.files in
    record {
      sound = λ goes.
          let k = old.sound goes in
          keeps_of files _ _ c.in-Ok.end _ (c.in-Ok.ensures.stored files (kept files _ _ old.end k) (synced_of files _ _ old.end k) c.requires);
    }
