-- The next change stands behind the others.
use Rattle.pw_image.proofs.Appending.{next-all, next-bytes}
use Rattle.pw_trail.specs.Body.{change_bytes}
use Rattle.pw_trail.specs.Values.{ChangeHasValues}
use Rattle.pw_trail.proofs.write.put_changes.Goals as goal

pub loop-change-preserved : goal.loop-change-preserved
loop-change-preserved c =
    let changes = c.args.changes.now in
    let i = c.loop-change.change-index in
    let change = c.change-item.result in
    record {
      bytes =
          next-bytes change_bytes ChangeHasValues c.args.made.now changes i change c.loop-change-test.true c.change-item.is
          c.loop-change.made c.put_change.new.made c.loop-change.invariant.bytes c.in_ok-put_change.ensures.bytes;
      values =
          next-all change_bytes ChangeHasValues c.args.made.now changes i change c.loop-change-test.true c.change-item.is
          c.loop-change.invariant.values c.in_ok-put_change.ensures.values;
    }
