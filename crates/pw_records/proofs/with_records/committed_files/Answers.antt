use Rattle.std.proofs.Common.{rules, ◌∙◌, ◌<◌, length}
use Rattle.pw_records.proofs.More.{pushed}
use Rattle.pw_tmf.specs.Committed.{committed}
use Rattle.pw_records.proofs.with_records.committed_files.Goals as goal

pub loop-number-preserved : goal.loop-number-preserved
loop-number-preserved g c =
    let low : c.loop-number.number < length c.args.files.now = search rules in
    pushed c.args.files.now (committed (g.D.Disc.told c.args.disc.now)) c.loop-number.number c.index-files-number.result
    c.in_ok-copy.field-0 c.from_vec.result c.loop-number.copies c.push.new.self low c.loop-number.invariant
    c.in_ok-push.ensures.ok c.in_ok-copy.ensures (c.from_vec.ensures ∙ c.in_ok-committed.ensures) c.index-files-number.is
