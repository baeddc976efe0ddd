use Rattle.std.proofs.Common.{rules, ◌<◌, length}
use Rattle.pw_records.proofs.More.{alike-at}
use Rattle.pw_records.proofs.alike.are_alike.Goals as goal

pub returns-then-not-is_alike-clause-no : goal.returns-then-not-is_alike-clause-no
returns-then-not-is_alike-clause-no c is alike =
    let low : c.loop-place.place < length c.args.files.now = search rules in
    let same =
    alike-at c.args.files.now c.args.others.now alike c.loop-place.place c.index-files-place.result c.index-others-place.result low
    c.index-files-place.is c.index-others-place.is in
    c.is_alike.ensures.no c.if-not-is_alike.true same.0 same.1
