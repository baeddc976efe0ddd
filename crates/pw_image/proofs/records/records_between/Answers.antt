-- The last records are what is left.
use Rattle.std.proofs.Common.{◌*◌, take, sym, ap, ◌∙◌, arith}
use Rattle.std.proofs.lemmas.List.{take_all}
use Rattle.pw_image.proofs.records.records_between.Goals as goal

pub returns-then-rest-len : goal.returns-then-rest-len
returns-then-rest-len c =
    let bytes = 64 * c.args.count in
    sym (take_all bytes c.split_at.result.1.now (omega arith)) ∙ ap (take bytes) c.split_at.ensures.back
