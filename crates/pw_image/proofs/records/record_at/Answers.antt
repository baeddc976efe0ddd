-- The last record is what is left.
use Rattle.std.proofs.Common.{◌<◌, take, length, sym, ap, ◌∙◌, arith}
use Rattle.std.proofs.lemmas.List.{take_all}
use Rattle.pw_image.proofs.records.record_at.Goals as goal

pub returns-then-rest-lt-RECORD : goal.returns-then-rest-lt-RECORD
returns-then-rest-lt-RECORD c =
    let short : length c.split_at.result.1.now < 64 = c.if-rest-lt-RECORD.true in
    sym (take_all 64 c.split_at.result.1.now (omega arith)) ∙ ap (λ l. take 64 l) c.split_at.ensures.back
