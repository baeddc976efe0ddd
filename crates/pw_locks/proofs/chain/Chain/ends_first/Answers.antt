use Rattle.std.proofs.Common.{sym, ◌∙◌}
use Rattle.pw_locks.proofs.Chaining.{first-from}
use Rattle.pw_locks.proofs.chain.Chain.ends_first.Goals as goal

pub returns-in-Some : goal.returns-in-Some
returns-in-Some c = λ yes.
    let part = rw c.in-Some.ensures.steps at (c.range-later.ensures.in_range tt) in
    first-from c.args.self.now.runs c.args.self.now.rising c.args.low.now c.in-Some.field-0-0.now c.args.high.now c.in-Some.run'.now part.1.1 (sym c.ends_by.ensures ∙ yes)
    (λ q above there. part.2 q (above, tt) there)
