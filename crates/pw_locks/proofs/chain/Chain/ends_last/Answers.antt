use Rattle.std.proofs.Common.{sym, ◌∙◌}
use Rattle.pw_locks.proofs.Chaining.{last-from}
use Rattle.pw_locks.proofs.chain.Chain.ends_last.Goals as goal

pub returns-in-Some : goal.returns-in-Some
returns-in-Some c = λ yes.
    let part = c.range-earlier.ensures.in_range tt in
    let here = part.3 _ _ c.in-Some.ensures.steps in
    last-from c.args.self.now.runs c.args.self.now.rising c.args.low.now c.in-Some.field-0-0.now c.args.high.now c.in-Some.run'.now here.1 (sym c.ends_by.ensures ∙ yes)
    (λ q below there. part.4 _ _ c.in-Some.ensures.steps q (tt, below) there)
