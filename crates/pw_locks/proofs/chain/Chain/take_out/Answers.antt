use Rattle.std.proofs.Common.{sym, refl}
use Rattle.pw_locks.specs.declared.run.SpanLocks.{SpanLocks}
use Rattle.pw_locks.proofs.Chaining.{rising-written, stays-written, at-written, stays-removed, none-in-empty}
use Rattle.pw_locks.proofs.chain.Chain.take_out.Goals as goal

pub invariant_of-self-else-is_empty : goal.invariant_of-self-else-is_empty
invariant_of-self-else-is_empty c =
    let was : SpanLocks = c.in-Some.run'.now in
    let now : SpanLocks = record { high = was.high; numbers = c.drop_number.new.numbers } in
    record { rising = rising-written c.args.self.now.runs (c.get_mut.follows.lender now) c.args.low.now was now c.args.self.now.rising (sym c.in-Some.ensures.value) refl (c.get_mut.follows.holds now) }

pub returns-then-is_empty : goal.returns-then-is_empty
returns-then-is_empty c = λ l h n ne there.
    let was : SpanLocks = c.in-Some.run'.now in
    let now : SpanLocks = record { high = was.high; numbers = c.drop_number.new.numbers } in
    stays-removed (c.get_mut.follows.lender now) c.remove.new.self c.args.low.now now h n
    (at-written c.args.self.now.runs (c.get_mut.follows.lender now) c.args.low.now was now (sym c.in-Some.ensures.value) (c.get_mut.follows.holds now))
    (none-in-empty now.numbers n c.is_empty.result c.is_empty.ensures c.if-is_empty.true) c.remove.ensures.updates l
    (stays-written c.args.self.now.runs (c.get_mut.follows.lender now) c.args.low.now was now (sym c.in-Some.ensures.value) refl (c.get_mut.follows.holds now) l h n (c.drop_number.ensures n ne) there)

pub returns-else-is_empty : goal.returns-else-is_empty
returns-else-is_empty c = λ l h n ne.
    let was : SpanLocks = c.in-Some.run'.now in
    let now : SpanLocks = record { high = was.high; numbers = c.drop_number.new.numbers } in
    stays-written c.args.self.now.runs (c.get_mut.follows.lender now) c.args.low.now was now (sym c.in-Some.ensures.value) refl (c.get_mut.follows.holds now) l h n (c.drop_number.ensures n ne)
