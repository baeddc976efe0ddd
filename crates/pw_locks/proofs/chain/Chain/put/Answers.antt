use Rattle.std.proofs.Common.{◌≡◌, [], ◌∷◌, None, sym, ap, refl, ◌∙◌}
use Rattle.std.specs.BTreeMap.{get}
use Rattle.std.specs.Cmp.Lexicographic.{slice_cmp}
use Rattle.std.specs.Option.{option_copied_mut}
use Rattle.std.specs.Ordering.{nat_cmp}
use Rattle.pw_locks.specs.declared.run.SpanLocks.{SpanLocks}
use Rattle.pw_locks.proofs.Chaining.{rising-written, stays-written, rising-inserted, stays-inserted}
use Rattle.pw_locks.proofs.Reaching.{has-left}
use Rattle.pw_locks.proofs.chain.Chain.put.Goals as goal

pub invariant_of-self : goal.invariant_of-self
invariant_of-self c =
    let was : SpanLocks = c.in-Some.run'.now in
    let now : SpanLocks = record { high = was.high; numbers = c.push.new.self } in
    record { rising = rising-written c.args.self.now.runs (c.get_mut.follows.lender now) c.args.low.now was now c.args.self.now.rising (sym c.in-Some.ensures.value) refl (c.get_mut.follows.holds now) }

pub returns-in_err-push-clause-stays : goal.returns-in_err-push-clause-stays
returns-in_err-push-clause-stays c = λ l h n.
    let was : SpanLocks = c.in-Some.run'.now in
    let now : SpanLocks = record { high = was.high; numbers = c.push.new.self } in
    stays-written c.args.self.now.runs (c.get_mut.follows.lender now) c.args.low.now was now (sym c.in-Some.ensures.value) refl (c.get_mut.follows.holds now) l h n
    (λ there. rw c.in_err-push.ensures.items there)

pub returns-in-Some-clause-stays : goal.returns-in-Some-clause-stays
returns-in-Some-clause-stays c = λ l h n.
    let was : SpanLocks = c.in-Some.run'.now in
    let now : SpanLocks = record { high = was.high; numbers = c.push.new.self } in
    stays-written c.args.self.now.runs (c.get_mut.follows.lender now) c.args.low.now was now (sym c.in-Some.ensures.value) refl (c.get_mut.follows.holds now) l h n
    (λ there. rw c.in_ok-push.ensures.items (has-left was.numbers.items (c.args.number ∷ []) n there))

pub invariant_of-self-2 : goal.invariant_of-self-2
invariant_of-self-2 c =
    let run : SpanLocks = record { high = c.in_ok-copy_end.field-0; numbers = c.push-2.new.self } in
    record {
      rising = rising-inserted c.insert.result c.args.self.now.runs c.get_mut.follows.lender-at-none c.insert.new.self c.args.low.now c.in_ok-copy.field-0 c.args.high.now run c.args.self.now.rising c.get_mut.follows.holds-at-none c.in_ok-copy.ensures c.in_ok-copy_end.ensures c.requires c.insert.ensures.updates c.insert.ensures.err;
    }

pub returns-clause-stays : goal.returns-clause-stays
returns-clause-stays c =
    let run : SpanLocks = record { high = c.in_ok-copy_end.field-0; numbers = c.push-2.new.self } in
    let none : get (slice_cmp nat_cmp) c.args.self.now.runs c.args.low.now ≡ None = sym c.get_mut.ensures.value ∙ ap (λ found. option_copied_mut found) c.in_default.is in
    stays-inserted c.args.self.now.runs c.get_mut.follows.lender-at-none c.insert.new.self c.args.low.now c.in_ok-copy.field-0 run c.get_mut.follows.holds-at-none c.in_ok-copy.ensures none c.in_ok-insert.ensures.updates
