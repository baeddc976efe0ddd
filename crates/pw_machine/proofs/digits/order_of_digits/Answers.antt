-- The first digits that differ decide.
use Rattle.std.proofs.Common.{◌≡◌, suc, ◌+◌, ◌<◌, true, false, length, sym, ap, ◌∙◌, arith}
use Rattle.std.specs.Ordering.{is_ne}
use Rattle.pw_machine.proofs.DigitOrders.{digits_alike, digits_differ, order_from}
use Rattle.pw_machine.proofs.digits.order_of_digits.Goals as goal

pub returns-then-is_ne : goal.returns-then-is_ne
returns-then-is_ne c =
    let found = c.order_of_two-found.result in
    let within : c.loop-place.place < length c.args.one.now = omega (arith, c.loop-place-test.true) in
    let differ : is_ne found ≡ true = sym c.is_ne.ensures ∙ c.if-is_ne.true in
    digits_differ c.args.one.now c.args.two.now c.loop-place.place found within c.requires c.order_of_two-found.ensures differ ∙ c.loop-place.invariant

pub loop-place-preserved : goal.loop-place-preserved
loop-place-preserved c =
    let found = c.order_of_two-found.result in
    let within : c.loop-place.place < length c.args.one.now = omega (arith, c.loop-place-test.true) in
    let same : is_ne found ≡ false = sym c.is_ne.ensures ∙ c.if-is_ne.false in
    let next : c.loop-place.place + 1 ≡ suc c.loop-place.place = omega arith in
    ap (λ n. order_from c.args.one.now c.args.two.now n) next
    ∙ digits_alike c.args.one.now c.args.two.now c.loop-place.place found within c.requires c.order_of_two-found.ensures same ∙ c.loop-place.invariant
