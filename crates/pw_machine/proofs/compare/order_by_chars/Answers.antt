-- The first characters that differ decide.
use Rattle.std.proofs.Common.{◌<◌, ◌≤◌, sym, ◌∙◌, arith}
use Rattle.pw_code_meaning.specs.Reading.{value_in}
use Rattle.pw_machine.specs.Beside.{size_beside}
use Rattle.pw_machine.specs.Views.{taken_by}
use Rattle.pw_machine.proofs.BesideLemmas.{order_start, order_differs, order_goes_on, order_end}
use Rattle.pw_machine.proofs.compare.order_by_chars.Goals as goal

pub returns-then-one-two : goal.returns-then-one-two
returns-then-one-two c =
    let a = value_in c.args.storage.now (taken_by c.args.left.now c.args.a) in
    let b = value_in c.args.storage.now (taken_by c.args.right.now c.args.b) in
    let within : c.loop-place.place < size_beside a b = omega (arith, c.size_beside-size.ensures, c.loop-place-test.true) in
    order_differs a b c.loop-place.place c.char_beside-one.result c.char_beside-two.result c.cmp.result within c.char_beside-one.ensures c.char_beside-two.ensures c.if-one-two.true c.cmp.ensures
    ∙ sym c.loop-place.invariant ∙ order_start a b

pub loop-place-preserved : goal.loop-place-preserved
loop-place-preserved c =
    let a = value_in c.args.storage.now (taken_by c.args.left.now c.args.a) in
    let b = value_in c.args.storage.now (taken_by c.args.right.now c.args.b) in
    let within : c.loop-place.place < size_beside a b = omega (arith, c.size_beside-size.ensures, c.loop-place-test.true) in
    c.loop-place.invariant
    ∙ order_goes_on a b c.loop-place.place c.char_beside-one.result c.char_beside-two.result within c.char_beside-one.ensures c.char_beside-two.ensures c.if-one-two.false

pub returns : goal.returns
returns c =
    let a = value_in c.args.storage.now (taken_by c.args.left.now c.args.a) in
    let b = value_in c.args.storage.now (taken_by c.args.right.now c.args.b) in
    let past : size_beside a b ≤ c.loop-place.place = omega (arith, c.size_beside-size.ensures, c.loop-place-test.false) in
    sym (order_end a b c.loop-place.place past) ∙ sym c.loop-place.invariant ∙ order_start a b
