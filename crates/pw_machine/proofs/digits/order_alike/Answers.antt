-- Items of one unsigned kind compare as their digits.
use Rattle.std.proofs.Common.{◌≡◌, false, Some, sym, ap, ◌∙◌, rules}
use Rattle.std.specs.Ordering.{nat_cmp}
use Rattle.pw_picture.specs.Stored.{value_of}
use Rattle.pw_picture.specs.declared.picture.Picture.TheVariants.{Number as NumberPicture}
use Rattle.pw_code.specs.declared.operand.InstructionOperand.TheVariants.{Item}
use Rattle.pw_code_meaning.specs.Conditions.{compared, of_two}
use Rattle.pw_code_meaning.specs.Reading.{at_this_moment, chars_at, read, spot_of}
use Rattle.pw_machine.specs.Views.{registers_by, spot_by}
use Rattle.pw_machine.proofs.CountingLemmas.{spot_as_written, unsigned_picture}
use Rattle.pw_machine.proofs.DigitOrders.{order_of_items}
use Rattle.pw_machine.proofs.digits.order_alike.Goals as goal

pub returns : goal.returns
returns c =
    let storage = c.args.storage.now in
    let registers = registers_by c.args.registers in
    let one = c.in-Item-Item.one in
    let two = c.in-Item-Item.two in
    let a = spot_by c.in_ok-first.first in
    let b = spot_by c.in_ok-second.second in
    let number = c.in-Number in
    let plain : number.signed ≡ false = search rules in
    let kinds : one.kind ≡ two.kind = search rules in
    let first : Some a ≡ spot_of registers storage one = c.in_ok-first.ensures.spot in
    let second : Some b ≡ spot_of registers storage two = c.in_ok-second.ensures.spot in
    let a_is : a.picture ≡ Some (NumberPicture number.digits number.places false) =
    (spot_as_written one (at_this_moment registers storage one.at one.table) a first).0
    ∙ unsigned_picture one.kind one.size number.digits number.places number.signed number.is plain in
    let b_is : b.picture ≡ Some (NumberPicture number.digits number.places false) =
    (spot_as_written two (at_this_moment registers storage two.at two.table) b second).0
    ∙ unsigned_picture two.kind two.size number.digits number.places number.signed (sym kinds ∙ number.is) plain in
    let found : c.order_of_digits.result ≡ nat_cmp (value_of 0 (chars_at a storage)) (value_of 0 (chars_at b storage)) =
    c.order_of_digits.ensures
    ∙ ap (λ l. nat_cmp (value_of 0 l) (value_of 0 c.chars_at-2.result.now)) c.chars_at.ensures.chars
    ∙ ap (λ l. nat_cmp (value_of 0 (chars_at a storage)) (value_of 0 l)) c.chars_at-2.ensures.chars in
    order_of_items (spot_of registers storage one) (spot_of registers storage two) storage a b number.digits number.places c.order_of_digits.result first second a_is b_is found
    ∙ ap (λ o. of_two compared (read registers storage o) (read registers storage (Item two))) (sym c.in-Item-Item.is-0)
    ∙ ap (λ o. of_two compared (read registers storage c.args.left.now) (read registers storage o)) (sym c.in-Item-Item.is-1)
