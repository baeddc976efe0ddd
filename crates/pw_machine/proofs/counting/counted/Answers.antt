-- The receiver has the sum.
use Rattle.std.proofs.Common.{◌≡◌, ℕ, ◌+◌, ◌<◌, ◌^◌, Bool, false, Some, length, sym, ap, ◌∙◌, subst, rules}
use Rattle.std.specs.Prelude.{if◌then◌else◌}
use Rattle.pw_picture.specs.Stored.{digits_of, value_of}
use Rattle.pw_picture.specs.declared.picture.Picture.TheVariants.{Number as NumberPicture}
use Rattle.pw_terminal.specs.Shown.{written}
use Rattle.pw_code.specs.Places.{IsOperand, IsPlace}
use Rattle.pw_code_meaning.specs.Reading.{at_this_moment, chars_at, registers_of, spot_of}
use Rattle.pw_machine.specs.Views.{spot_by}
use Rattle.pw_machine.proofs.CountingLemmas.{counted_sum, spot_as_written, unsigned_picture, unsigned_size}
use Rattle.pw_machine.proofs.counting.counted.Goals as goal

pub returns-in-Some-spot_of-clause-sum : goal.returns-in-Some-spot_of-clause-sum
returns-in-Some-spot_of-clause-sum c =
    let spot = spot_by c.in-Some-spot_of.spot in
    let storage = c.args.storage.now in
    let registers = registers_of c.args.context.now in
    let place = c.in-Add-Item.place in
    let number = c.in-Number in
    let plain : number.signed ≡ false = search rules in
    let same : place ≡ c.args.arithmetic.now.receiver = search rules in
    let there : Some spot ≡ spot_of registers storage place = c.in-Some-spot_of.ensures.spot ∙ ap (λ r. spot_of r storage place) c.of.ensures in
    let item : IsPlace (length storage) place = subst (λ o. IsOperand (length storage) o) c.in-Add-Item.is-1 c.requires.second in
    let written_as = spot_as_written place (at_this_moment registers storage place.at place.table) spot there in
    let size = unsigned_size place.kind place.size number.digits number.places number.signed number.is plain item.picture in
    let picture : spot.picture ≡ Some (NumberPicture number.digits number.places false) =
    written_as.0 ∙ unsigned_picture place.kind place.size number.digits number.places number.signed number.is plain in
    let long : number.digits ≡ c.in-Some-spot_of.spot.size = size.1 ∙ sym written_as.1 in
    λ done.
    let sum = λ (n : ℕ). written spot.at (digits_of n (value_of 0 (chars_at spot storage) + c.in-Some.units)) storage in
    let made : c.count_in.new.storage ≡ sum number.digits =
    c.count_in.ensures.sum ∙ ap (λ (b : Bool). if b then sum c.in-Some-spot_of.spot.size else storage) done ∙ ap sum (sym long) in
    let below : value_of 0 (chars_at spot storage) + c.in-Some.units < 10 ^ number.digits =
    subst (λ n. value_of 0 (chars_at spot storage) + c.in-Some.units < 10 ^ n) (sym long) (c.count_in.ensures.fits done) in
    counted_sum registers storage c.count_in.new.storage c.args.arithmetic.now place spot number.digits number.places c.in-Some.units
    c.in-Add-Item.is-0 c.in-Add-Item.is-1 there (there ∙ ap (λ p. spot_of registers storage p) same)
    picture size.0
    (c.in-Some.ensures.number (length storage) registers storage c.requires.first) below made
