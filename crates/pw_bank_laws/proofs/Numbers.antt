-- Numbers in the items of the bank.
use Rattle.std.proofs.Common.{◌≡◌, ℕ, ◌+◌, false, true, List, length, Some, ℤ, pos, ◌+ℤ◌, ◌*ℤ◌, refl, ap, ◌∙◌, arith}
use Rattle.std.proofs.lemmas.Int.{ints}
use Rattle.pw_number.specs.Arithmetic.{sized, sum}
use Rattle.pw_picture.specs.declared.picture.Picture.{Picture}
use Rattle.pw_picture.specs.declared.picture.Picture.TheVariants.{Number as NumberPicture}
use Rattle.pw_picture.specs.Stored.{read_of, value_of}
use Rattle.pw_program_laws.proofs.Amounts.{stored-value, times-one, units_in}
use Rattle.pw_program_laws.specs.Meets.{received}

-- nine digits with two places, and seven of an amount with a sign
abbrev pub nine : Picture
nine = NumberPicture 9 2 false

abbrev pub seven : Picture
seven = NumberPicture 7 2 true

-- and three of a number of lines
abbrev pub three : Picture
three = NumberPicture 3 0 false

-- an amount is added to a balance
pub added-balance : (balance amount chars : List ℕ)
    → received (Some nine) (sized (sum (read_of nine balance) (read_of seven amount))) ≡ Some chars
    → (length chars ≡ 9) × (pos (value_of 0 chars) ≡ pos (value_of 0 balance) +ℤ units_in amount)
added-balance balance amount chars e =
    let both = stored-value 9 2 (sum (read_of nine balance) (read_of seven amount)) refl chars e in (
      both.0,
      both.1
          ∙ ap (λ z. z +ℤ (units_in amount *ℤ pos 1)) (times-one (pos (value_of 0 balance)))
          ∙ ap (λ z. pos (value_of 0 balance) +ℤ z) (times-one (units_in amount)),
    )

-- the sum of all follows one balance
pub sum-follows : (before after old new : ℕ) (amount : ℤ) → after + old ≡ before + new → pos new ≡ pos old +ℤ amount → pos after ≡ pos before +ℤ amount
sum-follows before after old new amount whole one = omega (arith, ints, whole, one)
