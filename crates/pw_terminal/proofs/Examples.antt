-- Fields and values that were worked out by hand.
use Rattle.std.proofs.Common.{◌≡◌, true, false, Some, None, refl}
use Rattle.std.specs.Prelude.{codes}
use Rattle.pw_picture.specs.declared.picture.Picture.TheVariants.{Number, Edited}
use Rattle.pw_code.specs.declared.field.FieldKind.{FieldKind}
use Rattle.pw_code.specs.declared.field.FieldKind.TheVariants.{Item}
use Rattle.pw_terminal.specs.Shown.{as_shown, field_text, cell_place}
use Rattle.pw_terminal.specs.Entries.{digits_in, is_value_for}

-- column 1 of row 24 is the cell 1,840
row_24 : cell_place 24 1 ≡ 1840
row_24 = refl

-- -1,234.50 in ZZ,ZZ9.99-, and 123.45 in 9(3)
money : as_shown (Edited (codes "ZZ,ZZ9.99-")) (Number 7 2 true) (codes "-0123450") ≡ codes " 1,234.50-"
money = refl

whole : as_shown (Number 3 0 false) (Number 5 2 false) (codes "12345") ≡ codes "123"
whole = refl

-- the item from the second character on, by USING and by TO
by_using : field_text (codes "AB12CD") (Item (Number 4 0 false) 2 (Number 2 0 false) true) ≡ codes "0012"
by_using = refl

by_to : field_text (codes "AB12CD") (Item (Number 4 0 false) 2 (Number 2 0 false) false) ≡ codes "    "
by_to = refl

-- numbers have digits before and behind their point
plus_five : digits_in (codes "+5") ≡ Some (1, 0)
plus_five = refl

half : digits_in (codes ".5") ≡ Some (0, 1)
half = refl

five_point : digits_in (codes "5.") ≡ Some (1, 0)
five_point = refl

two_points : digits_in (codes "1.2.3") ≡ None
two_points = refl

-- a field of four digits
four_digits : FieldKind
four_digits = Item (Number 4 0 false) 0 (Number 4 0 false) true

takes_five : is_value_for four_digits (codes "5.") ≡ true
unfolding four_digits
takes_five = refl

too_long : is_value_for four_digits (codes "00005") ≡ false
unfolding four_digits
too_long = refl

no_sign : is_value_for four_digits (codes "-5") ≡ false
unfolding four_digits
no_sign = refl

no_digit : is_value_for four_digits (codes "+") ≡ false
unfolding four_digits
no_digit = refl
