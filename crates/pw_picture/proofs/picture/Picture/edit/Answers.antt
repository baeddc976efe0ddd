-- An edited picture has at most 18 digits.
use Rattle.pw_picture.proofs.DigitSymbols.{few_digits}
use Rattle.pw_picture.proofs.picture.Picture.edit.Goals as goal

pub write_shown-requires-clause-few : goal.write_shown-requires-clause-few
write_shown-requires-clause-few c = rw (c.digit_symbols-digits.ensures, c.as_slice-symbols.ensures) (few_digits c.in-Edited.symbols (rw c.in-Edited.is at c.requires.picture).1)
