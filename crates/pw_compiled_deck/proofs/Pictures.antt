-- A picture that a text is, is one that a text may be.
use Rattle.std.proofs.Common.{◌≡◌, ℕ, ◌+◌, ◌≤◌, Bool, true, false, List, length, drop, Option, Some, None, refl, subst, arith}
use Rattle.std.specs.Prelude.{◌&&◌, nat_le, take_while, option_and_then, if◌then◌else◌, ◌==◌}
use Rattle.std.specs.List.{list_all}
use Rattle.std.proofs.lemmas.Bool.Decides.{nat_tests}
use Rattle.pw_data.proofs.Held.{held-text}
use Rattle.pw_picture.specs.declared.picture.Picture.{Picture}
use Rattle.pw_picture.specs.declared.picture.Picture.TheVariants.{Text, Number, Edited}
use Rattle.pw_picture.specs.Symbols.{longest, begins_with, bounded, symbols_behind}
use Rattle.pw_picture.specs.Grammar.{IsPicture, picture_of, picture_of_symbols, is_run_of, is_edited, after_symbol, decimals, number_with, number_picture_of}

number-valid : (signed : Bool) (whole places : ℕ) (fits : Bool) (p : Picture) → (nat_le 1 (whole + places) && nat_le (whole + places) 18) ≡ fits
    → (if fits then Some (Number (whole + places) places signed) else None) ≡ Some p → IsPicture p
number-valid signed whole places true p test is =
    let same : Number (whole + places) places signed ≡ p = cc in
    let some : 1 ≤ whole + places = grind (arith, nat_tests) in
    let few : whole + places ≤ 18 = grind (arith, nat_tests) in
    subst IsPicture same (some, few, omega arith)
number-valid signed whole places false p test is = absurd cc

decimals-valid : (signed : Bool) (whole : ℕ) (places : Option ℕ) (p : Picture) → option_and_then (λ n. number_with signed whole n) places ≡ Some p → IsPicture p
decimals-valid signed whole None p is = absurd cc
decimals-valid signed whole (Some n) p is = number-valid signed whole n (nat_le 1 (whole + n) && nat_le (whole + n) 18) p refl is

kind-valid : (symbols : List ℕ) (run edited : Bool) (p : Picture) → length symbols ≤ longest → is_run_of 88 symbols ≡ run → is_edited symbols ≡ edited
    → (if run then Some (Text (length symbols)) else if edited then Some (Edited symbols) else number_picture_of symbols) ≡ Some p → IsPicture p
kind-valid symbols true edited p short run shows is =
    let same : Text (length symbols) ≡ p = cc in
    subst IsPicture same (held-text (length symbols) (list_all (λ s. s == 88) symbols) run, short)
kind-valid symbols false true p short run shows is = let same : Edited symbols ≡ p = cc in subst IsPicture same (short, shows)
kind-valid symbols false false p short run shows is =
    let body : List ℕ = after_symbol 83 symbols in
    let whole : ℕ = length (take_while (λ s. s == 57) body) in
    decimals-valid (begins_with 83 symbols) whole (decimals (drop whole body)) p is

bounded-valid : (symbols : List ℕ) (short : Bool) (p : Picture) → nat_le (length symbols) longest ≡ short → option_and_then picture_of_symbols (if short then Some symbols else None) ≡ Some p → IsPicture p
bounded-valid symbols true p short is =
    let few : length symbols ≤ longest = grind (arith, nat_tests) in
    kind-valid symbols (is_run_of 88 symbols) (is_edited symbols) p few refl refl is
bounded-valid symbols false p short is = absurd cc

symbols-valid : (symbols : Option (List ℕ)) (p : Picture) → option_and_then picture_of_symbols (option_and_then bounded symbols) ≡ Some p → IsPicture p
symbols-valid None p is = absurd cc
symbols-valid (Some symbols) p is = bounded-valid symbols (nat_le (length symbols) longest) p refl is

pub picture-valid : (bytes : List ℕ) (p : Picture) → picture_of bytes ≡ Some p → IsPicture p
picture-valid bytes p is = symbols-valid (symbols_behind 0 bytes) p is
