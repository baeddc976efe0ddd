-- The records of ACCOUNTS keep their form.
use Rattle.std.proofs.Common.{◌≡◌, ℕ, zero, suc, ◌+◌, ◌%◌, ◌/◌, ◌^◌, ◌≤◌, Bool, true, false, List, [], ◌∷◌, ◌++◌, length, take, drop, if◌then◌else◌, Some, None, Result, Ok, Err, pos, refl, sym, ap, ◌∙◌, subst, arith}
use Rattle.std.specs.Char.{is_ascii_digit}
use Rattle.std.specs.List.{list_all}
use Rattle.std.specs.Prelude.{All}
use Rattle.std.proofs.lemmas.Bool.{and_from, and_parts}
use Rattle.std.proofs.lemmas.Bool.Decides.{nat_tests}
use Rattle.std.proofs.lemmas.List.{drop-drop, length-append}
use Rattle.std.proofs.lemmas.List.Elements.{All-append, All-cons, All-filter}
use Rattle.pw_bank_laws.proofs.Account.{digits_in, files_with, lines_in, owner_in, record_with, who_in}
use Rattle.pw_bank_laws.proofs.Numbers.{nine, seven, three}
use Rattle.pw_bank_laws.proofs.Posts.{not-zero}
use Rattle.pw_bank_laws.specs.Accounts.{AreAccounts, IsAccount}
use Rattle.pw_files.specs.Records.{above, below, with_record}
use Rattle.pw_invariants.specs.Units.{FileRecords}
use Rattle.pw_number.specs.Arithmetic.{sized, sum}
use Rattle.pw_number.specs.Number.{Number, number}
use Rattle.pw_number.specs.declared.size_error.SizeError.{SizeError}
use Rattle.pw_onecopy.proofs.Update.{upd-other, upd-same}
use Rattle.pw_onecopy.specs.Update.{upd}
use Rattle.pw_picture.specs.Stored.{digits_of, is_kept, moved, read_of}
use Rattle.pw_picture.specs.Text.{fitted}
use Rattle.pw_picture.specs.declared.picture.Picture.TheVariants.{Number as NumberPicture}
use Rattle.pw_program_laws.proofs.Parts.{drop-first, fitted-whole, length-digits}
use Rattle.pw_program_laws.proofs.Texts.{length-fitted}
use Rattle.pw_program_laws.specs.Meets.{received}

digit-written : (digit : ℕ) → is_ascii_digit (48 + digit % 10) ≡ true
digit-written digit = let small : digit % 10 ≤ 9 = omega arith in digit-small (digit % 10) small
  where
    digit-small : (d : ℕ) → d ≤ 9 → is_ascii_digit (48 + d) ≡ true
    digit-small d le = grind (arith, nat_tests)

digits-all : (count size : ℕ) → list_all is_ascii_digit (digits_of count size) ≡ true
digits-all zero size = refl
digits-all (suc count) size = and_from _ _ (digit-written (size / 10 ^ count)) (digits-all count size)

all-append : (xs ys : List ℕ) → list_all is_ascii_digit xs ≡ true → list_all is_ascii_digit ys ≡ true → list_all is_ascii_digit (xs ++ ys) ≡ true
all-append [] ys first second = second
all-append (x ∷ xs) ys first second =
    let parts = and_parts (is_ascii_digit x) (list_all is_ascii_digit xs) first in
    and_from _ _ parts.0 (all-append xs ys parts.1 second)

-- what is stored in an item of digits is so many digits
kept-digits : (count places : ℕ) (n : Number) (b : Bool) (chars : List ℕ) → (if b then Some (moved (NumberPicture count places false) n) else None) ≡ Some chars
    → (length chars ≡ count) × (list_all is_ascii_digit chars ≡ true)
kept-digits count places n true chars e =
    let same : moved (NumberPicture count places false) n ≡ chars = cc in
    (ap length (sym same) ∙ length-digits count _, ap (list_all is_ascii_digit) (sym same) ∙ digits-all count _)
kept-digits count places n false chars e = absurd cc

received-digits : (count places : ℕ) (r : Result Number SizeError) (chars : List ℕ) → received (Some (NumberPicture count places false)) r ≡ Some chars
    → (length chars ≡ count) × (list_all is_ascii_digit chars ≡ true)
received-digits count places (Ok n) chars e = kept-digits count places n (is_kept (NumberPicture count places false) n) chars e
received-digits count places (Err error) chars e = absurd cc

-- the record with another balance and number of lines has the form
record-formed : (content chars more : List ℕ) (r s : Result Number SizeError) → received (Some nine) r ≡ Some chars → received (Some three) s ≡ Some more
    → IsAccount (record_with content chars more)
record-formed content chars more r s balance lines =
    let first = received-digits 9 2 r chars balance in
    let second = received-digits 3 0 s more lines in
    let who : List ℕ = who_in content in
    let owner : List ℕ = owner_in content in
    let new : List ℕ = record_with content chars more in
    let rest : List ℕ = fitted 9 chars ++ fitted 3 more in
    let parts : drop 15 new ≡ rest =
    sym (drop-drop 11 4 new) ∙ ap (drop 11) (drop-first 4 who (owner ++ rest) (length-fitted 4 (fitted 27 content))) ∙ drop-first 11 owner rest (length-fitted 11 (drop 4 (fitted 27 content))) in
    record {
      long =
          omega (
            arith,
            length-append who (owner ++ rest),
            length-append owner rest,
            length-append (fitted 9 chars) (fitted 3 more),
            length-fitted 4 (fitted 27 content),
            length-fitted 11 (drop 4 (fitted 27 content)),
            length-fitted 9 chars,
            length-fitted 3 more,
          );
      digits =
          ap (list_all is_ascii_digit) parts
          ∙ all-append (fitted 9 chars) (fitted 3 more)
          (ap (list_all is_ascii_digit) (fitted-whole 9 chars first.0) ∙ first.1)
          (ap (list_all is_ascii_digit) (fitted-whole 3 more second.0) ∙ second.1);
    }

-- so has the one that a posting leaves
pub posting-formed : (content chars more amount : List ℕ)
    → received (Some nine) (sized (sum (read_of nine (digits_in content)) (read_of seven amount))) ≡ Some chars
    → received (Some three) (sized (sum (read_of three (lines_in content)) (number (pos 1) 0))) ≡ Some more → IsAccount (record_with content chars more)
posting-formed content chars more amount balance lines =
    record-formed content chars more (sized (sum (read_of nine (digits_in content)) (read_of seven amount))) (sized (sum (read_of three (lines_in content)) (number (pos 1) 0))) balance lines

-- and so has each record of the files with it
pub files-formed : (files : FileRecords) (lines : List (List ℕ)) (new : List ℕ) → AreAccounts files → IsAccount new → AreAccounts (files_with files lines new)
files-formed files lines new formed own =
    let left : files_with files lines new 0 ≡ with_record 4 (files 0) new =
    upd-same (upd files 1 lines) 0 _ 0 refl ∙ ap (λ records. with_record 4 records new) (upd-other files 1 lines 0 not-zero) in
    subst (All IsAccount) (sym left)
    (All-append IsAccount (below 4 (files 0) (take 4 new)) (new ∷ above 4 (files 0) (take 4 new))
    (All-filter _ IsAccount (files 0) formed) (All-cons IsAccount new (above 4 (files 0) (take 4 new)) own (All-filter _ IsAccount (files 0) formed)))
