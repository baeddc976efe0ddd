-- Names in either case.
use Rattle.std.proofs.Common.{◌≡◌, ℕ, ◌≤◌, Bool, true, List, [], ◌∷◌, map, length, refl, sym, ap, ◌∙◌}
use Rattle.std.specs.Prelude.{◌&&◌, nat_le}
use Rattle.std.specs.Char.{to_ascii_uppercase}
use Rattle.std.specs.List.{list_all}
use Rattle.std.specs.Str.{str_to_ascii_uppercase}
use Rattle.std.proofs.lemmas.Bool.{le-leb}
use Rattle.std.proofs.lemmas.List.{length-map}
use Rattle.pw_code.specs.Names.{is_name_byte, begins_with_letter, may_name}

pub list_all-map : {A B : Type 0} (test : B → Bool) (f : A → B) (xs : List A) → list_all test (map f xs) ≡ list_all (λ x. test (f x)) xs
list_all-map test f [] = refl
list_all-map test f (x ∷ xs) = ap (λ rest. test (f x) && rest) (list_all-map test f xs)

-- the tests of a name, made of the bytes as they stand
may_name_by : (word : List ℕ) → (begins_with_letter (str_to_ascii_uppercase word) && (nat_le (length word) 30 && list_all (λ byte. is_name_byte (to_ascii_uppercase byte)) word)) ≡ may_name word
may_name_by word = rw (length-map word to_ascii_uppercase, list_all-map is_name_byte to_ascii_uppercase word) refl

-- a word that passes the other tests is a name where its bytes are those of one
pub name_by : (word : List ℕ) (bytes : Bool) → true ≡ begins_with_letter (str_to_ascii_uppercase word) → length word ≤ 30
    → bytes ≡ list_all (λ byte. is_name_byte (to_ascii_uppercase byte)) word → bytes ≡ may_name word
name_by word bytes begins few is =
    is ∙ sym (rw (← begins, le-leb (length word) 30 few) refl) ∙ may_name_by word
