-- Parts of texts, and digits, for laws over given programs.
use Rattle.std.proofs.Common.{◌≡◌, ℕ, zero, suc, ◌-◌, ◌≤◌, Bool, true, false, List, [], ◌∷◌, ◌++◌, length, take, drop, replicate, if◌then◌else◌, refl, sym, ap, ◌∙◌, subst, arith}
use Rattle.std.specs.Prelude.{bytes_eq}
use Rattle.std.specs.Ordering.{is_eq}
use Rattle.std.proofs.lemmas.Bool.{false≢true}
use Rattle.std.proofs.lemmas.Cmp.{nat_list_cmp_total, tied_itself}
use Rattle.std.proofs.lemmas.List.{append-nil, drop-append-le, length-take, take-append-le, take-take, take_all}
use Rattle.std.proofs.lemmas.Map.Lookups.{exact_bytes}
use Rattle.std.proofs.lemmas.Map.Text.{is_eq-slice_cmp}
use Rattle.pw_base.proofs.Plain.{is_eq-Equal}
use Rattle.pw_files.specs.Records.{key_cmp}
use Rattle.pw_picture.specs.Stored.{digits_of}
use Rattle.pw_picture.specs.Text.{fitted}
use Rattle.pw_program_laws.proofs.Texts.{length-fitted}

pub fitted-within : (n : ℕ) (xs : List ℕ) → n ≤ length xs → fitted n xs ≡ take n xs
fitted-within n xs within =
    let none : n - length xs ≡ 0 = omega (arith, within) in
    ap (λ m. take n xs ++ replicate m 32) none ∙ append-nil (take n xs)

pub fitted-whole : (n : ℕ) (xs : List ℕ) → length xs ≡ n → fitted n xs ≡ xs
fitted-whole n xs long = fitted-within n xs (omega (arith, long)) ∙ take_all n xs (omega (arith, long))

-- the first of texts one behind the other
pub take-first : (n : ℕ) (xs ys : List ℕ) → length xs ≡ n → take n (xs ++ ys) ≡ xs
take-first n xs ys long = take-append-le n xs ys (omega (arith, long)) ∙ take_all n xs (omega (arith, long))

drop-whole : (n : ℕ) (xs : List ℕ) → length xs ≡ n → drop n xs ≡ []
drop-whole n xs long = subst (λ m. drop m xs ≡ []) long (drop-own xs)
  where
    drop-own : (xs : List ℕ) → drop (length xs) xs ≡ []
    drop-own [] = refl
    drop-own (x ∷ xs) = drop-own xs

-- and those behind it
pub drop-first : (n : ℕ) (xs ys : List ℕ) → length xs ≡ n → drop n (xs ++ ys) ≡ ys
drop-first n xs ys long = drop-append-le n xs ys (omega (arith, long)) ∙ ap (λ zs. zs ++ ys) (drop-whole n xs long)

-- the key of a content that is read into an item, and then into the first part of it
pub key-fitted : (n size : ℕ) (content key : List ℕ) → n ≤ size → length key ≡ n → take n content ≡ key → fitted n (fitted size content) ≡ key
key-fitted n size content key le long own =
    let enough : n ≤ length content = omega (arith, length-take n content, ap length own, long) in
    fitted-within n (fitted size content) (omega (arith, le, length-fitted size content))
    ∙ take-append-le n (take size content) (replicate (size - length content) 32) (omega (arith, le, enough, length-take size content))
    ∙ take-take n size content le
    ∙ own

pub length-digits : (count size : ℕ) → length (digits_of count size) ≡ count
length-digits zero size = refl
length-digits (suc count) size = omega (arith, length-digits count size)

-- ---- one text and another

pub bytes-same : (xs ys : List ℕ) → bytes_eq xs ys ≡ true → xs ≡ ys
bytes-same xs ys e = exact_bytes xs ys (is_eq-Equal (key_cmp xs ys) (is_eq-slice_cmp xs ys ∙ e))

pub bytes-self : (xs : List ℕ) → bytes_eq xs xs ≡ true
bytes-self xs = sym (is_eq-slice_cmp xs xs) ∙ ap is_eq (tied_itself nat_list_cmp_total xs)

-- a record that may be written is not there yet
pub not-there : (b : Bool) → (if b then false else true) ≡ true → b ≡ false
not-there true e = absurd (false≢true e)
not-there false e = refl
