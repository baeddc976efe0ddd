-- Each posting is told by a line of its account's statement.
use Rattle.std.proofs.Common.{◌≡◌, ◌≢◌, ℕ, zero, suc, Bool, true, false, cond, List, [], ◌∷◌, ◌++◌, length, take, drop, if◌then◌else◌, Option, Some, None, is_some, ◌<◌, ◌^◌, unsigned_abs, ℤ, pos, ◌+ℤ◌, refl, sym, ap, ◌∙◌, arith}
use Rattle.std.specs.Prelude.{bytes_eq}
use Rattle.std.specs.Ordering.{is_eq, is_gt, is_lt}
use Rattle.std.specs.declared.cmp.Ordering.{Ordering}
use Rattle.std.specs.declared.cmp.Ordering.TheVariants.{Less, Equal, Greater}
use Rattle.std.proofs.lemmas.Int.{ints}
use Rattle.std.proofs.lemmas.List.{drop-drop, take_all}
use Rattle.std.proofs.lemmas.Bool.{true≢false}
use Rattle.pw_bank_laws.proofs.Account.{digits_in, files_with, line_with, message_account, message_amount, message_other, record_with, who_in}
use Rattle.pw_bank_laws.proofs.Amounts.{seven-digits, seven-long, seven-units}
use Rattle.pw_bank_laws.proofs.Numbers.{added-balance, nine, seven, three}
use Rattle.pw_bank_laws.proofs.Posts.{balance-with, digits-chars, key-with, not-zero}
use Rattle.pw_bank_laws.specs.Balances.{balance_in}
use Rattle.pw_bank_laws.specs.Statements.{amount_told, amounts_told, balance_of, untold}
use Rattle.pw_files.proofs.Lookups.{record_at-with_other, record_at-with_record}
use Rattle.pw_files.specs.Records.{above, below, compared, has_key, record_at, with_record}
use Rattle.pw_invariants.specs.Units.{FileRecords}
use Rattle.pw_number.specs.Arithmetic.{sized, sum}
use Rattle.pw_number.specs.Number.{Number}
use Rattle.pw_number.specs.Sign.{signed}
use Rattle.pw_onecopy.proofs.Update.{upd-other, upd-same}
use Rattle.pw_onecopy.specs.Update.{upd}
use Rattle.pw_picture.specs.Stored.{moved, read_of, value_of}
use Rattle.pw_picture.specs.Symbols.{begins_with}
use Rattle.pw_picture.specs.Text.{fitted}
use Rattle.pw_program_laws.proofs.Amounts.{units_in}
use Rattle.pw_program_laws.proofs.Parts.{bytes-same, bytes-self, drop-first, fitted-whole, take-first}
use Rattle.pw_program_laws.proofs.Texts.{length-fitted}
use Rattle.pw_program_laws.specs.Meets.{received}
use Rattle.pw_program_laws.specs.Totals.{counted_of}

-- ---- sums over lines

module _ (account : List ℕ) where
  told-by : (b : Bool) (amount rest : ℤ) → (if b then amount +ℤ rest else rest) ≡ (if b then amount else pos 0) +ℤ rest
  told-by true amount rest = refl
  told-by false amount rest = omega (arith, ints)

  -- what one line tells
  abbrev told_of : List ℕ → ℤ
  told_of line = if bytes_eq (take 4 line) account then amount_told line else pos 0

  told-one : (line : List ℕ) (lines : List (List ℕ)) → amounts_told account (line ∷ lines) ≡ told_of line +ℤ amounts_told account lines
  told-one line lines = told-by (bytes_eq (take 4 line) account) (amount_told line) (amounts_told account lines)

  told-append : (xs ys : List (List ℕ)) → amounts_told account (xs ++ ys) ≡ amounts_told account xs +ℤ amounts_told account ys
  told-append [] ys = omega (arith, ints)
  told-append (x ∷ xs) ys =
      let rest = told-append xs ys in
      let one = told-one x (xs ++ ys) in
      let own = told-one x xs in
      omega (arith, ints, rest, one, own)

  module _ (n : ℕ) (key : List ℕ) where
    parted-by : (o : Ordering) (x : List ℕ) (xs low high : List (List ℕ)) → cond (is_eq o) (Some x) (record_at n xs key) ≡ None
        → (record_at n xs key ≡ None → amounts_told account xs ≡ amounts_told account low +ℤ amounts_told account high)
        → amounts_told account (x ∷ xs) ≡ amounts_told account (cond (is_lt o) (x ∷ low) low) +ℤ amounts_told account (cond (is_gt o) (x ∷ high) high)
    parted-by Less x xs low high none rest =
        let e = rest none in let one = told-one x xs in let own = told-one x low in omega (arith, ints, e, one, own)
    parted-by Equal x xs low high none rest = absurd cc
    parted-by Greater x xs low high none rest =
        let e = rest none in let one = told-one x xs in let own = told-one x high in omega (arith, ints, e, one, own)

    told-parted : (xs : List (List ℕ)) → record_at n xs key ≡ None
        → amounts_told account xs ≡ amounts_told account (below n xs key) +ℤ amounts_told account (above n xs key)
    told-parted [] none = omega (arith, ints)
    told-parted (x ∷ xs) none = parted-by (compared n key x) x xs (below n xs key) (above n xs key) none (told-parted xs)

  -- one line more
  told-more : (n : ℕ) (lines : List (List ℕ)) (line : List ℕ) → record_at n lines (take n line) ≡ None
      → amounts_told account (with_record n lines line) ≡ told_of line +ℤ amounts_told account lines
  told-more n lines line none =
      let low : List (List ℕ) = below n lines (take n line) in
      let high : List (List ℕ) = above n lines (take n line) in
      let parts = told-append low (line ∷ high) in
      let one = told-one line high in
      let whole = told-parted n (take n line) lines none in
      omega (arith, ints, parts, one, whole)

-- ---- the line and the record of a posting

key-none : (o : Option (List ℕ)) → is_some o ≡ false → o ≡ None
key-none None e = refl
key-none (Some content) e = absurd cc

abs-signed : (b : Bool) (m : ℕ) → unsigned_abs (signed b m) ≡ m
abs-signed false m = refl
abs-signed true zero = refl
abs-signed true (suc m) = refl

-- an amount has seven digits
amount-small : (amount : List ℕ) → length amount ≡ 8 → unsigned_abs (units_in amount) < 10 ^ 7
amount-small [] long = absurd (omega (arith, long))
amount-small (sign ∷ digits) long =
    let own : unsigned_abs (units_in (sign ∷ digits)) ≡ value_of 0 digits = abs-signed (begins_with 45 (sign ∷ digits)) (value_of 0 digits) in
    let short : length digits ≡ 7 = omega (arith, long) in
    omega (arith, own, seven-digits digits short)

-- the line begins with the account's number
line-account : (content number other amount : List ℕ) → take 4 (line_with content number other amount) ≡ who_in content
line-account content number other amount =
    take-first 4 (fitted 4 (fitted 4 (who_in content))) _ (length-fitted 4 (fitted 4 (who_in content)))
    ∙ fitted-whole 4 (fitted 4 (who_in content)) (length-fitted 4 (who_in content))
    ∙ fitted-whole 4 (who_in content) (length-fitted 4 (fitted 27 content))

-- and tells the amount
line-amount : (content number other amount : List ℕ) → length amount ≡ 8 → amount_told (line_with content number other amount) ≡ units_in amount
line-amount content number other amount long =
    let first : List ℕ = fitted 4 (fitted 4 (who_in content)) in
    let lines : List ℕ = moved three (read_of three (fitted 3 number)) in
    let second : List ℕ = fitted 3 lines in
    let third : List ℕ = fitted 4 (fitted 4 other) in
    let n : Number = read_of seven amount in
    let last : List ℕ = fitted 8 (moved seven n) in
    let small : unsigned_abs n.units < 10 ^ 7 = amount-small amount long in
    let line : List ℕ = line_with content number other amount in
    let parts : drop 11 line ≡ last =
    sym (drop-drop 4 7 line) ∙ ap (drop 4) (sym (drop-drop 3 4 line)) ∙ ap (λ xs. drop 4 (drop 3 xs)) (drop-first 4 first (second ++ (third ++ last)) (length-fitted 4 (fitted 4 (who_in content))))
    ∙ ap (drop 4) (drop-first 3 second (third ++ last) (length-fitted 3 lines)) ∙ drop-first 4 third last (length-fitted 4 (fitted 4 other)) in
    ap (λ xs. units_in (take 8 xs)) parts
    ∙ ap units_in (take_all 8 last (omega (arith, length-fitted 8 (moved seven n))))
    ∙ ap units_in (fitted-whole 8 (moved seven n) (seven-long n refl small))
    ∙ seven-units n refl small

-- ---- what a posting leaves untold

one-not : ◌≢◌ {A = ℕ} 1 0
one-not e = absurd cc

module _ (account message : List ℕ) (files : FileRecords) where
  -- nothing more of the account is untold
  abbrev pub Tells : FileRecords → Type 0
  Tells left = untold account left ≡ untold account files

  module _ (content chars more : List ℕ) (is : record_at 4 (files 0) (message_account message) ≡ Some content)
      (kept : received (Some nine) (sized (sum (read_of nine (digits_in content)) (read_of seven (message_amount message)))) ≡ Some chars)
      (fresh : has_key 7 (files 1) (take 7 (line_with content more (message_other message) (message_amount message))) ≡ false) where
    abbrev new : List ℕ
    new = record_with content chars more

    abbrev line : List ℕ
    line = line_with content more (message_other message) (message_amount message)

    abbrev left : FileRecords
    left = files_with files (with_record 7 (files 1) line) new

    new-key : take 4 new ≡ message_account message
    new-key = key-with (files 0) (message_account message) content chars more (length-fitted 4 (drop 1 (fitted 17 message))) is

    line-key : take 4 line ≡ message_account message
    line-key = line-account content more (message_other message) (message_amount message) ∙ sym (take-first 4 (who_in content) _ (length-fitted 4 (fitted 27 content))) ∙ new-key

    left-accounts : left 0 ≡ with_record 4 (files 0) new
    left-accounts =
        upd-same (upd files 1 (with_record 7 (files 1) line)) 0 _ 0 refl
        ∙ ap (λ records. with_record 4 records new) (upd-other files 1 (with_record 7 (files 1) line) 0 not-zero)

    left-lines : left 1 ≡ with_record 7 (files 1) line
    left-lines = upd-other (upd files 1 (with_record 7 (files 1) line)) 0 _ 1 one-not ∙ upd-same files 1 (with_record 7 (files 1) line) 1 refl

    told-now : amounts_told account (left 1) ≡ told_of account line +ℤ amounts_told account (files 1)
    told-now = ap (amounts_told account) left-lines ∙ told-more account 7 (files 1) line (key-none (record_at 7 (files 1) (take 7 line)) fresh)

    -- what is told of the account, and what its balance is then
    own-account : account ≡ message_account message → Tells left
    own-account own =
        let units : ℤ = units_in (message_amount message) in
        let added = added-balance (digits_in content) (message_amount message) chars kept in
        let found : record_at 4 (with_record 4 (files 0) new) account ≡ Some new =
        ap (record_at 4 (with_record 4 (files 0) new)) (own ∙ sym new-key) ∙ record_at-with_record 4 (files 0) new in
        let now : balance_of account left ≡ pos (value_of 0 chars) =
        ap (λ records. pos (counted_of balance_in (record_at 4 records account))) left-accounts ∙ ap (λ o. pos (counted_of balance_in o)) found
        ∙ ap pos (balance-with content chars more added.0) in
        let before : balance_of account files ≡ pos (balance_in content) =
        ap (λ k. pos (counted_of balance_in (record_at 4 (files 0) k))) own ∙ ap (λ o. pos (counted_of balance_in o)) is in
        let grown : pos (value_of 0 chars) ≡ pos (balance_in content) +ℤ units =
        added.1 ∙ ap (λ xs. pos (value_of 0 xs) +ℤ units) (digits-chars content) in
        let tells : told_of account line ≡ units =
        ap (λ (b : Bool). if b then amount_told line else pos 0) (ap (λ xs. bytes_eq xs account) (line-key ∙ sym own) ∙ bytes-self account)
        ∙ line-amount content more (message_other message) (message_amount message) (length-fitted 8 (drop 4 (drop 4 (drop 1 (fitted 17 message))))) in
        let told = told-now in
        omega (arith, ints, now, before, grown, tells, told)

    other-account : (account ≡ message_account message → ⊥) → bytes_eq (message_account message) account ≡ false → Tells left
    other-account ne differ =
        let now : balance_of account left ≡ balance_of account files =
        ap (λ records. pos (counted_of balance_in (record_at 4 records account))) left-accounts
        ∙ ap (λ o. pos (counted_of balance_in o)) (record_at-with_other 4 (files 0) new account (λ e. ne (e ∙ new-key))) in
        let tells : told_of account line ≡ pos 0 =
        ap (λ (b : Bool). if b then amount_told line else pos 0) (ap (λ xs. bytes_eq xs account) line-key ∙ differ) in
        let told = told-now in
        omega (arith, ints, now, tells, told)

    by-account : (b : Bool) → bytes_eq (message_account message) account ≡ b → Tells left
    by-account true e = own-account (sym (bytes-same (message_account message) account e))
    by-account false e =
        other-account (λ own. true≢false (sym (ap (bytes_eq (message_account message)) own ∙ bytes-self (message_account message)) ∙ e)) e

    pub posting-tells : Tells left
    posting-tells = by-account (bytes_eq (message_account message) account) refl
