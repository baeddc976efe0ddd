-- What each reply of the bank's servers says of the sum of the balances.
use Rattle.std.proofs.Common.{◌≡◌, ◌≢◌, ℕ, ◌≤◌, Bool, true, false, ◌&&◌, List, [], ◌∷◌, ◌++◌, length, take, drop, Some, is_some, if◌then◌else◌, ℤ, pos, ◌+ℤ◌, refl, sym, ap, ◌∙◌, arith}
use Rattle.std.specs.Prelude.{bytes_eq, codes}
use Rattle.std.proofs.lemmas.Bool.{true≢false}
use Rattle.std.proofs.lemmas.List.{drop-drop, length-append, length-drop, length-take, take-append-le}
use Rattle.std.proofs.lemmas.Map.Text.{is_eq-slice_cmp}
use Rattle.pw_bank_laws.proofs.Account.{digits_in, files_with, is_p, message_account, message_amount, message_op, owner_in, record_with, who_in}
use Rattle.pw_bank_laws.proofs.Numbers.{added-balance, nine, seven, sum-follows}
use Rattle.pw_bank_laws.specs.Balances.{amount_in, balance_in, posted, sum_of_balances}
use Rattle.pw_files.proofs.Lookups.{record_at-found}
use Rattle.pw_files.specs.Records.{IsFile, has_key, record_at, with_record}
use Rattle.pw_invariants.specs.Units.{FileRecords}
use Rattle.pw_number.specs.Arithmetic.{sized, sum}
use Rattle.pw_number.specs.Sign.{signed}
use Rattle.pw_onecopy.proofs.Update.{upd-other, upd-same}
use Rattle.pw_onecopy.specs.Update.{upd}
use Rattle.pw_picture.specs.Stored.{read_of, value_of}
use Rattle.pw_picture.specs.Symbols.{begins_with}
use Rattle.pw_picture.specs.Text.{fitted}
use Rattle.pw_program_laws.proofs.Parts.{drop-first, fitted-whole, fitted-within, take-first}
use Rattle.pw_program_laws.proofs.Texts.{length-fitted}
use Rattle.pw_program_laws.proofs.Totals.{total-with_record}
use Rattle.pw_program_laws.specs.Meets.{received}
use Rattle.pw_program_laws.specs.Totals.{counted_of, total_of}

-- ---- the message

-- one character is tested as it is
is_p-test : (op : List ℕ) → length op ≡ 1 → is_p op ≡ bytes_eq op (codes "P")
is_p-test [] long = absurd (omega (arith, long))
is_p-test (c ∷ []) long = is_eq-slice_cmp (c ∷ []) (codes "P")
is_p-test (c ∷ d ∷ rest) long = absurd (omega (arith, long))

first-by : (message : List ℕ) → bytes_eq (take 1 (fitted 17 message)) (codes "P") ≡ bytes_eq (take 1 message) (codes "P")
first-by [] = refl
first-by (c ∷ rest) = refl

-- P-OP is P where the message begins so
op-test : (message : List ℕ) → is_p (fitted 1 (fitted 17 message)) ≡ bytes_eq (take 1 message) (codes "P")
op-test message =
    is_p-test (fitted 1 (fitted 17 message)) (length-fitted 1 (fitted 17 message))
    ∙ ap (λ op. bytes_eq op (codes "P")) (fitted-within 1 (fitted 17 message) (omega (arith, length-fitted 17 message)))
    ∙ first-by message

-- P-AMOUNT is the amount
amount-chars : (message : List ℕ) → fitted 8 (drop 4 (drop 4 (drop 1 (fitted 17 message)))) ≡ take 8 (drop 9 (fitted 17 message))
amount-chars message =
    let whole : List ℕ = fitted 17 message in
    let long : length whole ≡ 17 = length-fitted 17 message in
    let once : drop 4 (drop 1 whole) ≡ drop 5 whole = drop-drop 4 1 whole in
    let twice : drop 4 (drop 5 whole) ≡ drop 9 whole = drop-drop 4 5 whole in
    ap (λ xs. fitted 8 (drop 4 xs)) once ∙ ap (fitted 8) twice
    ∙ fitted-within 8 (drop 9 whole) (omega (arith, long, length-drop 9 whole))

-- ---- the record

-- R-BALANCE is the balance
pub digits-chars : (content : List ℕ) → digits_in content ≡ take 9 (drop 15 (fitted 27 content))
digits-chars content =
    let whole : List ℕ = fitted 27 content in
    let long : length whole ≡ 27 = length-fitted 27 content in
    let once : drop 11 (drop 4 whole) ≡ drop 15 whole = drop-drop 11 4 whole in
    ap (fitted 9) once ∙ fitted-within 9 (drop 15 whole) (omega (arith, long, length-drop 15 whole))

-- the balance of the new record
pub balance-with : (content chars more : List ℕ) → length chars ≡ 9 → balance_in (record_with content chars more) ≡ value_of 0 chars
balance-with content chars more long =
    let who : List ℕ = who_in content in
    let owner : List ℕ = owner_in content in
    let new : List ℕ = record_with content chars more in
    let rest : List ℕ = fitted 9 chars ++ fitted 3 more in
    let own : fitted 9 chars ≡ chars = fitted-whole 9 chars long in
    let size : length new ≡ 27 =
    omega (
      arith,
      length-append who (owner ++ rest),
      length-append owner rest,
      length-append (fitted 9 chars) (fitted 3 more),
      length-fitted 4 (fitted 27 content),
      length-fitted 11 (drop 4 (fitted 27 content)),
      length-fitted 9 chars,
      length-fitted 3 more,
    ) in
    let parts : drop 15 new ≡ rest =
    sym (drop-drop 11 4 new) ∙ ap (drop 11) (drop-first 4 who (owner ++ rest) (length-fitted 4 (fitted 27 content))) ∙ drop-first 11 owner rest (length-fitted 11 (drop 4 (fitted 27 content))) in
    ap (λ xs. value_of 0 (take 9 (drop 15 xs))) (fitted-whole 27 new size)
    ∙ ap (λ xs. value_of 0 (take 9 xs)) parts
    ∙ ap (value_of 0) (take-first 9 (fitted 9 chars) (fitted 3 more) (length-fitted 9 chars))
    ∙ ap (value_of 0) own

-- it has the key of the old one
pub key-with : (records : List (List ℕ)) (account content chars more : List ℕ) → length account ≡ 4 → record_at 4 records account ≡ Some content
    → take 4 (record_with content chars more) ≡ account
key-with records account content chars more long is =
    let own : take 4 content ≡ account = (record_at-found 4 records account content is).1 in
    let enough : 4 ≤ length content = omega (arith, length-take 4 content, ap length own, long) in
    take-first 4 (who_in content) _ (length-fitted 4 (fitted 27 content))
    ∙ fitted-within 4 (fitted 27 content) (omega (arith, length-fitted 27 content))
    ∙ take-append-le 4 (take 27 content) _ (omega (arith, enough, length-take 27 content))
    ∙ take-within content enough
    ∙ own
  where
    take-within : (xs : List ℕ) → 4 ≤ length xs → take 4 (take 27 xs) ≡ take 4 xs
    take-within [] le = refl
    take-within (a ∷ []) le = absurd (omega (arith, le))
    take-within (a ∷ b ∷ []) le = absurd (omega (arith, le))
    take-within (a ∷ b ∷ c ∷ []) le = absurd (omega (arith, le))
    take-within (a ∷ b ∷ c ∷ d ∷ xs) le = refl

-- ---- what each reply says

pub not-zero : ◌≢◌ {A = ℕ} 0 1
not-zero e = absurd cc

module _ (message : List ℕ) (files : FileRecords) where
  -- the sum has stepped by the request
  abbrev pub Posts : ℕ → List ℕ → FileRecords → Type 0
  Posts c reply left = sum_of_balances left ≡ posted (sum_of_balances files) (record { class = c; message = message; reply = reply })

  by-test : (b : Bool) → b ≡ false → (sum amount : ℤ) → sum ≡ (if b then sum +ℤ amount else sum)
  by-test true e sum amount = absurd cc
  by-test false e sum amount = refl

  and-right : (a b : Bool) → b ≡ false → (a && b) ≡ false
  and-right true b e = e
  and-right false b e = refl

  -- another code than 0
  pub refuses : (reply : List ℕ) → bytes_eq (take 4 reply) (codes "0000") ≡ false → Posts 0 reply files
  refuses reply e = by-test _ (and-right (bytes_eq (take 1 message) (codes "P")) _ e) (sum_of_balances files) (amount_in message)

  -- another operation than P
  pub skips : is_p (message_op message) ≡ false → (reply : List ℕ) → Posts 0 reply files
  skips e reply =
      let other : bytes_eq (take 1 message) (codes "P") ≡ false = sym (op-test message) ∙ e in
      by-test _ (ap (λ b. b && bytes_eq (take 4 reply) (codes "0000")) other) (sum_of_balances files) (amount_in message)

  -- the account is there
  pub is-there : (lines : List (List ℕ)) (content chars more : List ℕ) → record_at 4 (files 0) (message_account message) ≡ Some content
      → has_key 4 (upd files 1 lines 0) (take 4 (record_with content chars more)) ≡ false → ⊥
  is-there lines content chars more is none =
      let same : upd files 1 lines 0 ≡ files 0 = upd-other files 1 lines 0 not-zero in
      let key : take 4 (record_with content chars more) ≡ message_account message =
      key-with (files 0) (message_account message) content chars more (length-fitted 4 (drop 1 (fitted 17 message))) is in
      true≢false
      (sym (ap is_some is)
      ∙ ap (has_key 4 (files 0)) (sym key)
      ∙ ap (λ records. has_key 4 records (take 4 (record_with content chars more))) (sym same)
      ∙ none)

  by-both : (a b : Bool) → a ≡ true → b ≡ true → (sum amount after : ℤ) → after ≡ sum +ℤ amount → after ≡ (if a && b then sum +ℤ amount else sum)
  by-both true true e f sum amount after is = is
  by-both true false e f sum amount after is = absurd cc
  by-both false b e f sum amount after is = absurd cc

  -- a posting
  pub posts : IsFile 4 (files 0) → (lines : List (List ℕ)) (content chars more reply : List ℕ) → is_p (message_op message) ≡ true → record_at 4 (files 0) (message_account message) ≡ Some content
      → received (Some nine) (sized (sum (read_of nine (digits_in content)) (read_of seven (message_amount message)))) ≡ Some chars
      → take 4 reply ≡ codes "0000" → Posts 0 reply (files_with files lines (record_with content chars more))
  posts file lines content chars more reply yes_p is kept code =
      let new : List ℕ = record_with content chars more in
      let amount : List ℕ = message_amount message in
      let same : upd files 1 lines 0 ≡ files 0 = upd-other files 1 lines 0 not-zero in
      let left : files_with files lines new 0 ≡ with_record 4 (files 0) new =
      upd-same (upd files 1 lines) 0 _ 0 refl ∙ ap (λ records. with_record 4 records new) same in
      let key : take 4 new ≡ message_account message =
      key-with (files 0) (message_account message) content chars more (length-fitted 4 (drop 1 (fitted 17 message))) is in
      let added = added-balance (digits_in content) amount chars kept in
      let old : counted_of balance_in (record_at 4 (files 0) (take 4 new)) ≡ balance_in content =
      ap (λ k. counted_of balance_in (record_at 4 (files 0) k)) key ∙ ap (counted_of balance_in) is in
      let now : balance_in new ≡ value_of 0 chars = balance-with content chars more added.0 in
      let whole = total-with_record balance_in 4 (files 0) new file in
      let one : pos (value_of 0 chars) ≡ pos (balance_in content) +ℤ amount_in message =
      added.1
      ∙ ap (λ xs. pos (value_of 0 xs) +ℤ signed (begins_with 45 amount) (value_of 0 (drop 1 amount))) (digits-chars content)
      ∙ ap (λ xs. pos (balance_in content) +ℤ signed (begins_with 45 xs) (value_of 0 (drop 1 xs))) (amount-chars message) in
      by-both (bytes_eq (take 1 message) (codes "P")) (bytes_eq (take 4 reply) (codes "0000"))
      (sym (op-test message) ∙ yes_p) (ap (λ xs. bytes_eq xs (codes "0000")) code)
      (sum_of_balances files) (amount_in message) (sum_of_balances (files_with files lines new))
      (ap (λ records. pos (total_of balance_in records)) left
      ∙ sum-follows (total_of balance_in (files 0)) (total_of balance_in (with_record 4 (files 0) new)) (balance_in content) (value_of 0 chars) (amount_in message)
      (omega (arith, whole, old, now)) one)
