-- The code of a reply to a SEND, and where it leads.
use Rattle.std.proofs.Common.{◌≡◌, ℕ, zero, suc, ◌+◌, ◌==◌, Bool, true, false, ◌&&◌, List, [], ◌∷◌, length, take, slice_get, if◌then◌else◌, Option, Some, None, refl, sym, ap, ◌∙◌, subst, arith}
use Rattle.std.specs.Char.{is_ascii_digit}
use Rattle.std.specs.List.{list_all}
use Rattle.std.specs.Prelude.{bytes_eq, codes, option_and_then, option_map}
use Rattle.std.proofs.lemmas.Bool.{and_parts, eqb-true}
use Rattle.std.proofs.lemmas.Bool.Decides.{nat_tests}
use Rattle.std.proofs.lemmas.List.Quantifiers.{position-Some}
use Rattle.pw_forms.specs.declared.lists.SendCode.{SendCode}
use Rattle.pw_picture.specs.Stored.{digit_of, value_of}
use Rattle.pw_tree_meaning.specs.Sends.{code_in_reply, found_by, item_at, reply_code_place}
use Rattle.pw_tree_meaning.specs.Store.{Spot}

-- a digit of value 0
zero-digit : (char : ℕ) → is_ascii_digit char ≡ true → digit_of char ≡ 0 → char ≡ 48
zero-digit char is none = grind (arith, nat_tests)

-- four digits of value 0
zero-digits : (chars : List ℕ) → length chars ≡ 4 → list_all is_ascii_digit chars ≡ true → value_of 0 chars ≡ 0 → bytes_eq chars (codes "0000") ≡ true
zero-digits (a ∷ b ∷ c ∷ d ∷ []) long digits none =
    let one = and_parts (is_ascii_digit a) (list_all is_ascii_digit (b ∷ c ∷ d ∷ [])) digits in
    let two = and_parts (is_ascii_digit b) (list_all is_ascii_digit (c ∷ d ∷ [])) one.1 in
    let three = and_parts (is_ascii_digit c) (list_all is_ascii_digit (d ∷ [])) two.1 in
    let four = and_parts (is_ascii_digit d) true three.1 in
    let first : a ≡ 48 = zero-digit a one.0 (omega (arith, none)) in
    let second : b ≡ 48 = zero-digit b two.0 (omega (arith, none)) in
    let third : c ≡ 48 = zero-digit c three.0 (omega (arith, none)) in
    let fourth : d ≡ 48 = zero-digit d four.0 (omega (arith, none)) in
    ap (λ x. bytes_eq (x ∷ b ∷ c ∷ d ∷ []) (codes "0000")) first
    ∙ ap (λ x. bytes_eq (48 ∷ x ∷ c ∷ d ∷ []) (codes "0000")) second
    ∙ ap (λ x. bytes_eq (48 ∷ 48 ∷ x ∷ d ∷ []) (codes "0000")) third
    ∙ ap (λ x. bytes_eq (48 ∷ 48 ∷ 48 ∷ x ∷ []) (codes "0000")) fourth
zero-digits [] long digits none = absurd (omega (arith, long))
zero-digits (a ∷ []) long digits none = absurd (omega (arith, long))
zero-digits (a ∷ b ∷ []) long digits none = absurd (omega (arith, long))
zero-digits (a ∷ b ∷ c ∷ []) long digits none = absurd (omega (arith, long))
zero-digits (a ∷ b ∷ c ∷ d ∷ e ∷ rest) long digits none = absurd (omega (arith, long))

coded-by : (b : Bool) (chars : List ℕ) → (length chars == 4 && list_all is_ascii_digit chars) ≡ b → (if b then Some (value_of 0 chars) else None) ≡ Some 0
    → bytes_eq chars (codes "0000") ≡ true
coded-by true chars is e =
    let parts = and_parts (length chars == 4) (list_all is_ascii_digit chars) is in
    let none : value_of 0 chars ≡ 0 = cc in
    zero-digits chars (eqb-true (length chars) 4 parts.0) parts.1 none
coded-by false chars is e = absurd cc

-- a reply of code 0
zero-reply : (reply : List ℕ) → code_in_reply reply ≡ Some 0 → bytes_eq (take 4 reply) (codes "0000") ≡ true
zero-reply reply e = coded-by (length (take 4 reply) == 4 && list_all is_ascii_digit (take 4 reply)) (take 4 reply) refl e

module _ (reply : List ℕ) (P : ℕ × Spot → Type 0) where
  -- each of some spots, of which the first has a place
  abbrev pub Each : ℕ → List Spot → Type 0
  Each n [] = Unit {0}
  Each n (spot ∷ spots) = P (n, spot) × Each (suc n) spots

  each-at : (n i m : ℕ) (spots : List Spot) (place : ℕ × Spot) → n + i ≡ m → Each n spots → option_map (λ item. (m, item)) (slice_get spots i) ≡ Some place → P place
  each-at n i m [] place at each is = absurd cc
  each-at n zero m (spot ∷ spots) place at each is =
      let here : (m, spot) ≡ place = cc in
      let same : n ≡ m = omega (arith, at) in
      subst P here (subst (λ k. P (k, spot)) same each.0)
  each-at n (suc i) m (spot ∷ spots) place at each is = each-at (suc n) i m spots place (omega (arith, at)) each.1 is

  -- a SEND of which the first code is 0: where it leads there, the reply has this code
  module _ (first : SendCode) (rest : List SendCode) (spot : Spot) (spots : List Spot) (place : ℕ × Spot) (none : first.number ≡ 0)
      (zero_code : bytes_eq (take 4 reply) (codes "0000") ≡ true → P (0, spot)) (each : Each 1 spots) where
    by-place : (k i : ℕ) → code_in_reply reply ≡ Some k → reply_code_place (first ∷ rest) k ≡ Some i → item_at (spot ∷ spots) i ≡ Some place → P place
    by-place k zero coded placed is =
        let own : (first.number == k) ≡ true = (position-Some (λ one. one.number == k) (first ∷ rest) 0 first placed).1 in
        let same : first.number ≡ k = eqb-true first.number k own in
        let here : (0, spot) ≡ place = cc in
        subst P here (zero_code (zero-reply reply (coded ∙ ap Some (sym same ∙ none))))
    by-place k (suc i) coded placed is = each-at 1 i (suc i) spots place (omega arith) each is

    by-code : (k : ℕ) → code_in_reply reply ≡ Some k → (o : Option ℕ) → reply_code_place (first ∷ rest) k ≡ o → option_and_then (item_at (spot ∷ spots)) o ≡ Some place → P place
    by-code k coded None placed is = absurd cc
    by-code k coded (Some i) placed is = by-place k i coded placed is

    by-reply : (o : Option ℕ) → code_in_reply reply ≡ o → option_and_then (item_at (spot ∷ spots)) (option_and_then (reply_code_place (first ∷ rest)) o) ≡ Some place → P place
    by-reply None coded is = absurd cc
    by-reply (Some k) coded is = by-code k coded (reply_code_place (first ∷ rest) k) refl is

    -- where a reply leads
    pub reply-cases : found_by (first ∷ rest) (spot ∷ spots) reply ≡ Some place → P place
    reply-cases is = by-reply (code_in_reply reply) refl is
