-- What a change of one record does to a sum over a file.
use Rattle.std.proofs.Common.{◌≡◌, ℕ, zero, suc, ◌+◌, cond, List, [], ◌∷◌, ◌++◌, take, drop, Option, Some, None, refl, sym, ap, ◌∙◌, subst, arith}
use Rattle.std.specs.Prelude.{HoldsAt, slice_get}
use Rattle.std.specs.Ordering.{is_eq, is_gt, is_lt}
use Rattle.std.specs.declared.cmp.Ordering.{Ordering}
use Rattle.std.specs.declared.cmp.Ordering.TheVariants.{Less, Equal, Greater}
use Rattle.std.proofs.lemmas.Cmp.{nat_list_cmp_total, tied_itself}
use Rattle.std.proofs.lemmas.List.Elements.{at_from_Contains}
use Rattle.pw_files.proofs.Lookups.{record_at-found}
use Rattle.pw_files.proofs.Places.{found_at}
use Rattle.pw_files.specs.Records.{IsFile, above, below, compared, record_at, with_record, without_key}
use Rattle.pw_program_laws.specs.Totals.{counted_of, total_of}

module _ (count : List ℕ → ℕ) where
  pub total-append : (xs ys : List (List ℕ)) → total_of count (xs ++ ys) ≡ total_of count xs + total_of count ys
  total-append [] ys = omega arith
  total-append (x ∷ xs) ys = omega (arith, total-append xs ys)

  -- the one at a place, with those before and behind it
  total-at : (xs : List (List ℕ)) (place : ℕ) (one : List ℕ) → slice_get xs place ≡ Some one
      → total_of count xs ≡ total_of count (take place xs) + (count one + total_of count (drop (suc place) xs))
  total-at [] place one is = absurd cc
  total-at (x ∷ xs) zero one is = let same : x ≡ one = cc in let own : count x ≡ count one = ap count same in omega arith
  total-at (x ∷ xs) (suc place) one is = omega (arith, total-at xs place one is)

  module _ (n : ℕ) (key : List ℕ) where
    parted-by : (o : Ordering) (x : List ℕ) (xs low high : List (List ℕ)) → cond (is_eq o) (Some x) (record_at n xs key) ≡ None
        → (record_at n xs key ≡ None → total_of count xs ≡ total_of count low + total_of count high)
        → count x + total_of count xs ≡ total_of count (cond (is_lt o) (x ∷ low) low) + total_of count (cond (is_gt o) (x ∷ high) high)
    parted-by Less x xs low high none rest = let e = rest none in omega (arith, e)
    parted-by Equal x xs low high none rest = absurd cc
    parted-by Greater x xs low high none rest = let e = rest none in omega (arith, e)

    -- where none has the key
    total-missing : (xs : List (List ℕ)) → record_at n xs key ≡ None
        → total_of count xs ≡ total_of count (below n xs key) + total_of count (above n xs key)
    total-missing [] none = refl
    total-missing (x ∷ xs) none = parted-by (compared n key x) x xs (below n xs key) (above n xs key) none (total-missing xs)

    -- where one has it
    total-found : (xs : List (List ℕ)) (one : List ℕ) → IsFile n xs → record_at n xs key ≡ Some one
        → total_of count xs ≡ total_of count (below n xs key) + (count one + total_of count (above n xs key))
    total-found xs one file is =
        let among = record_at-found n xs key one is in
        let at = at_from_Contains xs one among.0 in
        let own : compared n key one ≡ Equal = ap (λ k. compared n k one) (sym among.1) ∙ tied_itself nat_list_cmp_total (take n one) in
        let same : HoldsAt (λ c. compared n key c ≡ Equal) xs at.0 = λ d. subst (λ c. compared n key c ≡ Equal) (sym (at.2 d)) own in
        let found = found_at n xs file key at.0 at.1 same in
        total-at xs at.0 one (found.here ∙ is)
        ∙ ap (λ ys. total_of count ys + (count one + total_of count (drop (suc at.0) xs))) found.before
        ∙ ap (λ ys. total_of count (below n xs key) + (count one + total_of count ys)) found.after

    total-parted : (xs : List (List ℕ)) → IsFile n xs → (r : Option (List ℕ)) → record_at n xs key ≡ r
        → total_of count xs ≡ total_of count (below n xs key) + (counted_of count r + total_of count (above n xs key))
    total-parted xs file None is = omega (arith, total-missing xs is)
    total-parted xs file (Some one) is = total-found xs one file is

  pub total-with_record : (n : ℕ) (records : List (List ℕ)) (content : List ℕ) → IsFile n records
      → total_of count (with_record n records content) + counted_of count (record_at n records (take n content)) ≡ total_of count records + count content
  total-with_record n records content file =
      let key : List ℕ = take n content in
      let whole = total-parted n key records file (record_at n records key) refl in
      let parts = total-append (below n records key) (content ∷ above n records key) in
      omega (arith, whole, parts)

  pub total-without_key : (n : ℕ) (records : List (List ℕ)) (key : List ℕ) → IsFile n records
      → total_of count (without_key n records key) + counted_of count (record_at n records key) ≡ total_of count records
  total-without_key n records key file =
      let whole = total-parted n key records file (record_at n records key) refl in
      let parts = total-append (below n records key) (above n records key) in
      omega (arith, whole, parts)
