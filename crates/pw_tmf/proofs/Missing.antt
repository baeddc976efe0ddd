-- A key that no record has: the records without it are all of them.
use Rattle.std.proofs.Common.{◌≡◌, ℕ, ◌∙◌, sym, ap, subst, refl, Option, Some, None, Ok, true, false, Bool, List, [], ◌∷◌, map, take}
use Rattle.std.specs.Prelude.{All, is_some}
use Rattle.std.specs.List.{AllByRecursion}
use Rattle.std.specs.List.Sorted.{IsStrictlySortedBy}
use Rattle.std.specs.Ordering.{is_lt, is_eq, is_gt}
use Rattle.std.specs.declared.cmp.Ordering.{Ordering}
use Rattle.std.specs.declared.cmp.Ordering.TheVariants.{Less, Equal, Greater}
use Rattle.std.proofs.lemmas.Bool.{true≢false}
use Rattle.std.proofs.lemmas.List.Elements.{All-head, All-tail, All-nil, All-cons, All-weaker}
use Rattle.pw_blocks.proofs.RoundLemmas.{above_not_below}
use Rattle.pw_files.proofs.Lists.{filter_all, filter_none}
use Rattle.pw_files.proofs.Lookups.{find_nothing}
use Rattle.pw_files.specs.Files.{if_done}
use Rattle.pw_files.specs.Records.{key_cmp, compared, below, above, record_at, has_key, without_key, IsFile}

module _ (n : ℕ) (key : List ℕ) where
  -- what is above a content that is above the key is above the key
  all_above : (x : List ℕ) (xs : List (List ℕ)) → is_lt (compared n key x) ≡ false
      → AllByRecursion (λ k. key_cmp (take n x) k ≡ Less) (map (λ content. take n content) xs)
      → All (λ content. compared n key content ≡ Greater) xs
  all_above x [] e h = All-nil (λ content. compared n key content ≡ Greater)
  all_above x (y ∷ ys) e h = All-cons (λ content. compared n key content ≡ Greater) y ys (above_not_below n key x e (take n y) h.0) (all_above x ys e h.1)

  -- one record in front of some without the key
  missing-cons : (x : List ℕ) (xs : List (List ℕ)) (o : Ordering) → compared n key x ≡ o → is_eq (compared n key x) ≡ false
      → AllByRecursion (λ k. key_cmp (take n x) k ≡ Less) (map (λ content. take n content) xs) → without_key n xs key ≡ xs
      → without_key n (x ∷ xs) key ≡ x ∷ xs
  missing-cons x xs Less is unlike s rest = rw is (ap (λ ys. x ∷ ys) rest)
  missing-cons x xs Equal is unlike s rest = let yes : is_eq (compared n key x) ≡ true = ap is_eq is in absurd (true≢false (sym yes ∙ unlike))
  missing-cons x xs Greater is unlike s rest =
      let greater : All (λ content. compared n key content ≡ Greater) xs = all_above x xs (ap is_lt is) s in
      let none : below n xs key ≡ [] = filter_none (λ content. is_lt (compared n key content)) xs (weaker xs (λ o. is_lt o ≡ false) refl greater) in
      let every : above n xs key ≡ xs = filter_all (λ content. is_gt (compared n key content)) xs (weaker xs (λ o. is_gt o ≡ true) refl greater) in
      rw (is, none, every) refl
    where
      weaker : (ys : List (List ℕ)) (P : Ordering → Type 0) → P Greater → All (λ content. compared n key content ≡ Greater) ys → All (λ content. P (compared n key content)) ys
      weaker ys P p g = All-weaker (λ content. compared n key content ≡ Greater) (λ content. P (compared n key content)) (λ content e. subst P (sym e) p) ys g

  pub without-missing : (records : List (List ℕ)) → IsStrictlySortedBy key_cmp (map (λ content. take n content) records)
      → All (λ content. is_eq (compared n key content) ≡ false) records → without_key n records key ≡ records
  unfolding IsStrictlySortedBy
  without-missing [] s h = refl
  without-missing (x ∷ xs) s h =
      let Q : List ℕ → Type 0 = λ content. is_eq (compared n key content) ≡ false in
      missing-cons x xs (compared n key x) refl (All-head Q x xs h) s.0 (without-missing xs s.1 (All-tail Q x xs h))

-- and where no record has the key
pub no-key : (n : ℕ) (records : List (List ℕ)) (key : List ℕ) → IsFile n records → has_key n records key ≡ false → without_key n records key ≡ records
no-key n records key file none = without-missing n key records file.order (find_nothing (λ content. is_eq (compared n key content)) records (nothing (record_at n records key) none))
  where
    nothing : (o : Option (List ℕ)) → is_some o ≡ false → o ≡ None
    nothing None h = refl
    nothing (Some x) h = absurd (cc h)

-- taking a key away that may not be there
pub removed-is : (n : ℕ) (records after : List (List ℕ)) (key : List ℕ) (is_there : Bool) → IsFile n after → is_there ≡ has_key n records key
    → after ≡ if_done (Ok is_there) (without_key n records key) records → after ≡ without_key n records key
removed-is n records after key true file h is = is
removed-is n records after key false file h is = is ∙ sym (no-key n records key (subst (IsFile n) is file) (sym h))
