-- The record after a key is the nearest one above it.
use Rattle.std.proofs.Common.{◌≡◌, ℕ, ◌∙◌, sym, ap, subst, refl, Bool, true, false, cond, List, [], ◌∷◌, map, take, Some, None}
use Rattle.std.specs.Prelude.{filter, find, slice_get, All, Contains}
use Rattle.std.specs.List.{AllByRecursion}
use Rattle.std.specs.List.Sorted.{IsStrictlySortedBy}
use Rattle.std.specs.Ordering.{is_lt, is_gt, ordering_reverse}
use Rattle.std.specs.declared.cmp.Ordering.TheVariants.{Less}
use Rattle.std.proofs.lemmas.Cmp.{nat_list_cmp_total, tied_itself}
use Rattle.std.proofs.lemmas.List.Elements.{All-from_recursion}
use Rattle.pw_files.specs.Records.{key_cmp, compared, record_after, IsFile}
use Rattle.pw_files.proofs.Lookups.{find_some, find_nothing}

-- the first item that a test keeps is the one that it finds
find_first : {X : Type 0} (p : X → Bool) (xs : List X) → slice_get (filter p xs) 0 ≡ find p xs
find_first p [] = refl
find_first p (x ∷ xs) =
    elim (p x) as (λ b. slice_get (cond b (x ∷ filter p xs) (filter p xs)) 0 ≡ cond b (Some x) (find p xs)) [ true ↦ refl | false ↦ find_first p xs ]

module _ (n : ℕ) (key : List ℕ) where
  is_after : List ℕ → Bool
  is_after content = is_gt (compared n key content)

  -- a content that is above the key is not below the one that is found
  abbrev NotNearer : List ℕ → List ℕ → Type 0
  NotNearer content other = is_gt (compared n key other) ≡ true → is_lt (key_cmp (take n other) (take n content)) ≡ false

  -- contents with later keys are not nearer
  later : (content : List ℕ) (others : List (List ℕ)) → AllByRecursion (λ k. key_cmp (take n content) k ≡ Less) (map (λ c. take n c) others) → AllByRecursion (NotNearer content) others
  later content [] h = tt
  later content (other ∷ others) h =
      (λ e. ap is_lt (nat_list_cmp_total.antisymm (take n other) (take n content) ∙ ap ordering_reverse h.0), later content others h.1)

  none_nearer : (records : List (List ℕ)) → IsStrictlySortedBy key_cmp (map (λ c. take n c) records) → (content : List ℕ) → find is_after records ≡ Some content → AllByRecursion (NotNearer content) records
  unfolding is_after IsStrictlySortedBy
  none_nearer [] sorted content h = tt
  none_nearer (x ∷ xs) sorted content h =
      let at : (a : Bool) → is_gt (compared n key x) ≡ a → cond a (Some x) (find is_after xs) ≡ Some content → AllByRecursion (NotNearer content) (x ∷ xs) =
      λ a is. elim a as (λ a. is_gt (compared n key x) ≡ a → cond a (Some x) (find is_after xs) ≡ Some content → AllByRecursion (NotNearer content) (x ∷ xs)) [
        | true ↦ λ e f.
            let same : x ≡ content = cc in
            subst (λ c. AllByRecursion (NotNearer c) (x ∷ xs)) same (λ g. ap is_lt (tied_itself nat_list_cmp_total (take n x)), later x xs sorted.0)
        | false ↦ λ e f. (λ g. let no : true ≡ false = sym g ∙ e in cc, none_nearer xs sorted.1 content f)
      ] is in
      at (is_gt (compared n key x)) refl h

  -- the record that is found after a key is one of the file, is above the key, and no other that is above the key is nearer
  pub record_after-found : (records : List (List ℕ)) (content : List ℕ) → record_after n records key ≡ Some content → Contains records content × (is_gt (compared n key content) ≡ true)
  record_after-found records content h =
      find_some (λ c. is_gt (compared n key c)) records content (sym (find_first (λ c. is_gt (compared n key c)) records) ∙ h)

  pub record_after-nearest : (records : List (List ℕ)) (content : List ℕ) → IsFile n records → record_after n records key ≡ Some content → All (λ other. is_gt (compared n key other) ≡ true → is_lt (key_cmp (take n other) (take n content)) ≡ false) records
  unfolding is_after
  record_after-nearest records content file h =
      All-from_recursion (NotNearer content) records
      (none_nearer records file.order content (sym (find_first (λ c. is_gt (compared n key c)) records) ∙ h))

  -- where none is found, no key is above this one
  pub record_after-missing : (records : List (List ℕ)) → record_after n records key ≡ None → All (λ content. is_gt (compared n key content) ≡ false) records
  record_after-missing records h =
      find_nothing (λ c. is_gt (compared n key c)) records (sym (find_first (λ c. is_gt (compared n key c)) records) ∙ h)
