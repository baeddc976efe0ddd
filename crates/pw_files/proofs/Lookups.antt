-- What a file answers for a key, and what a change of the records makes of that.
use Rattle.std.proofs.Common.{◌≡◌, ◌≢◌, ℕ, suc, ◌∙◌, sym, ap, refl, arith, Bool, true, false, cond, List, [], ◌∷◌, ◌++◌, take, Some, None}
use Rattle.std.specs.Prelude.{filter, find, All, Contains}
use Rattle.std.specs.Option.{option_or}
use Rattle.std.specs.Ordering.{is_lt, is_eq, is_gt}
use Rattle.std.specs.declared.cmp.Ordering.{Ordering}
use Rattle.std.specs.declared.cmp.Ordering.TheVariants.{Less, Equal, Greater}
use Rattle.std.proofs.lemmas.Cmp.{nat_list_cmp_total, tied_itself}
use Rattle.std.proofs.lemmas.List.Elements.{All-nil, All-cons}
use Rattle.std.proofs.lemmas.List.Folds.{find-append}
use Rattle.std.proofs.lemmas.Map.Lookups.{exact_bytes}
use Rattle.pw_base.proofs.Plain.{is_eq-Equal, option_or-None}
use Rattle.pw_files.specs.Records.{key_cmp, compared, below, above, record_at, with_record, without_key}

-- a test that passes only what another passes finds the same in what the other keeps
find-filter : {X : Type 0} (p q : X → Bool) → ((x : X) → p x ≡ true → q x ≡ true) → (xs : List X) → find p (filter q xs) ≡ find p xs
find-filter p q h [] = refl
find-filter {X} p q h (x ∷ xs) =
    let rest : find p (filter q xs) ≡ find p xs = find-filter p q h xs in
    let kept : p x ≡ true → q x ≡ true = h x in
    let at : (a b : Bool) → p x ≡ a → q x ≡ b → find p (cond b (x ∷ filter q xs) (filter q xs)) ≡ cond a (Some x) (find p xs) =
    λ a b is_a is_b. elim a as (λ a. p x ≡ a → find p (cond b (x ∷ filter q xs) (filter q xs)) ≡ cond a (Some x) (find p xs)) [
      | true ↦ λ e. let passes : b ≡ true = sym is_b ∙ kept e in ap (λ b. find p (cond b (x ∷ filter q xs) (filter q xs))) passes ∙ ap (λ a. cond a (Some x) (find p (filter q xs))) e
      | false ↦ λ e. elim b as (λ b. find p (cond b (x ∷ filter q xs) (filter q xs)) ≡ find p xs) [ true ↦ ap (λ a. cond a (Some x) (find p (filter q xs))) e ∙ rest | false ↦ rest ]
    ] is_a in
    at (p x) (q x) refl refl

-- a test that passes only what another does not finds nothing in what the other keeps
find-filter_none : {X : Type 0} (p q : X → Bool) → ((x : X) → p x ≡ true → q x ≡ false) → (xs : List X) → find p (filter q xs) ≡ None
find-filter_none p q h [] = refl
find-filter_none {X} p q h (x ∷ xs) =
    let rest : find p (filter q xs) ≡ None = find-filter_none p q h xs in
    let kept : p x ≡ true → q x ≡ false = h x in
    let at : (a b : Bool) → p x ≡ a → q x ≡ b → find p (cond b (x ∷ filter q xs) (filter q xs)) ≡ None =
    λ a b is_a is_b. elim b as (λ b. q x ≡ b → find p (cond b (x ∷ filter q xs) (filter q xs)) ≡ None) [
      | true ↦ λ e. elim a as (λ a. p x ≡ a → cond (p x) (Some x) (find p (filter q xs)) ≡ None) [
        | true ↦ λ f. let no : true ≡ false = sym e ∙ kept f in cc
        | false ↦ λ f. ap (λ a. cond a (Some x) (find p (filter q xs))) f ∙ rest
      ] is_a
      | false ↦ λ e. rest
    ] is_b in
    at (p x) (q x) refl refl

-- what is found is in the list and passes the test
pub find_some : {X : Type 0} (p : X → Bool) (xs : List X) (y : X) → find p xs ≡ Some y → Contains xs y × (p y ≡ true)
find_some p [] y h = let no : None ≡ Some y = h in cc
find_some {X} p (x ∷ xs) y h =
    let at : (a : Bool) → p x ≡ a → cond a (Some x) (find p xs) ≡ Some y → Contains (x ∷ xs) y × (p y ≡ true) =
    λ a is. elim a as (λ a. p x ≡ a → cond a (Some x) (find p xs) ≡ Some y → Contains (x ∷ xs) y × (p y ≡ true)) [
      | true ↦ λ e f. let same : x ≡ y = cc in ((0, omega arith, same), ap p (sym same) ∙ e)
      | false ↦ λ e f. let found = find_some p xs y f in ((suc found.0.0, omega (arith, found.0.1), found.0.2), found.1)
    ] is in
    at (p x) refl h

-- where nothing is found, nothing passes the test
pub find_nothing : {X : Type 0} (p : X → Bool) (xs : List X) → find p xs ≡ None → All (λ x. p x ≡ false) xs
find_nothing p [] h = All-nil (λ x. p x ≡ false)
find_nothing {X} p (x ∷ xs) h =
    let at : (a : Bool) → p x ≡ a → cond a (Some x) (find p xs) ≡ None → All (λ x. p x ≡ false) (x ∷ xs) =
    λ a is. elim a as (λ a. p x ≡ a → cond a (Some x) (find p xs) ≡ None → All (λ x. p x ≡ false) (x ∷ xs)) [
      | true ↦ λ e f. cc
      | false ↦ λ e f. All-cons (λ x. p x ≡ false) x xs e (find_nothing p xs f)
    ] is in
    at (p x) refl h

-- equal is not less
eq_not_lt : (o : Ordering) → is_eq o ≡ true → is_lt o ≡ false
eq_not_lt Less h = cc
eq_not_lt Equal h = refl
eq_not_lt Greater h = refl

-- equal is not greater
eq_not_gt : (o : Ordering) → is_eq o ≡ true → is_gt o ≡ false
eq_not_gt Less h = refl
eq_not_gt Equal h = refl
eq_not_gt Greater h = cc

module _ (n : ℕ) (records : List (List ℕ)) where
  -- the record that is found for a key is one of the file, and has that key
  pub record_at-found : (key content : List ℕ) → record_at n records key ≡ Some content → Contains records content × (take n content ≡ key)
  record_at-found key content h =
      let found = find_some (λ c. is_eq (compared n key c)) records content h in
      (found.0, exact_bytes (take n content) key (is_eq-Equal (compared n key content) found.1))

  -- where none is found, no record has the key
  pub record_at-missing : (key : List ℕ) → record_at n records key ≡ None → All (λ content. is_eq (compared n key content) ≡ false) records
  record_at-missing key h = find_nothing (λ c. is_eq (compared n key c)) records h

  module _ (key other : List ℕ) where
    test : List ℕ → Bool
    test content = is_eq (compared n other content)

    -- records with the other key are all on its side of the key
    side : (f : Ordering → Bool) (o : Ordering) → key_cmp other key ≡ o → (content : List ℕ) → test content ≡ true → f (compared n key content) ≡ f o
    unfolding test
    side f o is content h = ap (λ k. f (key_cmp k key)) (exact_bytes (take n content) other (is_eq-Equal (compared n other content) h)) ∙ ap f is

    -- so what stands in place of the key does not matter for the other one
    beside : (o : Ordering) → key_cmp other key ≡ o → (o ≡ Equal → ⊥) → (middle : List (List ℕ)) → find test middle ≡ None → find test (below n records key ++ (middle ++ above n records key)) ≡ find test records
    beside Less is ne middle none =
        find-append test (below n records key) (middle ++ above n records key)
        ∙ ap (λ o. option_or o (find test (middle ++ above n records key))) (find-filter test (λ c. is_lt (compared n key c)) (side is_lt Less is) records)
        ∙ ap (λ o. option_or (find test records) o) (find-append test middle (above n records key) ∙ ap (λ o. option_or o (find test (above n records key))) none ∙ find-filter_none test (λ c. is_gt (compared n key c)) (side is_gt Less is) records)
        ∙ option_or-None (find test records)
    beside Equal is ne middle none = absurd (ne refl)
    beside Greater is ne middle none =
        find-append test (below n records key) (middle ++ above n records key)
        ∙ ap (λ o. option_or o (find test (middle ++ above n records key))) (find-filter_none test (λ c. is_lt (compared n key c)) (side is_lt Greater is) records)
        ∙ find-append test middle (above n records key)
        ∙ ap (λ o. option_or o (find test (above n records key))) none
        ∙ find-filter test (λ c. is_gt (compared n key c)) (side is_gt Greater is) records

  -- the record that was put is found at its key
  pub record_at-with_record : (content : List ℕ) → record_at n (with_record n records content) (take n content) ≡ Some content
  record_at-with_record content =
      let key : List ℕ = take n content in
      let p : List ℕ → Bool = λ c. is_eq (compared n key c) in
      find-append p (below n records key) (content ∷ above n records key)
      ∙ ap (λ o. option_or o (find p (content ∷ above n records key))) (find-filter_none p (λ c. is_lt (compared n key c)) (λ c. eq_not_lt (compared n key c)) records)
      ∙ ap (λ o. cond (is_eq o) (Some content) (find p (above n records key))) (tied_itself nat_list_cmp_total key)

  -- the other keys have the records that they had
  pub record_at-with_other : (content other : List ℕ) → other ≢ take n content → record_at n (with_record n records content) other ≡ record_at n records other
  unfolding test
  record_at-with_other content other ne =
      let key : List ℕ = take n content in
      let differ : (o : Ordering) → key_cmp other key ≡ o → o ≡ Equal → ⊥ = λ o is e. ne (exact_bytes other key (is ∙ e)) in
      let here : (b : Bool) → is_eq (compared n other content) ≡ b → cond b (Some content) None ≡ None =
      λ b is. elim b as (λ b. is_eq (compared n other content) ≡ b → cond b (Some content) None ≡ None) [ true ↦ λ e. absurd (ne (sym (exact_bytes key other (is_eq-Equal (compared n other content) e)))) | false ↦ λ e. refl ] is in
      beside key other (key_cmp other key) refl (differ (key_cmp other key) refl) (content ∷ []) (here (is_eq (compared n other content)) refl)

  -- a key whose record was taken away has none
  pub record_at-without_key : (key : List ℕ) → record_at n (without_key n records key) key ≡ None
  record_at-without_key key =
      let p : List ℕ → Bool = λ c. is_eq (compared n key c) in
      find-append p (below n records key) (above n records key)
      ∙ ap (λ o. option_or o (find p (above n records key))) (find-filter_none p (λ c. is_lt (compared n key c)) (λ c. eq_not_lt (compared n key c)) records)
      ∙ find-filter_none p (λ c. is_gt (compared n key c)) (λ c. eq_not_gt (compared n key c)) records

  -- the other keys have the records that they had
  pub record_at-without_other : (key other : List ℕ) → other ≢ key → record_at n (without_key n records key) other ≡ record_at n records other
  unfolding test
  record_at-without_other key other ne = beside key other (key_cmp other key) refl (λ e. ne (exact_bytes other key e)) [] refl
