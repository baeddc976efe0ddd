-- The refresh numbers of each terminal, with one refresh more.
use Rattle.std.proofs.Common.{◌≡◌, ◌≢◌, ℕ, ◌+◌, ◌<◌, ⊎_elim, Bool, true, false, not, cond, List, [], ◌∷◌, ◌++◌, length, length-append, Some, refl, sym, ap, subst, subst₂, ◌∙◌, append-nil, arith}
use Rattle.std.proofs.Math.ListN.{get_or, set}
use Rattle.std.proofs.lemmas.Bool.{cases_eq, eq-eqb, ne_eqb}
use Rattle.std.proofs.lemmas.List.{get_or-set_other, get_or-set_same, length-set}
use Rattle.std.proofs.lemmas.Option.{slice_get-get_or}
use Rattle.std.specs.BTreeSet.{BTreeSet, Updates, btree_set_len, contains}
use Rattle.std.specs.Ordering.{is_eq}
use Rattle.std.specs.Prelude.{slice_get, if◌then◌else◌}
use Rattle.pw_status.specs.Shown.{AreShownOf, HasNumbers, IsForgotten, IsNumberNoted, IsSameAs, no_numbers, numbers_of}
use Rattle.pw_report_text.proofs.Seen.{one-more, seen-more, seen-own, ties}
use Rattle.pw_report_text.specs.Listing.{refreshes_counted_once}
use Rattle.pw_report_text.specs.Numbers.{number_cmp, number_of_refresh}
use Rattle.pw_report_text.specs.declared.numbers.ListedRefreshNumber.{ListedRefreshNumber}
use Rattle.pw_onecopy.specs.Refreshes.{once, refreshes_of, same_number}
use Rattle.pw_onecopy.specs.declared.refresh.Refresh.{Refresh}
use Rattle.pw_laws.proofs.screens.Once.{has_number, once-new, once-there, parts-same, same-parts}
use Rattle.pw_laws.proofs.blocks.Own.{refreshes-more}

-- before the first refresh
pub none-shown : (t : ℕ) (numbers : BTreeSet ListedRefreshNumber) → numbers.keys ≡ [] → HasNumbers [] t numbers
none-shown t numbers none = record {
  has = λ r. ap (λ (keys : List ListedRefreshNumber). contains number_cmp (record { keys = keys }) (number_of_refresh r)) none;
  count = ap length none;
}

-- numbers that are the same
pub same-shown : (refreshes : List Refresh) (old new : List (BTreeSet ListedRefreshNumber)) → IsSameAs old new → AreShownOf refreshes old → AreShownOf refreshes new
same-shown refreshes old new same shown t low =
    let within : t < length old = subst (λ (n : ℕ). t < n) same.count low in
    let keys = same.keys t within in
    record {
      has = λ r. ap (λ (keys : List ListedRefreshNumber). contains number_cmp (record { keys = keys }) (number_of_refresh r)) keys ∙ (shown t within).has r;
      count = ap length keys ∙ (shown t within).count;
    }

-- of another terminal
other-more : (t k : ℕ) (refreshes : List Refresh) (r : Refresh) → r.terminal ≡ t → k ≢ t → refreshes_of k (refreshes ++ r ∷ []) ≡ refreshes_of k refreshes
other-more t k refreshes r own differ =
    one-more k refreshes r
    ∙ (ap (λ (b : Bool). refreshes_of k refreshes ++ (if b then r ∷ [] else [])) (ne_eqb r.terminal k (λ e. differ (sym e ∙ own)))
    ∙ append-nil (refreshes_of k refreshes))

-- one, where it is so
abbrev flagged : Bool → ℕ
flagged b = if b then 1 else 0

-- how many are counted once
count-more : (r : Refresh) (shown : List Refresh) (b : Bool) → has_number r shown ≡ b → length (once (shown ++ r ∷ [])) ≡ length (once shown) + (if not b then 1 else 0)
count-more r shown true is = let same = ap length (once-there r shown is) in omega (arith, same)
count-more r shown false is = let more = ap length (once-new r shown is) in let both = length-append (once shown) (r ∷ []) in omega (arith, more, both)

-- one refresh more
pub noted : (refreshes : List Refresh) (r : Refresh) (t : ℕ) (fresh : Bool) (old new : List (BTreeSet ListedRefreshNumber)) → t < length old → r.terminal ≡ t → IsNumberNoted t (number_of_refresh r) fresh old new
    → AreShownOf refreshes old → AreShownOf (refreshes ++ r ∷ []) new
noted refreshes r t fresh old new known own is shown k low =
    ⊎_elim
    (λ same. subst (λ (j : ℕ). HasNumbers (refreshes ++ r ∷ []) j (numbers_of new j)) (sym same) here)
    (λ differ. there differ)
    (cases_eq k t)
  where
    before : HasNumbers refreshes t (numbers_of old t)
    before = shown t known

    here : HasNumbers (refreshes ++ r ∷ []) t (numbers_of new t)
    here =
        let count = count-more r (refreshes_of t refreshes) (has_number r (refreshes_of t refreshes)) refl in
        let fresh_is : fresh ≡ not (has_number r (refreshes_of t refreshes)) = is.fresh_is ∙ ap not (before.has r) in
        let flag = ap flagged fresh_is in
        let whole : length (refreshes_counted_once (refreshes ++ r ∷ []) t) ≡ length (once (refreshes_of t refreshes ++ r ∷ [])) = ap (λ (l : List Refresh). length (once l)) (refreshes-more t refreshes r own) in
        let so = before.count in
        let now = is.count in
        record {
          has = seen-more t refreshes r (numbers_of old t) (numbers_of new t) before.has (seen-own t r (numbers_of old t) (numbers_of new t) (eq-eqb r.terminal t own) is.updates);
          count = omega (arith, count, flag, whole, so, now);
        }

    there : k ≢ t → HasNumbers (refreshes ++ r ∷ []) k (numbers_of new k)
    there differ =
        let within : k < length old = subst (λ (n : ℕ). k < n) (ap length is.sets ∙ length-set old t (numbers_of new t)) low in
        let same : numbers_of new k ≡ numbers_of old k = ap (λ (sets : List (BTreeSet ListedRefreshNumber)). get_or sets k no_numbers) is.sets ∙ get_or-set_other old t k (numbers_of new t) no_numbers differ in
        subst (λ (numbers : BTreeSet ListedRefreshNumber). HasNumbers (refreshes ++ r ∷ []) k numbers) (sym same)
        (record {
          has = λ other. (shown k within).has other ∙ sym (ap (has_number other) (other-more t k refreshes r own differ));
          count = (shown k within).count ∙ sym (ap (λ (l : List Refresh). length (once l)) (other-more t k refreshes r own differ));
        })

-- refreshes with equal parts have one number
named : (one other : Refresh) → one.phase ≡ other.phase → one.attempt ≡ other.attempt → one.k ≡ other.k → number_of_refresh one ≡ number_of_refresh other
named one other phase attempt k =
    ap (λ (n : ℕ). record { phase = n; attempt = one.attempt; k = one.k }) phase
    ∙ (ap (λ (n : ℕ). record { phase = other.phase; attempt = n; k = one.k }) attempt
    ∙ ap (λ (n : ℕ). record { phase = other.phase; attempt = other.attempt; k = n }) k)

-- a number that was new is forgotten
pub forgotten : (refreshes : List Refresh) (r : Refresh) (t : ℕ) (old mid new : List (BTreeSet ListedRefreshNumber)) → t < length old → IsNumberNoted t (number_of_refresh r) true old mid → IsForgotten t (number_of_refresh r) mid new
    → AreShownOf refreshes old → AreShownOf refreshes new
forgotten refreshes r t old mid new known is gone shown k low =
    ⊎_elim
    (λ same. subst (λ (j : ℕ). HasNumbers refreshes j (numbers_of new j)) (sym same) here)
    (λ differ. there differ)
    (cases_eq k t)
  where
    before : HasNumbers refreshes t (numbers_of old t)
    before = shown t known

    absent : contains number_cmp (numbers_of old t) (number_of_refresh r) ≡ false
    absent = not-true (contains number_cmp (numbers_of old t) (number_of_refresh r)) (sym is.fresh_is)
      where
        not-true : (b : Bool) → not b ≡ true → b ≡ false
        not-true true e = sym e
        not-true false e = refl

    present : contains number_cmp (numbers_of mid t) (number_of_refresh r) ≡ true
    present = is.updates.0 (number_of_refresh r) ∙ ap (λ (b : Bool). cond b true (contains number_cmp (numbers_of old t) (number_of_refresh r))) (ties r r ∙ itself)
      where
        itself : same_number r r ≡ true
        itself = parts-same r r refl refl refl

    each : (other : Refresh) (b : Bool) → same_number other r ≡ b → cond b false (cond b true (contains number_cmp (numbers_of old t) (number_of_refresh other))) ≡ contains number_cmp (numbers_of old t) (number_of_refresh other)
    each other true same =
        let parts = same-parts other r same in
        let number : number_of_refresh other ≡ number_of_refresh r = named other r parts.0 parts.1 parts.2 in
        sym (ap (contains number_cmp (numbers_of old t)) number ∙ absent)
    each other false same = refl

    here : HasNumbers refreshes t (numbers_of new t)
    here =
        let so = before.count in
        let now = is.count in
        let behind = gone.count present in
        record {
          has = λ other.
              gone.updates.0 (number_of_refresh other)
              ∙ (ap (λ (b : Bool). cond (is_eq (number_cmp (number_of_refresh r) (number_of_refresh other))) false b) (is.updates.0 (number_of_refresh other))
              ∙ (ap (λ (b : Bool). cond b false (cond b true (contains number_cmp (numbers_of old t) (number_of_refresh other)))) (ties r other)
              ∙ (each other (same_number other r) refl ∙ before.has other)));
          count = omega (arith, so, now, behind);
        }

    there : k ≢ t → HasNumbers refreshes k (numbers_of new k)
    there differ =
        let longer : length mid ≡ length old = ap length is.sets ∙ length-set old t (numbers_of mid t) in
        let within : k < length old = subst (λ (n : ℕ). k < n) (ap length gone.sets ∙ (length-set mid t (numbers_of new t) ∙ longer)) low in
        let first : numbers_of mid k ≡ numbers_of old k = ap (λ (sets : List (BTreeSet ListedRefreshNumber)). get_or sets k no_numbers) is.sets ∙ get_or-set_other old t k (numbers_of mid t) no_numbers differ in
        let second : numbers_of new k ≡ numbers_of mid k = ap (λ (sets : List (BTreeSet ListedRefreshNumber)). get_or sets k no_numbers) gone.sets ∙ get_or-set_other mid t k (numbers_of new t) no_numbers differ in
        subst (λ (numbers : BTreeSet ListedRefreshNumber). HasNumbers refreshes k numbers) (sym (second ∙ first)) (shown k within)

-- a number that was not new changes nothing
pub seen-again : (refreshes : List Refresh) (r : Refresh) (t : ℕ) (old new : List (BTreeSet ListedRefreshNumber)) → t < length old → IsNumberNoted t (number_of_refresh r) false old new
    → AreShownOf refreshes old → AreShownOf refreshes new
seen-again refreshes r t old new known is shown k low =
    ⊎_elim
    (λ same. subst (λ (j : ℕ). HasNumbers refreshes j (numbers_of new j)) (sym same) here)
    (λ differ. there differ)
    (cases_eq k t)
  where
    before : HasNumbers refreshes t (numbers_of old t)
    before = shown t known

    present : contains number_cmp (numbers_of old t) (number_of_refresh r) ≡ true
    present = not-false (contains number_cmp (numbers_of old t) (number_of_refresh r)) (sym is.fresh_is)
      where
        not-false : (b : Bool) → not b ≡ false → b ≡ true
        not-false true e = refl
        not-false false e = sym e

    each : (other : Refresh) (b : Bool) → same_number other r ≡ b → cond b true (contains number_cmp (numbers_of old t) (number_of_refresh other)) ≡ contains number_cmp (numbers_of old t) (number_of_refresh other)
    each other true same =
        let parts = same-parts other r same in
        let number : number_of_refresh other ≡ number_of_refresh r = named other r parts.0 parts.1 parts.2 in
        sym (ap (contains number_cmp (numbers_of old t)) number ∙ present)
    each other false same = refl

    here : HasNumbers refreshes t (numbers_of new t)
    here =
        let so = before.count in
        let now = is.count in
        record {
          has = λ other.
              is.updates.0 (number_of_refresh other)
              ∙ (ap (λ (b : Bool). cond b true (contains number_cmp (numbers_of old t) (number_of_refresh other))) (ties r other)
              ∙ (each other (same_number other r) refl ∙ before.has other));
          count = omega (arith, so, now);
        }

    there : k ≢ t → HasNumbers refreshes k (numbers_of new k)
    there differ =
        let within : k < length old = subst (λ (n : ℕ). k < n) (ap length is.sets ∙ length-set old t (numbers_of new t)) low in
        let same : numbers_of new k ≡ numbers_of old k = ap (λ (sets : List (BTreeSet ListedRefreshNumber)). get_or sets k no_numbers) is.sets ∙ get_or-set_other old t k (numbers_of new t) no_numbers differ in
        subst (λ (numbers : BTreeSet ListedRefreshNumber). HasNumbers refreshes k numbers) (sym same) (shown k within)

-- ---- a set in its place

-- an item that is there, whatever stands past the end
any-default : (sets : List (BTreeSet ListedRefreshNumber)) (t : ℕ) (before : BTreeSet ListedRefreshNumber) → t < length sets → before ≡ get_or sets t before → before ≡ numbers_of sets t
any-default sets t before low is =
    let one : slice_get sets t ≡ Some (get_or sets t before) = slice_get-get_or sets t before low in
    let other : slice_get sets t ≡ Some (get_or sets t no_numbers) = slice_get-get_or sets t no_numbers low in
    let same : get_or sets t before ≡ get_or sets t no_numbers = cc in
    is ∙ same

module _ (sets old : List (BTreeSet ListedRefreshNumber)) (t : ℕ) (number : ListedRefreshNumber) (before behind : BTreeSet ListedRefreshNumber) (view : sets ≡ old) (low : t < length old) (is : before ≡ get_or sets t before) where
  was : before ≡ numbers_of old t
  was = any-default sets t before (subst (λ (l : List (BTreeSet ListedRefreshNumber)). t < length l) (sym view) low) is ∙ ap (λ (l : List (BTreeSet ListedRefreshNumber)). numbers_of l t) view

  now-is : numbers_of (set sets t behind) t ≡ behind
  now-is = get_or-set_same sets t behind no_numbers (subst (λ (l : List (BTreeSet ListedRefreshNumber)). t < length l) (sym view) low)

  placed : set sets t behind ≡ set old t (numbers_of (set sets t behind) t)
  placed = ap (λ (l : List (BTreeSet ListedRefreshNumber)). set l t behind) view ∙ ap (λ (numbers : BTreeSet ListedRefreshNumber). set old t numbers) (sym now-is)

  pub is-noted : (fresh : Bool) → fresh ≡ not (contains number_cmp before number) → Updates number_cmp before behind number true
      → btree_set_len behind ≡ btree_set_len before + (if fresh then 1 else 0) → IsNumberNoted t number fresh old (set sets t behind)
  is-noted fresh fresh_is updates count = record {
    sets = placed;
    fresh_is = fresh_is ∙ ap (λ (numbers : BTreeSet ListedRefreshNumber). not (contains number_cmp numbers number)) was;
    updates = subst₂ (λ (a b : BTreeSet ListedRefreshNumber). Updates number_cmp a b number true) was (sym now-is) updates;
    count = ap btree_set_len now-is ∙ (count ∙ ap (λ (numbers : BTreeSet ListedRefreshNumber). btree_set_len numbers + (if fresh then 1 else 0)) was);
  }

  pub is-forgotten : (there : Bool) → there ≡ contains number_cmp before number → Updates number_cmp before behind number false
      → btree_set_len behind + (if there then 1 else 0) ≡ btree_set_len before → IsForgotten t number old (set sets t behind)
  is-forgotten there test updates count = record {
    sets = placed;
    updates = subst₂ (λ (a b : BTreeSet ListedRefreshNumber). Updates number_cmp a b number false) was (sym now-is) updates;
    count = λ present.
        let flag = ap flagged (test ∙ (ap (λ (numbers : BTreeSet ListedRefreshNumber). contains number_cmp numbers number) was ∙ present)) in
        let here = ap btree_set_len now-is in
        let first = ap btree_set_len was in
        omega (arith, flag, here, first, count);
  }
