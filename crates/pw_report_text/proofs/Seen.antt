-- The numbers that were seen are those of the refreshes so far.
use Rattle.std.proofs.Common.{◌≡◌, ℕ, ◌+◌, ◌<◌, ⊎_elim, ◌==◌, ◌&&◌, ◌||◌, Bool, true, false, cond, List, [], ◌∷◌, ◌++◌, length, take, get_or, if◌then◌else◌, refl, ap, sym, append-nil, append_assoc, ◌∙◌}
use Rattle.std.proofs.lemmas.Bool.{cases_Bool, true≢false}
use Rattle.std.specs.Cmp.{unsigned_tied}
use Rattle.std.proofs.lemmas.List.Folds.{list_any-append}
use Rattle.std.specs.BTreeSet.{BTreeSet, Updates, contains}
use Rattle.std.specs.Ordering.{is_eq, nat_cmp, ordering_then}
use Rattle.std.specs.declared.cmp.Ordering.{Ordering}
use Rattle.std.specs.declared.cmp.Ordering.TheVariants.{Less, Equal, Greater}
use Rattle.std.proofs.lemmas.List.{take_more}
use Rattle.pw_code.specs.declared.system.System.{System}
use Rattle.pw_report_text.specs.Lines.{refresh_part, refresh_parts}
use Rattle.pw_report_text.specs.Listing.{refreshes_counted_once}
use Rattle.pw_report_text.specs.Numbers.{first_part, is_seen, number_cmp, number_of_refresh}
use Rattle.pw_report_text.specs.declared.numbers.ListedRefreshNumber.{ListedRefreshNumber}
use Rattle.pw_onecopy.specs.Refreshes.{once, refreshes_of, same_number}
use Rattle.pw_onecopy.specs.declared.refresh.Refresh.{Refresh}
use Rattle.pw_laws.proofs.screens.Once.{has_number, once-new, once-there, same-back}

-- the set has the numbers of these refreshes, and no other
abbrev pub HasSeen : BTreeSet ListedRefreshNumber → List Refresh → Type 0
HasSeen seen shown = (r : Refresh) → contains number_cmp seen (number_of_refresh r) ≡ has_number r shown

eq-then : (a b : Ordering) → is_eq (ordering_then a b) ≡ (is_eq a && is_eq b)
eq-then Less b = refl
eq-then Equal b = refl
eq-then Greater b = refl

same-swap : (a b : Refresh) → same_number a b ≡ same_number b a
same-swap a b =
    ⊎_elim (λ same. same ∙ sym (same-back a b same))
    (λ other. other ∙ sym (⊎_elim (λ same. absurd (true≢false (sym (same-back b a same) ∙ other))) (λ is. is) (cases_Bool (same_number b a)))) (cases_Bool (same_number a b))

-- numbers compare equal where they are the same
pub ties : (r other : Refresh) → is_eq (number_cmp (number_of_refresh r) (number_of_refresh other)) ≡ same_number other r
ties r other =
    eq-then (nat_cmp r.phase other.phase) (ordering_then (nat_cmp r.attempt other.attempt) (nat_cmp r.k other.k))
    ∙ (ap (λ (b : Bool). is_eq (nat_cmp r.phase other.phase) && b) (eq-then (nat_cmp r.attempt other.attempt) (nat_cmp r.k other.k))
    ∙ (ap (λ (b : Bool). b && (is_eq (nat_cmp r.attempt other.attempt) && is_eq (nat_cmp r.k other.k))) (unsigned_tied r.phase other.phase)
    ∙ (ap (λ (b : Bool). r.phase == other.phase && (b && is_eq (nat_cmp r.k other.k))) (unsigned_tied r.attempt other.attempt)
    ∙ (ap (λ (b : Bool). r.phase == other.phase && (r.attempt == other.attempt && b)) (unsigned_tied r.k other.k)
    ∙ same-swap r other))))

chosen : (b c : Bool) → cond b true c ≡ (c || b)
chosen true true = refl
chosen true false = refl
chosen false true = refl
chosen false false = refl

-- behind the number of a refresh of the terminal
pub seen-own : (t : ℕ) (r : Refresh) (seen next : BTreeSet ListedRefreshNumber) → (r.terminal == t) ≡ true → Updates number_cmp seen next (number_of_refresh r) true
    → (other : Refresh) → contains number_cmp next (number_of_refresh other) ≡ is_seen t r seen other
seen-own t r seen next own updates other =
    updates.0 (number_of_refresh other)
    ∙ (ap (λ (b : Bool). cond b true (contains number_cmp seen (number_of_refresh other))) (ties r other)
    ∙ (chosen (same_number other r) (contains number_cmp seen (number_of_refresh other))
    ∙ ap (λ (b : Bool). contains number_cmp seen (number_of_refresh other) || (b && same_number other r)) (sym own)))

or-false : (b : Bool) → b ≡ (b || false)
or-false true = refl
or-false false = refl

-- behind one of another terminal
pub seen-other : (t : ℕ) (r : Refresh) (seen : BTreeSet ListedRefreshNumber) → (r.terminal == t) ≡ false → (other : Refresh) → contains number_cmp seen (number_of_refresh other) ≡ is_seen t r seen other
seen-other t r seen differ other =
    or-false (contains number_cmp seen (number_of_refresh other)) ∙ ap (λ (b : Bool). contains number_cmp seen (number_of_refresh other) || (b && same_number other r)) (sym differ)

-- the refreshes of a terminal with one more
pub one-more : (t : ℕ) (all : List Refresh) (r : Refresh) → refreshes_of t (all ++ r ∷ []) ≡ refreshes_of t all ++ (if r.terminal == t then r ∷ [] else [])
one-more t [] r = refl
one-more t (x ∷ all) r = by (x.terminal == t) (one-more t all r)
  where
    by : (b : Bool) → refreshes_of t (all ++ r ∷ []) ≡ refreshes_of t all ++ (if r.terminal == t then r ∷ [] else [])
        → cond b (x ∷ refreshes_of t (all ++ r ∷ [])) (refreshes_of t (all ++ r ∷ [])) ≡ cond b (x ∷ refreshes_of t all) (refreshes_of t all) ++ (if r.terminal == t then r ∷ [] else [])
    by true rest = ap (λ (l : List Refresh). x ∷ l) rest
    by false rest = rest

parts-more : (system : System) (xs ys : List Refresh) → refresh_parts system (xs ++ ys) ≡ refresh_parts system xs ++ refresh_parts system ys
parts-more system [] ys = refl
parts-more system (x ∷ xs) ys =
    ap (λ (text : List ℕ). refresh_part system x ++ text) (parts-more system xs ys) ∙ sym (append_assoc (refresh_part system x) (refresh_parts system xs) (refresh_parts system ys))

-- the screens so far with one refresh more
text-more : (system : System) (t : ℕ) (all : List Refresh) (r : Refresh) (seen : BTreeSet ListedRefreshNumber) → HasSeen seen (refreshes_of t all)
    → refresh_parts system (refreshes_counted_once (all ++ r ∷ []) t) ≡ refresh_parts system (refreshes_counted_once all t) ++ first_part system t seen r
text-more system t all r seen has =
    ap (λ (l : List Refresh). refresh_parts system (once l)) (one-more t all r)
    ∙ (by (r.terminal == t) ∙ ap (λ (b : Bool). refresh_parts system (refreshes_counted_once all t) ++ (if r.terminal == t then (if b then [] else refresh_part system r) else [])) (sym (has r)))
  where
    here : (b : Bool) → has_number r (refreshes_of t all) ≡ b
        → refresh_parts system (once (refreshes_of t all ++ r ∷ [])) ≡ refresh_parts system (refreshes_counted_once all t) ++ (if b then [] else refresh_part system r)
    here true is = ap (refresh_parts system) (once-there r (refreshes_of t all) is) ∙ sym (append-nil (refresh_parts system (refreshes_counted_once all t)))
    here false is =
        ap (refresh_parts system) (once-new r (refreshes_of t all) is)
        ∙ (parts-more system (refreshes_counted_once all t) (r ∷ []) ∙ ap (λ (text : List ℕ). refresh_parts system (refreshes_counted_once all t) ++ text) (append-nil (refresh_part system r)))

    by : (b : Bool) → refresh_parts system (once (refreshes_of t all ++ (if b then r ∷ [] else [])))
        ≡ refresh_parts system (refreshes_counted_once all t) ++ (if b then (if has_number r (refreshes_of t all) then [] else refresh_part system r) else [])
    by true = here (has_number r (refreshes_of t all)) refl
    by false =
        ap (λ (l : List Refresh). refresh_parts system (once l)) (append-nil (refreshes_of t all)) ∙ sym (append-nil (refresh_parts system (refreshes_counted_once all t)))

-- and the numbers
pub seen-more : (t : ℕ) (all : List Refresh) (r : Refresh) (seen next : BTreeSet ListedRefreshNumber) → HasSeen seen (refreshes_of t all)
    → ((other : Refresh) → contains number_cmp next (number_of_refresh other) ≡ is_seen t r seen other) → HasSeen next (refreshes_of t (all ++ r ∷ []))
seen-more t all r seen next has is other =
    is other
    ∙ (ap (λ (b : Bool). b || (r.terminal == t && same_number other r)) (has other)
    ∙ (by (r.terminal == t) ∙ sym (ap (has_number other) (one-more t all r) ∙ list_any-append (same_number other) (refreshes_of t all) (if r.terminal == t then r ∷ [] else []))))
  where
    by : (b : Bool) → (has_number other (refreshes_of t all) || (b && same_number other r))
        ≡ (has_number other (refreshes_of t all) || has_number other (if b then r ∷ [] else []))
    by true = ap (λ (c : Bool). has_number other (refreshes_of t all) || c) (or-false (same_number other r))
    by false = refl

-- the same, by the refresh there
take-item : (all : List Refresh) (i : ℕ) (r : Refresh) → i < length all → r ≡ get_or all i r → take (i + 1) all ≡ take i all ++ r ∷ []
take-item all i r within is = take_more all i r within ∙ ap (λ (x : Refresh). take i all ++ x ∷ []) (sym is)

pub text-step : (system : System) (t i : ℕ) (all : List Refresh) (r : Refresh) (seen : BTreeSet ListedRefreshNumber) (first before behind : List ℕ) → i < length all → r ≡ get_or all i r
    → HasSeen seen (refreshes_of t (take i all)) → before ≡ first ++ refresh_parts system (refreshes_counted_once (take i all) t) → behind ≡ before ++ first_part system t seen r
    → behind ≡ first ++ refresh_parts system (refreshes_counted_once (take (i + 1) all) t)
text-step system t i all r seen first before behind within item has so is =
    is ∙ (ap (λ (text : List ℕ). text ++ first_part system t seen r) so
    ∙ (append_assoc first (refresh_parts system (refreshes_counted_once (take i all) t)) (first_part system t seen r)
    ∙ ap (λ (text : List ℕ). first ++ text)
    (sym (ap (λ (l : List Refresh). refresh_parts system (refreshes_counted_once l t)) (take-item all i r within item) ∙ text-more system t (take i all) r seen has))))

pub seen-step : (t i : ℕ) (all : List Refresh) (r : Refresh) (seen next : BTreeSet ListedRefreshNumber) → i < length all → r ≡ get_or all i r → HasSeen seen (refreshes_of t (take i all))
    → ((other : Refresh) → contains number_cmp next (number_of_refresh other) ≡ is_seen t r seen other) → HasSeen next (refreshes_of t (take (i + 1) all))
seen-step t i all r seen next within item has is =
    λ other. seen-more t (take i all) r seen next has is other ∙ ap (λ (l : List Refresh). has_number other (refreshes_of t l)) (sym (take-item all i r within item))
