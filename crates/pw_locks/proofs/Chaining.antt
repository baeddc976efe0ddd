-- Runs of locks in chains.
use Rattle.std.proofs.Common.{◌≡◌, ℕ, zero, suc, ◌<◌, List, [], ◌∷◌, ◌++◌, ◌||◌, Bool, true, false, cond, Option, Some, None, Result, Ok, Err, length, take, drop, get_or, set, refl, sym, ap, subst, ◌∙◌, arith}
use Rattle.std.specs.Prelude.{IsSome, OnOk, OnErr, ◌==◌, vec_len}
use Rattle.std.specs.BTreeMap.{BTreeMap, get, is_at, Updates, WritesThrough}
use Rattle.std.specs.Cmp.{IsTotalOrder}
use Rattle.std.specs.Cmp.Lexicographic.{slice_cmp}
use Rattle.std.specs.List.{list_any}
use Rattle.std.specs.Global.{Vec}
use Rattle.std.specs.Map.{lookup}
use Rattle.std.specs.Ordering.{nat_cmp, is_lt, is_gt, ordering_reverse}
use Rattle.std.specs.declared.cmp.Ordering.{Ordering}
use Rattle.std.specs.declared.cmp.Ordering.TheVariants.{Less, Equal, Greater}
use Rattle.std.proofs.lemmas.Bool.{and_parts, and_from}
use Rattle.std.proofs.lemmas.Bool.Decides.{nat_tests}
use Rattle.std.proofs.lemmas.Cmp.{nat_list_cmp_total}
use Rattle.std.proofs.lemmas.Map.Lookups.{exact_bytes}
use Rattle.std.proofs.lemmas.Slice.Eq.{bytes_eq-Decides}
use Rattle.pw_base.proofs.Plain.{or-true, is_eq-Equal}
use Rattle.pw_locks.specs.Indexes.{has}
use Rattle.pw_locks.specs.Keys.{is_below, ends_by, is_same_end}
use Rattle.pw_locks.specs.Runs.{found_run, is_in_runs, EndsLast, EndsFirst, IsRising, FitsAmongSpans}
use Rattle.pw_locks.specs.Spans.{Precedes}
use Rattle.pw_locks.specs.declared.run.SpanLocks.{SpanLocks}
use Rattle.pw_locks.proofs.Order.{not-itself, below-Precedes, Precedes-below, Precedes-up_to, up_to-IsUpTo, IsUpTo-up_to}

abbrev Key : Type 0
Key = List ℕ

abbrev Runs : Type 0
Runs = BTreeMap Key SpanLocks

abbrev key_cmp : Key → Key → Ordering
key_cmp = slice_cmp nat_cmp

total : IsTotalOrder key_cmp
total = nat_list_cmp_total

-- high ends in order

pub ends_by-itself : (a : Option Key) → ends_by a a ≡ true
ends_by-itself None = refl
ends_by-itself (Some a) = IsUpTo-up_to a (Some a) (not-itself a)

pub ends_by-trans : (a b c : Option Key) → ends_by a b ≡ true → ends_by b c ≡ true → ends_by a c ≡ true
ends_by-trans a b None p q = refl
ends_by-trans a None (Some c) p q = absurd (cc q)
ends_by-trans None (Some b) (Some c) p q = absurd (cc p)
ends_by-trans (Some a) (Some b) (Some c) p q =
    IsUpTo-up_to a (Some c) (λ h. up_to-IsUpTo b (Some c) q (Precedes-up_to c a b h (up_to-IsUpTo a (Some b) p)))

pub same_end-is : (a b : Option Key) → is_same_end a b ≡ true → a ≡ b
same_end-is None None h = refl
same_end-is None (Some b) h = absurd (cc h)
same_end-is (Some a) None h = absurd (cc h)
same_end-is (Some a) (Some b) h = ap (λ (k : Key). Some k) ((bytes_eq-Decides a b).0 h)

pub same_end-itself : (a : Option Key) → is_same_end a a ≡ true
same_end-itself None = refl
same_end-itself (Some a) = (bytes_eq-Decides a a).1 refl

-- look-ups of runs

pub at_same : (low other : Key) → is_at (key_cmp low) other ≡ true → low ≡ other
at_same low other h = exact_bytes low other (is_eq-Equal (key_cmp low other) h)

back : (a b : Key) → key_cmp a b ≡ Greater → Precedes b a
back a b p = total.antisymm b a ∙ ap ordering_reverse p

pub one_run : (runs : Runs) (a b : Key) (run other : SpanLocks) → a ≡ b → get key_cmp runs a ≡ Some run → get key_cmp runs b ≡ Some other → run ≡ other
one_run runs a b run other same is there =
    let e : get key_cmp runs a ≡ get key_cmp runs b = ap (get key_cmp runs) same in
    cc

is_there : (found : Option SpanLocks) (run : SpanLocks) → found ≡ Some run → IsSome found
is_there found run is = subst IsSome (sym is) refl

-- the last of the earlier spans shows that none of them ends later
pub last-from : (runs : Runs) → IsRising runs → (low at : Key) (high : Option Key) (run : SpanLocks) → get key_cmp runs at ≡ Some run → ends_by run.high high ≡ true
    → ((q : Key) → Precedes q low → IsSome (get key_cmp runs q) → is_lt (key_cmp at q) ≡ false) → EndsLast runs low high
last-from runs rising low at high run is ends greatest = λ other held there below.
    elim (key_cmp at other) as (λ r. key_cmp at other ≡ r → ends_by held.high high ≡ true) [
      | Less ↦ λ p. let no = greatest other (below-Precedes other low below) (is_there (get key_cmp runs other) held there) in let yes = ap is_lt p in absurd (cc (no, yes))
      | Equal ↦ λ p. subst (λ (r : SpanLocks). ends_by r.high high ≡ true) (one_run runs at other run held (exact_bytes at other p) is there) ends
      | Greater ↦ λ p. ends_by-trans held.high run.high high (rising at run is other held there (Precedes-below other at (back at other p))) ends
    ] refl

-- the first of the later spans shows that none of them ends earlier
pub first-from : (runs : Runs) → IsRising runs → (low at : Key) (high : Option Key) (run : SpanLocks) → get key_cmp runs at ≡ Some run → ends_by high run.high ≡ true
    → ((q : Key) → Precedes low q → IsSome (get key_cmp runs q) → is_gt (key_cmp at q) ≡ false) → EndsFirst runs low high
first-from runs rising low at high run is ends least = λ other held there below.
    elim (key_cmp at other) as (λ r. key_cmp at other ≡ r → ends_by high held.high ≡ true) [
      | Less ↦ λ p. ends_by-trans high run.high held.high ends (rising other held there at run is (Precedes-below at other p))
      | Equal ↦ λ p. subst (λ (r : SpanLocks). ends_by high r.high ≡ true) (one_run runs at other run held (exact_bytes at other p) is there) ends
      | Greater ↦ λ p. let no = least other (below-Precedes low other below) (is_there (get key_cmp runs other) held there) in let yes = ap is_gt p in absurd (cc (no, yes))
    ] refl

-- a span that is there fits
pub Fits-there : (runs : Runs) → IsRising runs → (low : Key) (high : Option Key) (run : SpanLocks) → get key_cmp runs low ≡ Some run → is_same_end run.high high ≡ true → FitsAmongSpans runs low high
Fits-there runs rising low high run is same =
    let ends : run.high ≡ high = same_end-is run.high high same in
    record {
      last = λ other held there below. subst (λ end. ends_by held.high end ≡ true) ends (rising low run is other held there below);
      first = λ other held there below. subst (λ end. ends_by end held.high ≡ true) ends (rising other held there low run is below);
      same = λ held there. let one : run ≡ held = one_run runs low low run held refl is there in subst (λ (r : SpanLocks). is_same_end r.high high ≡ true) one same;
    }

-- what a change of one low end leaves

abbrev pub Updated : Runs → Runs → Key → Option SpanLocks → Type 0
Updated old new low found = (q : Key) → get key_cmp new q ≡ cond (is_at (key_cmp low) q) found (get key_cmp old q)

pub rising-updated : (old new : Runs) (low : Key) (found : Option SpanLocks) → IsRising old → Updated old new low found
    → ((run : SpanLocks) → found ≡ Some run → FitsAmongSpans old low run.high) → IsRising new
rising-updated old new low found rising updated fits = λ a first is_first b second is_second below.
    elim (is_at (key_cmp low) a) as (λ s. is_at (key_cmp low) a ≡ s → cond s found (get key_cmp old a) ≡ Some first → ends_by second.high first.high ≡ true) [
      | true ↦ λ at here.
          elim (is_at (key_cmp low) b) as (λ t. is_at (key_cmp low) b ≡ t → cond t found (get key_cmp old b) ≡ Some second → ends_by second.high first.high ≡ true) [
            | true ↦ λ too _.
                let same : b ≡ a = sym (at_same low b too) ∙ at_same low a at in
                absurd (not-itself a (subst (λ k. Precedes k a) same (below-Precedes b a below)))
            | false ↦ λ _ there.
                let under : is_below b low ≡ true = subst (λ k. is_below b k ≡ true) (sym (at_same low a at)) below in
                (fits first here).last b second there under
          ] refl (sym (updated b) ∙ is_second)
      | false ↦ λ _ there.
          elim (is_at (key_cmp low) b) as (λ t. is_at (key_cmp low) b ≡ t → cond t found (get key_cmp old b) ≡ Some second → ends_by second.high first.high ≡ true) [
            | true ↦ λ at here.
                let over : is_below low a ≡ true = subst (λ k. is_below k a ≡ true) (sym (at_same low b at)) below in
                (fits second here).first a first there over
            | false ↦ λ _ other. rising a first there b second other below
          ] refl (sym (updated b) ∙ is_second)
    ] refl (sym (updated a) ∙ is_first)

pub stays-updated : (old new : Runs) (low : Key) (found : Option SpanLocks) → Updated old new low found → (l : Key) (h : Option Key) (n : ℕ)
    → (found_run (get key_cmp old low) h n ≡ true → found_run found h n ≡ true) → is_in_runs old l h n ≡ true → is_in_runs new l h n ≡ true
stays-updated old new low found updated l h n kept was =
    rw (updated l)
    (elim (is_at (key_cmp low) l) as (λ s. is_at (key_cmp low) l ≡ s → found_run (cond s found (get key_cmp old l)) h n ≡ true) [
      | true ↦ λ at. kept (subst (λ k. found_run (get key_cmp old k) h n ≡ true) (sym (at_same low l at)) was)
      | false ↦ λ _. was
    ] refl)

-- a run that keeps its end and its numbers
pub found-kept : (old new : SpanLocks) (h : Option Key) (n : ℕ) → new.high ≡ old.high → (has old.numbers.items n ≡ true → has new.numbers.items n ≡ true)
    → found_run (Some old) h n ≡ true → found_run (Some new) h n ≡ true
found-kept old new h n same kept was =
    let parts = and_parts (is_same_end old.high h) (has old.numbers.items n) was in
    and_from (is_same_end new.high h) (has new.numbers.items n) (subst (λ end. is_same_end end h ≡ true) (sym same) parts.0) (kept parts.1)

-- a map once a value is written at a key that it has
abbrev pub Written : Runs → SpanLocks → Runs → Key → Type 0
Written old now new low = WritesThrough key_cmp (key_cmp low) old now new

updated-written : (old new : Runs) (low : Key) (was now : SpanLocks) → get key_cmp old low ≡ Some was → Written old now new low → Updated old new low (Some now)
updated-written old new low was now is written = (written.3 (is_there (get key_cmp old low) was is)).0

pub at-written : (old new : Runs) (low : Key) (was now : SpanLocks) → get key_cmp old low ≡ Some was → Written old now new low → get key_cmp new low ≡ Some now
at-written old new low was now is written = (written.3 (is_there (get key_cmp old low) was is)).1

pub rising-written : (old new : Runs) (low : Key) (was now : SpanLocks) → IsRising old → get key_cmp old low ≡ Some was → now.high ≡ was.high → Written old now new low → IsRising new
rising-written old new low was now rising is same written =
    rising-updated old new low (Some now) rising (updated-written old new low was now is written)
    (λ run here.
    let one : now ≡ run = cc in
    let fits : FitsAmongSpans old low now.high = subst (FitsAmongSpans old low) (sym same) (Fits-there old rising low was.high was is (same_end-itself was.high)) in
    subst (λ (r : SpanLocks). FitsAmongSpans old low r.high) one fits)

pub stays-written : (old new : Runs) (low : Key) (was now : SpanLocks) → get key_cmp old low ≡ Some was → now.high ≡ was.high → Written old now new low → (l : Key) (h : Option Key) (n : ℕ)
    → (has was.numbers.items n ≡ true → has now.numbers.items n ≡ true) → is_in_runs old l h n ≡ true → is_in_runs new l h n ≡ true
stays-written old new low was now is same written l h n kept =
    stays-updated old new low (Some now) (updated-written old new low was now is written) l h n
    (λ there. found-kept was now h n same kept (subst (λ o. found_run o h n ≡ true) is there))

-- a map once a new key is put in, or is not: `found` is the map after the look-up
updated-found : (old found new : Runs) (key : Key) (run : SpanLocks) → found ≡ old → Updates key_cmp found new key (Some run) → Updated old new key (Some run)
updated-found old found new key run same updated = λ q. updated.0 q ∙ ap (λ (m : Runs). cond (is_at (key_cmp key) q) (Some run) (get key_cmp m q)) same

pub rising-inserted : {E T : Type 0} (result : Result T E) (old found new : Runs) (low key : Key) (high : Option Key) (run : SpanLocks) → IsRising old → found ≡ old → key ≡ low → run.high ≡ high → FitsAmongSpans old low high
    → OnOk result (Updates key_cmp found new key (Some run)) → OnErr result (new.entries ≡ found.entries) → IsRising new
rising-inserted (Ok v) old found new low key high run rising same_map same_key same fits updated none =
    rising-updated old new key (Some run) rising (updated-found old found new key run same_map updated)
    (λ other here.
    let one : run ≡ other = cc in
    let there : FitsAmongSpans old key run.high = rw (same_key, same) fits in
    subst (λ (r : SpanLocks). FitsAmongSpans old key r.high) one there)
rising-inserted (Err e) old found new low key high run rising same_map same_key same fits updated none = λ a first is b second there below.
    rising a first (sym (kept a) ∙ is) b second (sym (kept b) ∙ there) below
  where
    kept : (q : Key) → get key_cmp new q ≡ get key_cmp old q
    kept q = ap (lookup (is_at (key_cmp q))) none ∙ ap (λ (m : Runs). get key_cmp m q) same_map

pub stays-inserted : (old found new : Runs) (low key : Key) (run : SpanLocks) → found ≡ old → key ≡ low → get key_cmp old low ≡ None → Updates key_cmp found new key (Some run) → (l : Key) (h : Option Key) (n : ℕ)
    → is_in_runs old l h n ≡ true → is_in_runs new l h n ≡ true
stays-inserted old found new low key run same_map same none updated l h n =
    stays-updated old new key (Some run) (updated-found old found new key run same_map updated) l h n
    (λ there. let no = subst (λ o. found_run o h n ≡ true) (ap (get key_cmp old) same ∙ none) there in absurd (cc no))

no_numbers : (numbers : List ℕ) (n : ℕ) → length numbers ≡ 0 → has numbers n ≡ true → ⊥
no_numbers [] n is h = cc h
no_numbers (x ∷ xs) n is h = omega (arith, is)

pub none-in-empty : (numbers : Vec ℕ) (n : ℕ) (empty : Bool) → empty ≡ (vec_len numbers == 0) → empty ≡ true → has numbers.items n ≡ true → ⊥
none-in-empty numbers n empty is test h =
    let zero : vec_len numbers ≡ 0 = grind (arith, nat_tests, is, test) in
    no_numbers numbers.items n (sym numbers.ok.0 ∙ zero) h

-- and once a run without numbers is taken out
pub stays-removed : (old new : Runs) (low : Key) (empty : SpanLocks) (h : Option Key) (n : ℕ) → get key_cmp old low ≡ Some empty → (has empty.numbers.items n ≡ true → ⊥) → Updates key_cmp old new low None
    → (l : Key) → is_in_runs old l h n ≡ true → is_in_runs new l h n ≡ true
stays-removed old new low empty h n is none updated l =
    stays-updated old new low None updated.0 l h n
    (λ there. absurd (none (and_parts (is_same_end empty.high h) (has empty.numbers.items n) (subst (λ o. found_run o h n ≡ true) is there)).1))

-- what a look-up of a number shows
pub filed : (found : Option SpanLocks) (high : Option Key) (n : ℕ) → found_run found high n ≡ true
    → (run : SpanLocks) × (found ≡ Some run) × (run.high ≡ high) × (has run.numbers.items n ≡ true)
filed None high n h = absurd (cc h)
filed (Some run) high n h = let parts = and_parts (is_same_end run.high high) (has run.numbers.items n) h in (run, refl, same_end-is run.high high parts.0, parts.1)

-- lists in which one element changes

pub any-set : {X : Type 0} (p : X → Bool) (xs : List X) (i : ℕ) (y d : X) → i < length xs → (p (get_or xs i d) ≡ true → p y ≡ true)
    → list_any p xs ≡ true → list_any p (set xs i y) ≡ true
any-set p [] i y d lt kept h = absurd (omega (arith, lt))
any-set p (x ∷ xs) zero y d lt kept h =
    elim (p x) as (λ b. p x ≡ b → (b || list_any p xs) ≡ true → (p y || list_any p xs) ≡ true) [
      | true ↦ λ is _. rw (kept is) refl
      | false ↦ λ _ rest. rw rest (or-true (p y))
    ] refl h
any-set p (x ∷ xs) (suc i) y d lt kept h =
    elim (p x) as (λ b. (b || list_any p xs) ≡ true → (b || list_any p (set xs i y)) ≡ true) [
      | true ↦ λ _. refl
      | false ↦ λ rest. any-set p xs i y d (omega (arith, lt)) kept rest
    ] h

-- and holds afterwards where it holds of that element
pub any-set_here : {X : Type 0} (p : X → Bool) (xs : List X) (i : ℕ) (y : X) → i < length xs → p y ≡ true → list_any p (set xs i y) ≡ true
any-set_here p [] i y lt h = absurd (omega (arith, lt))
any-set_here p (x ∷ xs) zero y lt h = rw h refl
any-set_here p (x ∷ xs) (suc i) y lt h = rw (any-set_here p xs i y (omega (arith, lt)) h) (or-true (p x))

-- or does not hold there, and the element is taken out after that
pub any-emptied : {X : Type 0} (p : X → Bool) (xs : List X) (i : ℕ) (y d : X) → i < length xs → (p (get_or xs i d) ≡ true → ⊥)
    → list_any p xs ≡ true → list_any p (take i (set xs i y) ++ drop (suc i) (set xs i y)) ≡ true
any-emptied p [] i y d lt never h = absurd (omega (arith, lt))
any-emptied p (x ∷ xs) zero y d lt never h =
    elim (p x) as (λ b. p x ≡ b → (b || list_any p xs) ≡ true → list_any p xs ≡ true) [
      | true ↦ λ is _. absurd (never is)
      | false ↦ λ _ rest. rest
    ] refl h
any-emptied p (x ∷ xs) (suc i) y d lt never h =
    elim (p x) as (λ b. (b || list_any p xs) ≡ true → (b || list_any p (take i (set xs i y) ++ drop (suc i) (set xs i y))) ≡ true) [
      | true ↦ λ _. refl
      | false ↦ λ rest. any-emptied p xs i y d (omega (arith, lt)) never rest
    ] h

-- no number is in an empty chain
pub none-in-runs : (runs : Runs) (l : Key) (h : Option Key) (n : ℕ) → runs.entries ≡ [] → is_in_runs runs l h n ≡ true → ⊥
none-in-runs runs l h n none there =
    let no = subst (λ es. found_run (lookup (is_at (key_cmp l)) es) h n ≡ true) none there in
    cc no
