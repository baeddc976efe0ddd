-- Where the locks that overlap a span are filed.
use Rattle.std.proofs.Common.{◌≡◌, ◌⊎◌, inl, inr, ℕ, ◌+◌, ◌<◌, List, [], ◌∷◌, ◌++◌, ◌||◌, Bool, true, false, not, cond, Option, Some, None, length, take, get_or, refl, sym, ap, ◌∙◌}
use Rattle.std.specs.Prelude.{nat_eq, filter}
use Rattle.std.specs.BTreeMap.{is_at}
use Rattle.std.specs.BTreeMap.Range.{range_contains, entries_between}
use Rattle.std.specs.Cmp.Lexicographic.{slice_cmp}
use Rattle.std.specs.Global.{Vec}
use Rattle.std.specs.List.{list_any}
use Rattle.std.specs.Map.{lookup}
use Rattle.std.specs.Ordering.{nat_cmp, is_le, ordering_reverse}
use Rattle.std.specs.declared.cmp.Ordering.TheVariants.{Less, Greater}
use Rattle.std.specs.declared.ops.Bound.TheVariants.{Excluded, Unbounded}
use Rattle.std.proofs.lemmas.Bool.{and_parts, and_from, or_cases}
use Rattle.std.proofs.lemmas.Cmp.{nat_list_cmp_total}
use Rattle.std.proofs.lemmas.List.Folds.{list_any-append, list_any_more}
use Rattle.std.proofs.lemmas.Map.Lookups.{exact_bytes}
use Rattle.pw_base.proofs.Plain.{or-true, is_eq-Equal}
use Rattle.pw_locks.specs.Chains.{IsMet, IsMetIn}
use Rattle.pw_locks.specs.Indexes.{has, found_has}
use Rattle.pw_locks.specs.Keys.{is_below, larger, is_up_to, is_below_end, ends_by}
use Rattle.pw_locks.specs.Places.{is_placed, IsMetPoint}
use Rattle.pw_locks.specs.Reach.{up_to, before, is_reached}
use Rattle.pw_locks.specs.Runs.{is_in_runs}
use Rattle.pw_locks.specs.Searches.{numbers_of}
use Rattle.pw_locks.specs.Spans.{overlap}
use Rattle.pw_locks.specs.declared.chain.Chain.{Chain}
use Rattle.pw_locks.specs.declared.places.FilePlaces.{FilePlaces}
use Rattle.pw_locks.specs.declared.span.Span.{Span}
use Rattle.pw_locks.specs.declared.span.Span.TheVariants.{Point, After}
use Rattle.pw_locks.proofs.Chaining.{ends_by-trans}
use Rattle.pw_locks.proofs.Order.{below-Precedes, Precedes-below, Precedes-up_to, up_to-IsUpTo, below_end-from, larger-both}

abbrev Key : Type 0
Key = List ℕ

abbrev Entry : Type 0
Entry = Key × Vec ℕ

pub has-left : (xs ys : List ℕ) (n : ℕ) → has xs n ≡ true → has (xs ++ ys) n ≡ true
has-left xs ys n h = list_any-append (nat_eq n) xs ys ∙ ap (λ b. b || has ys n) h

pub has-right : (xs ys : List ℕ) (n : ℕ) → has ys n ≡ true → has (xs ++ ys) n ≡ true
has-right xs ys n h = list_any-append (nat_eq n) xs ys ∙ (ap (λ b. has xs n || b) h ∙ or-true (has xs n))

kept_first : (b : Bool) (e : Entry) (es : List Entry) (n : ℕ) → b ≡ true → has e.1.items n ≡ true → has (numbers_of (cond b (e ∷ es) es)) n ≡ true
kept_first true e es n is h = has-left e.1.items (numbers_of es) n h
kept_first false e es n is h = absurd (cc is)

kept_later : (b : Bool) (e : Entry) (es : List Entry) (n : ℕ) → has (numbers_of es) n ≡ true → has (numbers_of (cond b (e ∷ es) es)) n ≡ true
kept_later true e es n h = has-right e.1.items (numbers_of es) n h
kept_later false e es n h = h

-- what is filed under a key that passes is among the numbers of the entries that pass
pub reached : (p : Key → Bool) (key : Key) (n : ℕ) (es : List Entry) → p key ≡ true → found_has (lookup (is_at (slice_cmp nat_cmp key)) es) n ≡ true
    → has (numbers_of (filter (λ e. p e.0) es)) n ≡ true
reached p key n [] passes h = absurd (cc h)
reached p key n (e ∷ es) passes h =
    elim (is_at (slice_cmp nat_cmp key) e.0) as (λ b. is_at (slice_cmp nat_cmp key) e.0 ≡ b → found_has (cond b (Some e.1) (lookup (is_at (slice_cmp nat_cmp key)) es)) n ≡ true → has (numbers_of (filter (λ e. p e.0) (e ∷ es))) n ≡ true) [
      | true ↦ λ is here.
          let same : key ≡ e.0 = exact_bytes key e.0 (is_eq-Equal (slice_cmp nat_cmp key e.0) is) in
          kept_first (p e.0) e (filter (λ e. p e.0) es) n (sym (ap p same) ∙ passes) here
      | false ↦ λ is there. kept_later (p e.0) e (filter (λ e. p e.0) es) n (reached p key n es passes there)
    ] refl h

-- a key below another is not at it or above it
not_from : (low high : Key) → is_below low high ≡ true → not (is_le (slice_cmp nat_cmp high low)) ≡ true
not_from low high h =
    let less : slice_cmp nat_cmp low high ≡ Less = below-Precedes low high h in
    let back : slice_cmp nat_cmp high low ≡ Greater = nat_list_cmp_total.antisymm high low ∙ ap ordering_reverse less in
    ap (λ r. not (is_le r)) back

ends_above : (a b : Key) (high : Option Key) → is_below_end (larger a b) high ≡ true → (is_below_end a high ≡ true) × (is_below_end b high ≡ true)
ends_above a b None h = (refl, refl)
ends_above a b (Some high) h =
    let both = larger-both a b high (below-Precedes (larger a b) high h) in
    (Precedes-below a high both.0, Precedes-below b high both.1)

-- what overlaps a span begins before its end, and is reached by it
pub begins_before : (span : Span) (low : Key) (high : Option Key) → overlap span (After low high) ≡ true → range_contains (slice_cmp nat_cmp) Unbounded (before span) low ≡ true
begins_before (Point key) low high over = not_from low key (and_parts (is_below low key) (is_up_to key high) over).0
begins_before (After own None) low high over = refl
begins_before (After own (Some end)) low high over =
    let parts = and_parts (is_below_end (larger own low) (Some end)) (is_below_end (larger own low) high) over in
    not_from low end (ends_above own low (Some end) parts.0).1

pub overlap-reached : (span : Span) (low : Key) (high : Option Key) → overlap span (After low high) ≡ true → is_reached span high ≡ true
overlap-reached (Point key) low high over = (and_parts (is_below low key) (is_up_to key high) over).1
overlap-reached (After own end) low high over =
    (ends_above own low high (and_parts (is_below_end (larger own low) end) (is_below_end (larger own low) high) over).1).0

-- what a span that ends earlier reaches, one that ends later does
pub reached-later : (span : Span) (a b : Option Key) → is_reached span a ≡ true → ends_by a b ≡ true → is_reached span b ≡ true
reached-later (Point key) a None h e = refl
reached-later (Point key) None (Some b) h e = absurd (cc e)
reached-later (Point key) (Some a) (Some b) h e = ends_by-trans (Some key) (Some a) (Some b) h e
reached-later (After own end) a None h e = refl
reached-later (After own end) None (Some b) h e = absurd (cc e)
reached-later (After own end) (Some a) (Some b) h e = Precedes-below own b (Precedes-up_to own a b (below-Precedes own a h) (up_to-IsUpTo a (Some b) e))

up_to_contains : (low key : Key) (high : Option Key) → is_below low key ≡ true → is_up_to key high ≡ true → range_contains (slice_cmp nat_cmp) (Excluded low) (up_to high) key ≡ true
up_to_contains low key None p u = rw p
up_to_contains low key (Some high) p u = and_from (is_below low key) (not (is_below high key)) p u

-- a point that a span overlaps is within it
pub within_span : (places : FilePlaces) (low : Key) (high : Option Key) (key : Key) (n : ℕ) → overlap (After low high) (Point key) ≡ true → is_placed places (Point key) n ≡ true
    → has (numbers_of (entries_between (slice_cmp nat_cmp) (Excluded low) (up_to high) places.points.numbers.entries)) n ≡ true
within_span places low high key n over there =
    let parts = and_parts (is_below low key) (is_up_to key high) over in
    reached (range_contains (slice_cmp nat_cmp) (Excluded low) (up_to high)) key n places.points.numbers.entries (up_to_contains low key high parts.0 parts.1) there

-- what overlaps a span is a point or a span
pub met : (span s : Span) (places : FilePlaces) (n : ℕ) → overlap span s ≡ true → is_placed places s n ≡ true → IsMetPoint span places n ⊎ IsMetIn span places.spans.all.items n
met span (Point key) places n over there = inl (key, over, there)
met span (After low high) places n over there = inr (low, high, over, there)

-- one chain more
pub met-more : (span : Span) (chains : List Chain) (i : ℕ) (chain : Chain) (n : ℕ) → i < length chains → chain ≡ get_or chains i chain → IsMetIn span (take (i + 1) chains) n
    → IsMetIn span (take i chains) n ⊎ IsMet span chain.runs n
met-more span chains i chain n lt is met = parts (or_cases (list_any test (take i chains)) (test (get_or chains i chain)) (sym (list_any_more test chains i chain lt) ∙ met.3))
  where
    test : Chain → Bool
    test c = is_in_runs c.runs met.0 met.1 n

    parts : (list_any test (take i chains) ≡ true) ⊎ (test (get_or chains i chain) ≡ true) → IsMetIn span (take i chains) n ⊎ IsMet span chain.runs n
    parts (inl before) = inl (met.0, met.1, met.2, before)
    parts (inr here) = inr (met.0, met.1, met.2, ap test is ∙ here)

-- what a span overlaps shows that its low end is below its high one
pub has_room : (low : Key) (high : Option Key) (s : Span) → overlap (After low high) s ≡ true → is_below_end low high ≡ true
has_room low high (Point key) over =
    let parts = and_parts (is_below low key) (is_up_to key high) over in
    below_end-from low key high (below-Precedes low key parts.0) (up_to-IsUpTo key high parts.1)
has_room low high (After other other_high) over =
    (ends_above low other high (and_parts (is_below_end (larger low other) high) (is_below_end (larger low other) other_high) over).0).0
