-- When spans overlap, in words of the keys that they cover.
use Rattle.std.proofs.Common.{◌≡◌, ◌⊎◌, inl, inr, ℕ, List, true, false, not, ◌&&◌, Option, Some, None, refl, sym, ap, subst, ◌∙◌}
use Rattle.std.specs.Prelude.{IsTrue, nat_eq}
use Rattle.std.proofs.lemmas.Bool.{and_parts, and_from}
use Rattle.std.proofs.lemmas.Cmp.{nat_eq_equiv}
use Rattle.std.proofs.lemmas.Slice.Eq.{bytes_eq-Decides}
use Rattle.pw_base.proofs.Plain.{same-truth}
use Rattle.pw_code.specs.declared.lock.LockMode.{LockMode}
use Rattle.pw_code.specs.declared.lock.LockMode.TheVariants.{Shared, Exclusive}
use Rattle.pw_code.specs.declared.unit.Unit as unit
use Rattle.pw_locks.specs.Keys.{is_below, larger, is_up_to, is_below_end}
use Rattle.pw_locks.specs.Spans.{overlap, Precedes, Covers, IsOpenEnded, HaveCommonKey}
use Rattle.pw_locks.specs.Conflicts.{is_same_unit, are_both_shared, exclude, conflict}
use Rattle.pw_locks.specs.declared.lock.Lock.{Lock}
use Rattle.pw_locks.specs.declared.span.Span.{Span}
use Rattle.pw_locks.specs.declared.span.Span.TheVariants.{Point, After}
use Rattle.pw_locks.proofs.Order.{not-itself, not-both-ways, below-Precedes, Precedes-below, up_to-IsUpTo, IsUpTo-up_to, larger-both, both-larger, below_end-from}

abbrev Key : Type 0
Key = List ℕ

-- a span overlaps the points that it covers
pub overlap-point : (span : Span) (key : Key) → IsTrue (overlap span (Point key)) → Covers span key
overlap-point (Point own) key h = sym ((bytes_eq-Decides own key).0 h)
overlap-point (After low high) key h =
    let parts = and_parts (is_below low key) (is_up_to key high) h in
    (below-Precedes low key parts.0, up_to-IsUpTo key high parts.1)

pub Covers-overlap : (span : Span) (key : Key) → Covers span key → IsTrue (overlap span (Point key))
Covers-overlap (Point own) key h = (bytes_eq-Decides own key).1 (sym h)
Covers-overlap (After low high) key h = and_from (is_below low key) (is_up_to key high) (Precedes-below low key h.0) (IsUpTo-up_to key high h.1)

abbrev Meet : Span → Span → Type 0
Meet a b = HaveCommonKey a b ⊎ (IsOpenEnded a × IsOpenEnded b)

-- two ends that are both above m have a key in common above it, or neither is there
ends_meet : (m low other_low : Key) (high other_high : Option Key) → ((key : Key) → Precedes m key → Precedes low key × Precedes other_low key)
    → is_below_end m high ≡ true → is_below_end m other_high ≡ true → Meet (After low high) (After other_low other_high)
ends_meet m low other_low None None below p q = inr (tt, tt)
ends_meet m low other_low (Some high) None below p q =
    let b = below high (below-Precedes m high p) in
    inl (high, (b.0, not-itself high), (b.1, tt))
ends_meet m low other_low None (Some high) below p q =
    let b = below high (below-Precedes m high q) in
    inl (high, (b.0, tt), (b.1, not-itself high))
ends_meet m low other_low (Some high) (Some other_high) below p q =
    elim (is_below high other_high) as (λ t. is_below high other_high ≡ t → Meet (After low (Some high)) (After other_low (Some other_high))) [
      | true ↦ λ is.
          let b = below high (below-Precedes m high p) in
          inl (high, (b.0, not-itself high), (b.1, not-both-ways high other_high (below-Precedes high other_high is)))
      | false ↦ λ is.
          let b = below other_high (below-Precedes m other_high q) in
          inl (other_high, (b.0, λ h. let yes : is_below high other_high ≡ true = Precedes-below high other_high h in absurd (cc (is, yes))), (b.1, not-itself other_high))
    ] refl

pub overlap-meet : (a b : Span) → IsTrue (overlap a b) → Meet a b
overlap-meet (Point a) (Point b) h = inl (a, refl, (bytes_eq-Decides a b).0 h)
overlap-meet (Point key) (After low high) h = inl (key, refl, overlap-point (After low high) key h)
overlap-meet (After low high) (Point key) h = inl (key, overlap-point (After low high) key h, refl)
overlap-meet (After low high) (After other_low other_high) h =
    let parts = and_parts (is_below_end (larger low other_low) high) (is_below_end (larger low other_low) other_high) h in
    ends_meet (larger low other_low) low other_low high other_high (larger-both low other_low) parts.0 parts.1

pub common-overlap : (a b : Span) → HaveCommonKey a b → IsTrue (overlap a b)
common-overlap (Point a) (Point b) h = (bytes_eq-Decides a b).1 (sym h.1 ∙ h.2)
common-overlap (Point own) (After low high) h = Covers-overlap (After low high) own (subst (Covers (After low high)) h.1 h.2)
common-overlap (After low high) (Point own) h = Covers-overlap (After low high) own (subst (Covers (After low high)) h.2 h.1)
common-overlap (After low high) (After other_low other_high) h =
    let m : Precedes (larger low other_low) h.0 = both-larger low other_low h.0 h.1.0 h.2.0 in
    and_from (is_below_end (larger low other_low) high) (is_below_end (larger low other_low) other_high)
    (below_end-from _ h.0 high m h.1.1) (below_end-from _ h.0 other_high m h.2.1)

open-overlap : (a b : Span) → IsOpenEnded a → IsOpenEnded b → IsTrue (overlap a b)
open-overlap (Point a) b h k = absurd h
open-overlap (After low high) (Point b) h k = absurd k
open-overlap (After low (Some high)) (After other_low other_high) h k = absurd h
open-overlap (After low None) (After other_low (Some high)) h k = absurd k
open-overlap (After low None) (After other_low None) h k = refl

pub meet-overlap : (a b : Span) → Meet a b → IsTrue (overlap a b)
meet-overlap a b (inl h) = common-overlap a b h
meet-overlap a b (inr h) = open-overlap a b h.0 h.1

turned : (a b : Span) → Meet a b → Meet b a
turned a b (inl h) = inl (h.0, h.2, h.1)
turned a b (inr h) = inr (h.1, h.0)

overlap-comm : (a b : Span) → overlap a b ≡ overlap b a
overlap-comm a b = same-truth (overlap a b) (overlap b a) (λ h. meet-overlap b a (turned a b (overlap-meet a b h))) (λ h. meet-overlap a b (turned b a (overlap-meet b a h)))

are_both_shared-comm : (a b : LockMode) → are_both_shared a b ≡ are_both_shared b a
are_both_shared-comm Shared Shared = refl
are_both_shared-comm Shared Exclusive = refl
are_both_shared-comm Exclusive Shared = refl
are_both_shared-comm Exclusive Exclusive = refl

is_same_unit-comm : (a b : unit.Unit) → is_same_unit a b ≡ is_same_unit b a
is_same_unit-comm a b = ap (λ p. p && nat_eq a.number b.number) (nat_eq_equiv.symm a.terminal b.terminal) ∙ ap (λ p. nat_eq b.terminal a.terminal && p) (nat_eq_equiv.symm a.number b.number)

pub conflict-comm : (a b : Lock) → conflict a b ≡ conflict b a
conflict-comm a b =
    ap (λ p. not p && exclude a.file a.span a.mode b) (is_same_unit-comm a.unit b.unit)
    ∙ (ap (λ p. not (is_same_unit b.unit a.unit) && (p && (overlap a.span b.span && not (are_both_shared a.mode b.mode)))) (nat_eq_equiv.symm a.file b.file)
    ∙ (ap (λ p. not (is_same_unit b.unit a.unit) && (nat_eq b.file a.file && (p && not (are_both_shared a.mode b.mode)))) (overlap-comm a.span b.span)
    ∙ ap (λ p. not (is_same_unit b.unit a.unit) && (nat_eq b.file a.file && (overlap b.span a.span && not p))) (are_both_shared-comm a.mode b.mode)))
