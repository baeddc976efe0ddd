-- The order of keys, and its tests.
use Rattle.std.proofs.Common.{◌≡◌, ℕ, List, Bool, true, false, not, cond, Option, Some, None, refl, sym, ap, subst, ◌∙◌}
use Rattle.std.specs.declared.cmp.Ordering.TheVariants.{Less, Equal, Greater}
use Rattle.std.specs.Cmp.{IsTotalOrder}
use Rattle.std.specs.Cmp.Lexicographic.{slice_cmp}
use Rattle.std.specs.Ordering.{nat_cmp, is_lt, ordering_reverse}
use Rattle.std.specs.FinMap.{nat_cmp-IsAntisymmetric, slice_cmp-IsAntisymmetric}
use Rattle.std.proofs.lemmas.Cmp.{tied_itself, nat_list_cmp_total}
use Rattle.std.proofs.lemmas.Bool.{not-true}
use Rattle.pw_base.proofs.Plain.{is_lt-Less}
use Rattle.pw_locks.specs.Keys.{is_below, larger, is_up_to, is_below_end}
use Rattle.pw_locks.specs.Spans.{Precedes, IsUpTo}

abbrev Key : Type 0
Key = List ℕ

total : IsTotalOrder (slice_cmp nat_cmp)
total = nat_list_cmp_total

tied : (a b : Key) → slice_cmp nat_cmp a b ≡ Equal → a ≡ b
tied = slice_cmp-IsAntisymmetric nat_cmp-IsAntisymmetric

pub not-itself : (a : Key) → ¬ Precedes a a
not-itself a h = let e = tied_itself total a in absurd (cc (e, h))

pub not-both-ways : (a b : Key) → Precedes a b → ¬ Precedes b a
not-both-ways a b h k = not-itself a (total.trans a b a h k)

-- what is not below high is not reached by what precedes high
pub Precedes-up_to : (low key high : Key) → Precedes low key → ¬ Precedes high key → Precedes low high
Precedes-up_to low key high below up_to =
    elim (slice_cmp nat_cmp low high) as (λ r. slice_cmp nat_cmp low high ≡ r → r ≡ Less) [
      | Less ↦ λ _. refl
      | Equal ↦ λ p. absurd (up_to (subst (λ k. Precedes k key) (tied low high p) below))
      | Greater ↦ λ p.
          let back : Precedes high low = total.antisymm high low ∙ ap ordering_reverse p in
          absurd (up_to (total.trans high low key back below))
    ] refl

pub below-Precedes : (a b : Key) → is_below a b ≡ true → Precedes a b
below-Precedes a b h = is_lt-Less (slice_cmp nat_cmp a b) h

pub Precedes-below : (a b : Key) → Precedes a b → is_below a b ≡ true
Precedes-below a b h = ap is_lt h

false_not : (b : Bool) → ¬ (b ≡ true) → not b ≡ true
false_not true h = absurd (h refl)
false_not false h = refl

pub up_to-IsUpTo : (key : Key) (high : Option Key) → is_up_to key high ≡ true → IsUpTo key high
up_to-IsUpTo key None h = tt
up_to-IsUpTo key (Some high) h = λ p. let no : is_below high key ≡ false = not-true _ h in let yes : is_below high key ≡ true = Precedes-below high key p in absurd (cc (no, yes))

pub IsUpTo-up_to : (key : Key) (high : Option Key) → IsUpTo key high → is_up_to key high ≡ true
IsUpTo-up_to key None h = refl
IsUpTo-up_to key (Some high) h = false_not (is_below high key) (λ p. h (below-Precedes high key p))

-- what precedes the larger of two precedes both
pub larger-both : (a b key : Key) → Precedes (larger a b) key → Precedes a key × Precedes b key
larger-both a b key =
    elim (is_below a b) as (λ t. is_below a b ≡ t → Precedes (cond t b a) key → Precedes a key × Precedes b key) [
      | true ↦ λ is h. (total.trans a b key (below-Precedes a b is) h, h)
      | false ↦ λ is h. (h, second is h)
    ] refl
  where
    second : is_below a b ≡ false → Precedes a key → Precedes b key
    second is h =
        elim (slice_cmp nat_cmp b key) as (λ r. slice_cmp nat_cmp b key ≡ r → r ≡ Less) [
          | Less ↦ λ _. refl
          | Equal ↦ λ p. let yes : is_below a b ≡ true = Precedes-below a b (subst (Precedes a) (sym (tied b key p)) h) in absurd (cc (is, yes))
          | Greater ↦ λ p.
              let back : Precedes key b = total.antisymm key b ∙ ap ordering_reverse p in
              let yes : is_below a b ≡ true = Precedes-below a b (total.trans a key b h back) in absurd (cc (is, yes))
        ] refl

-- and what both precede, the larger precedes
pub both-larger : (a b key : Key) → Precedes a key → Precedes b key → Precedes (larger a b) key
both-larger a b key p q =
    elim (is_below a b) as (λ t. Precedes (cond t b a) key) [ true ↦ q | false ↦ p ]

-- a key above low and not above high shows that low is below high
pub below_end-from : (low key : Key) (high : Option Key) → Precedes low key → IsUpTo key high → is_below_end low high ≡ true
below_end-from low key None p u = refl
below_end-from low key (Some high) p u = Precedes-below low high (Precedes-up_to low key high p u)
