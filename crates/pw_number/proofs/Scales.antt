-- Numbers over a common power of ten compare as their values do.
use Rattle.std.proofs.Common.{◌≡◌, ℕ, zero, suc, ◌+◌, ◌-◌, ◌*◌, ◌^◌, ◌<◌, ◌≤◌, ℤ, pos, negsuc, neg_ℤ, ◌*ℤ◌, ◌<ℤ◌, unsigned_abs, ◌↔◌, refl, sym, ap, ◌∙◌, arith}
use Rattle.std.specs.declared.cmp.Ordering.{Ordering}
use Rattle.std.specs.declared.cmp.Ordering.TheVariants.{Less, Equal, Greater}
use Rattle.std.specs.Ordering.{int_cmp, ordering_reverse, MatchOrdering}
use Rattle.std.specs.Cmp.{int_ranks, int_cmp_is, int_cmp_total, IsTotalOrder}
use Rattle.std.proofs.lemmas.Int.{ints}
use Rattle.std.proofs.lemmas.Bool.Decides.{nat_tests}
use Rattle.std.proofs.lemmas.Nat.{pow-add}
use Rattle.std.proofs.Math.Nat.{one-le-pow, zero-mul, mul_assoc, mul-le-mul_right}
use Rattle.pw_number.specs.Number.{Number}
use Rattle.pw_number.specs.Arithmetic.{raised, common}
use Rattle.pw_number.specs.Order.{units_over_places, order, SameValue}

-- a power of ten is not zero
pub ten-pos : (e : ℕ) → 0 < 10 ^ e
ten-pos e = one-le-pow e 10 (omega arith)

neg-times : (m l : ℕ) → neg_ℤ (pos m) *ℤ pos l ≡ neg_ℤ (pos (m * l))
neg-times zero l = ap (λ n. pos n) (zero-mul l) ∙ sym (ap (λ n. neg_ℤ (pos n)) (zero-mul l))
neg-times (suc m) l = refl

-- two factors that are not negative may be taken at once
times_twice : (z : ℤ) (k l : ℕ) → z *ℤ pos k *ℤ pos l ≡ z *ℤ pos (k * l)
times_twice (pos a) k l = ap pos (mul_assoc a k l)
times_twice (negsuc a) k l = neg-times (suc a * k) l ∙ ap (λ n. neg_ℤ (pos n)) (mul_assoc (suc a) k l)

-- the order of natural numbers under a factor above zero
pub times_below : (a b k : ℕ) → 0 < k → a < b → a * k < b * k
times_below a b k h less = omega (arith, mul-le-mul_right k less)

lt-times : (x y : ℤ) (k : ℕ) → 0 < k → x <ℤ y → (x *ℤ pos k) <ℤ (y *ℤ pos k)
lt-times (pos a) (pos b) k h less = let below : a < b = omega (arith, ints) in omega (arith, ints, times_below a b k h below)
lt-times (pos a) (negsuc b) k h less = absurd (omega (arith, ints))
lt-times (negsuc a) (pos b) k h less = omega (arith, ints, times_below 0 (suc a) k h (omega arith))
lt-times (negsuc a) (negsuc b) k h less = let below : suc b < suc a = omega (arith, ints) in omega (arith, ints, times_below (suc b) (suc a) k h below)

matches : (r : Ordering) (x y : ℤ) (k : ℕ) → 0 < k → MatchOrdering r (x <ℤ y) (x ≡ y) (y <ℤ x)
    → MatchOrdering r ((x *ℤ pos k) <ℤ (y *ℤ pos k)) (x *ℤ pos k ≡ y *ℤ pos k) ((y *ℤ pos k) <ℤ (x *ℤ pos k))
matches Less x y k h less = lt-times x y k h less
matches Equal x y k h same = ap (λ z. z *ℤ pos k) same
matches Greater x y k h less = lt-times y x k h less

-- a common factor above zero does not change how two numbers compare
pub cmp-times : (x y : ℤ) (k : ℕ) → 0 < k → int_cmp x y ≡ int_cmp (x *ℤ pos k) (y *ℤ pos k)
cmp-times x y k h = int_cmp_is (x *ℤ pos k) (y *ℤ pos k) (int_cmp x y) (matches (int_cmp x y) x y k h (int_ranks x y))

-- the units over both places, times the common power, are the raised units times both powers
over-raised : (units : ℤ) (own other common : ℕ) → own ≤ common
    → units *ℤ pos (10 ^ other) *ℤ pos (10 ^ common) ≡ units *ℤ pos (10 ^ (common - own)) *ℤ pos (10 ^ (own + other))
over-raised units own other common h =
    let same : 10 ^ other * 10 ^ common ≡ 10 ^ (common - own) * 10 ^ (own + other) =
    sym (pow-add 10 other common) ∙ ap (λ e. 10 ^ e) (omega arith) ∙ pow-add 10 (common - own) (own + other) in
    times_twice units (10 ^ other) (10 ^ common) ∙ ap (λ n. units *ℤ pos n) same ∙ sym (times_twice units (10 ^ (common - own)) (10 ^ (own + other)))

-- at any common places the values compare as the units do
pub order-raised : (a b : Number) (places : ℕ) → a.places ≤ places → b.places ≤ places → order a b ≡ int_cmp (raised places a) (raised places b)
order-raised a b places below_a below_b =
    cmp-times (units_over_places b a) (units_over_places a b) (10 ^ places) (ten-pos places)
    ∙ ap (λ z. int_cmp z (units_over_places a b *ℤ pos (10 ^ places))) (over-raised a.units a.places b.places places below_a)
    ∙ ap (λ z. int_cmp (raised places a *ℤ pos (10 ^ (a.places + b.places))) z) (over-raised b.units b.places a.places places below_b ∙ ap (λ e. raised places b *ℤ pos (10 ^ e)) (omega arith))
    ∙ sym (cmp-times (raised places a) (raised places b) (10 ^ (a.places + b.places)) (ten-pos (a.places + b.places)))

-- a number that is larger than the other compares with it as with zero
cmp-large : (x y : ℤ) → unsigned_abs y < unsigned_abs x → int_cmp x (pos 0) ≡ int_cmp x y
cmp-large (pos a) (pos b) h = grind (arith, ints, nat_tests)
cmp-large (pos a) (negsuc b) h = grind (arith, ints, nat_tests)
cmp-large (negsuc a) (pos b) h = refl
cmp-large (negsuc a) (negsuc b) h = grind (arith, ints, nat_tests)

-- raised units have the number's sign
cmp-raised_zero : (a : Number) (places : ℕ) → int_cmp a.units (pos 0) ≡ int_cmp (raised places a) (pos 0)
cmp-raised_zero a places = cmp-times a.units (pos 0) (10 ^ (places - a.places)) (ten-pos (places - a.places)) ∙ ap (λ n. int_cmp (raised places a) (pos n)) (zero-mul (10 ^ (places - a.places)))

-- where the first number's units are the larger at common places, its sign decides
pub order-large_left : (a b : Number) (places : ℕ) → a.places ≤ places → b.places ≤ places → unsigned_abs (raised places b) < unsigned_abs (raised places a)
    → int_cmp a.units (pos 0) ≡ order a b
order-large_left a b places below_a below_b larger =
    cmp-raised_zero a places ∙ cmp-large (raised places a) (raised places b) larger ∙ sym (order-raised a b places below_a below_b)

-- and where the second number's are, that one's sign does
pub order-large_right : (a b : Number) (places : ℕ) → a.places ≤ places → b.places ≤ places → unsigned_abs (raised places a) < unsigned_abs (raised places b)
    → ordering_reverse (int_cmp b.units (pos 0)) ≡ order a b
order-large_right a b places below_a below_b larger =
    ap ordering_reverse (order-large_left b a places below_b below_a larger) ∙ sym (int_cmp_total.antisymm (units_over_places b a) (units_over_places a b))

-- the places of three numbers, added, are at least those of each
less : (a b c : ℕ) → (a ≤ a + b + c) × (b ≤ a + b + c) × (c ≤ a + b + c)
less a b c = (omega arith, omega arith, omega arith)

order-trans : (a b c : Number) → order a b ≡ Less → order b c ≡ Less → order a c ≡ Less
order-trans a b c first second =
    let all : ℕ = a.places + b.places + c.places in
    let below = less a.places b.places c.places in
    order-raised a c all below.0 below.2
    ∙ int_cmp_total.trans (raised all a) (raised all b) (raised all c) (sym (order-raised a b all below.0 below.1) ∙ first) (sym (order-raised b c all below.1 below.2) ∙ second)

order-congr : (a b c : Number) → order a b ≡ Equal → order a c ≡ order b c
order-congr a b c same =
    let all : ℕ = a.places + b.places + c.places in
    let below = less a.places b.places c.places in
    order-raised a c all below.0 below.2
    ∙ int_cmp_total.congr (raised all a) (raised all b) (raised all c) (sym (order-raised a b all below.0 below.1) ∙ same)
    ∙ sym (order-raised b c all below.1 below.2)

pub order_total : IsTotalOrder order
order_total = record { antisymm = λ a b. int_cmp_total.antisymm (units_over_places b a) (units_over_places a b); trans = order-trans; congr = order-congr }

equal_only : (x y : ℤ) (r : Ordering) → r ≡ Equal → MatchOrdering r (x <ℤ y) (x ≡ y) (y <ℤ x) → x ≡ y
equal_only x y Less is h = absurd cc
equal_only x y Equal is h = h
equal_only x y Greater is h = absurd cc

-- numbers are called equal exactly where they have one value
pub order-equal : (a b : Number) → (order a b ≡ Equal) ↔ SameValue a b
order-equal a b = (
  λ is. equal_only (units_over_places b a) (units_over_places a b) (order a b) is (int_ranks (units_over_places b a) (units_over_places a b)),
  λ same. sym (int_cmp_is (units_over_places b a) (units_over_places a b) Equal same),
)
