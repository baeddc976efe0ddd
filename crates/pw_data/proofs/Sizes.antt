-- Sizes that are cut at one more than the most.
use Rattle.std.proofs.Common.{◌≡◌, ℕ, ◌+◌, ◌*◌, ◌<◌, ◌≤◌, min, Bool, true, false, Some, None, refl, ap, ◌∙◌, arith}
use Rattle.std.specs.Prelude.{nat_lt, if◌then◌else◌}
use Rattle.std.proofs.lemmas.Nat.{mul-le}
use Rattle.std.proofs.lemmas.Bool.{ltb-true, ltb-false, lt-ltb, le-ltb}
use Rattle.pw_base.specs.declared.fault_code.FaultCode.TheVariants.{StorageTooLarge}
use Rattle.pw_base.specs.Limits.{most_storage}
use Rattle.pw_data.specs.declared.entry.Entry.{Entry}
use Rattle.pw_data.specs.Entries.{fault}
use Rattle.pw_data.specs.Tree.{Forest, Empty, Node}
use Rattle.pw_data.specs.Laid.{times, size_in, too_large}

-- what is at least the most is so after a product with 1 or more
pub grows : (n x most_storage : ℕ) → 1 ≤ n → most_storage ≤ x → most_storage ≤ n * x
grows n x most_storage some large = omega (arith, mul-le 1 x n x some (omega arith))

-- a product of 1 or more and a cut factor, cut, is the product, cut
cut_product-by : (n a b most_storage : ℕ) (large : Bool) → nat_lt most_storage b ≡ large → 1 ≤ n → min (n * (a + min b most_storage)) most_storage ≡ min (n * (a + b)) most_storage
cut_product-by n a b most_storage true is some =
    let above : most_storage < b = ltb-true most_storage b is in
    let cut : most_storage ≤ a + min b most_storage = omega arith in
    let whole : most_storage ≤ a + b = omega arith in
    omega (arith, grows n (a + min b most_storage) most_storage some cut, grows n (a + b) most_storage some whole)
cut_product-by n a b most_storage false is some =
    let below : b ≤ most_storage = ltb-false most_storage b is in
    let same : min b most_storage ≡ b = omega arith in
    ap (λ m. min (n * (a + m)) most_storage) same

pub cut_product : (n a b most_storage : ℕ) → 1 ≤ n → min (n * (a + min b most_storage)) most_storage ≡ min (n * (a + b)) most_storage
cut_product n a b most_storage some = cut_product-by n a b most_storage (nat_lt most_storage b) refl some

pub times-some : (entry : Entry) → 1 ≤ times entry
times-some entry = omega arith

-- the size of one entry, by that of its members, cut
pub exact : (extent members_size : ℕ) (entry : Entry) (members : Forest)
    → members_size ≡ min (size_in members) (most_storage + 1) → extent ≡ min (times entry * (entry.size + members_size)) (most_storage + 1)
    → extent ≡ min (times entry * (entry.size + size_in members)) (most_storage + 1)
exact extent members_size entry members members_is extent_is =
    extent_is ∙ ap (λ m. min (times entry * (entry.size + m)) (most_storage + 1)) members_is ∙ cut_product (times entry) entry.size (size_in members) (most_storage + 1) (times-some entry)

-- one entry more of a size that is cut
pub size_in-step : (size extent members_size : ℕ) (entry : Entry) (members behind : Forest) (whole : ℕ)
    → members_size ≡ min (size_in members) (most_storage + 1) → extent ≡ min (times entry * (entry.size + members_size)) (most_storage + 1)
    → min (size + size_in (Node entry members behind)) (most_storage + 1) ≡ whole → min (min (size + extent) (most_storage + 1) + size_in behind) (most_storage + 1) ≡ whole
size_in-step size extent members_size entry members behind whole members_is extent_is so_far =
    omega (arith, exact extent members_size entry members members_is extent_is)

-- where the storage is not too large, each size is exact
pub too_large-step : (size extent members_size : ℕ) (entry : Entry) (members behind : Forest)
    → members_size ≡ min (size_in members) (most_storage + 1) → extent ≡ min (times entry * (entry.size + members_size)) (most_storage + 1)
    → size + extent ≤ most_storage → too_large size (Node entry members behind) ≡ too_large (size + extent) behind
too_large-step size extent members_size entry members behind members_is extent_is small =
    let whole : ℕ = times entry * (entry.size + size_in members) in
    let is : extent ≡ min whole (most_storage + 1) = exact extent members_size entry members members_is extent_is in
    let same : whole ≡ extent = omega arith in
    let test : nat_lt most_storage (size + whole) ≡ false = le-ltb most_storage (size + whole) (omega arith) in
    ap (λ b. if b then Some (fault entry.line StorageTooLarge) else too_large (size + whole) behind) test ∙ ap (λ n. too_large (size + n) behind) same

pub too_large-found : (size extent members_size : ℕ) (entry : Entry) (members behind : Forest)
    → members_size ≡ min (size_in members) (most_storage + 1) → extent ≡ min (times entry * (entry.size + members_size)) (most_storage + 1)
    → size ≤ most_storage → most_storage < size + extent → too_large size (Node entry members behind) ≡ Some (fault entry.line StorageTooLarge)
too_large-found size extent members_size entry members behind members_is extent_is before large =
    let whole : ℕ = times entry * (entry.size + size_in members) in
    let is : extent ≡ min whole (most_storage + 1) = exact extent members_size entry members members_is extent_is in
    let test : nat_lt most_storage (size + whole) ≡ true = lt-ltb most_storage (size + whole) (omega arith) in
    ap (λ b. if b then Some (fault entry.line StorageTooLarge) else too_large (size + whole) behind) test

too_large-none-by : (size whole : ℕ) (entry : Entry) (behind : Forest) (large : Bool) → nat_lt most_storage (size + whole) ≡ large
    → (if large then Some (fault entry.line StorageTooLarge) else too_large (size + whole) behind) ≡ None
    → (size + whole ≤ most_storage → too_large (size + whole) behind ≡ None → size + whole + size_in behind ≤ most_storage) → size + (whole + size_in behind) ≤ most_storage
too_large-none-by size whole entry behind true test none further = absurd cc
too_large-none-by size whole entry behind false test none further = omega (arith, further (ltb-false most_storage (size + whole) test) none)

-- storage that is not too large fits
pub too_large-none : (size : ℕ) (f : Forest) → size ≤ most_storage → too_large size f ≡ None → size + size_in f ≤ most_storage
too_large-none size Empty before none = omega arith
too_large-none size (Node entry members behind) before none = too_large-none-by size (times entry * (entry.size + size_in members)) entry behind (nat_lt most_storage (size + times entry * (entry.size + size_in members))) refl none
    (too_large-none (size + times entry * (entry.size + size_in members)) behind)
