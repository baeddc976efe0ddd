use Rattle.std.proofs.Common.{◌≡◌, ◌≢◌, ℕ, zero, suc, ◌<◌, ◌||◌, ◌++◌, List, [], ◌∷◌, true, false, nat_eq, length, take, drop, refl, subst, arith}
use Rattle.std.specs.Prelude.{slice_index_or}
use Rattle.std.specs.FinMap.{nat_cmp-IsAntisymmetric}
use Rattle.std.proofs.lemmas.Bool.Decides.{nat_tests}
use Rattle.pw_locks.specs.Indexes.{has}
use Rattle.pw_locks.proofs.index.drop_number.Goals as goal

-- the others stay where one number is taken from its place
others_stay : (xs : List ℕ) (i number n : ℕ) → i < length xs → slice_index_or xs i 0 ≡ number → n ≢ number → has xs n ≡ true → has (take i xs ++ drop (suc i) xs) n ≡ true
others_stay [] i number n lt is ne h = absurd (omega (arith, lt))
others_stay (x ∷ xs) zero number n lt is ne h =
    let other : nat_eq n x ≡ false = grind (arith, nat_tests, is, ne) in
    rw other at h
others_stay (x ∷ xs) (suc i) number n lt is ne h =
    elim (nat_eq n x) as (λ b. (b || has xs n) ≡ true → (b || has (take i xs ++ drop (suc i) xs) n) ≡ true) [
      | true ↦ λ _. refl
      | false ↦ λ rest. others_stay xs i number n (omega (arith, lt)) is ne rest
    ] h

pub returns-in-Ok : goal.returns-in-Ok
returns-in-Ok c = λ n ne h.
    let value : c.deref.result.now ≡ c.args.numbers.now.items = c.deref.ensures.value in
    let within : c.in-Ok.place < length c.deref.result.now = c.in-Ok.ensures.bound in
    let is : slice_index_or c.deref.result.now c.in-Ok.place 0 ≡ c.args.number = nat_cmp-IsAntisymmetric _ _ (c.in-Ok.ensures.ok 0) in
    rw c.remove.ensures.items
    (others_stay c.args.numbers.now.items c.in-Ok.place c.args.number n
    (subst (λ (xs : List ℕ). c.in-Ok.place < length xs) value within)
    (subst (λ (xs : List ℕ). slice_index_or xs c.in-Ok.place 0 ≡ c.args.number) value is) ne h)
