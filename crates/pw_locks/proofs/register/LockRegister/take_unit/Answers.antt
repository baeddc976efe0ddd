use Rattle.std.proofs.Common.{◌≡◌, ℕ, true, false, ◌∙◌, refl, subst, arith}
use Rattle.std.specs.Ordering.{nat_cmp, is_eq, ordering_then}
use Rattle.std.specs.Prelude.{nat_eq}
use Rattle.std.specs.declared.cmp.Ordering.{Ordering}
use Rattle.std.specs.declared.cmp.Ordering.TheVariants.{Less, Equal, Greater}
use Rattle.std.proofs.lemmas.Bool.{and_parts}
use Rattle.std.proofs.lemmas.Bool.Decides.{nat_tests}
use Rattle.std.proofs.lemmas.Map.Lookups.{exact_unsigned}
use Rattle.pw_code.specs.declared.unit.Unit as unit
use Rattle.pw_locks.specs.Conflicts.{is_same_unit}
use Rattle.pw_locks.specs.Indexes.{is_filed}
use Rattle.pw_locks.specs.Register.{name_of, name_cmp}
use Rattle.pw_locks.proofs.register.LockRegister.take_unit.Goals as goal

-- a unit of the same terminal and number has the same name, and another one another name
same_name : (a b : unit.Unit) → is_same_unit a b ≡ true → name_of a ≡ name_of b
same_name a b h =
    let parts = and_parts (nat_eq a.terminal b.terminal) (nat_eq a.number b.number) h in
    let p : a.terminal ≡ b.terminal = grind (arith, nat_tests, parts.0) in
    let q : a.number ≡ b.number = grind (arith, nat_tests, parts.1) in
    rw (p, q) refl

then_equal : (r s : Ordering) → is_eq (ordering_then r s) ≡ true → (r ≡ Equal) × (s ≡ Equal)
then_equal Less s h = absurd (cc h)
then_equal Equal Less h = absurd (cc h)
then_equal Equal Equal h = (refl, refl)
then_equal Equal Greater h = absurd (cc h)
then_equal Greater s h = absurd (cc h)

nat_eq-itself : (n : ℕ) → nat_eq n n ≡ true
nat_eq-itself n = grind (arith, nat_tests)

other_name : (a b : unit.Unit) → is_same_unit a b ≡ false → is_eq (name_cmp (name_of b) (name_of a)) ≡ false
other_name a b h =
    elim (is_eq (name_cmp (name_of b) (name_of a))) as (λ t. is_eq (name_cmp (name_of b) (name_of a)) ≡ t → t ≡ false) [
      | true ↦ λ is.
          let parts = then_equal (nat_cmp b.terminal a.terminal) (nat_cmp b.number a.number) is in
          let p : b.terminal ≡ a.terminal = exact_unsigned b.terminal a.terminal parts.0 in
          let q : b.number ≡ a.number = exact_unsigned b.number a.number parts.1 in
          let yes : is_same_unit a b ≡ true = rw (p, q, nat_eq-itself a.terminal) (nat_eq-itself a.number) in
          absurd (cc (yes, h))
      | false ↦ λ is. refl
    ] refl

pub returns-clause-own : goal.returns-clause-own
returns-clause-own c = λ n lock h same.
    c.take.ensures.taken n ∙ subst (λ name. is_filed name_cmp c.args.self.now.units.numbers name n ≡ true) (same_name lock.unit c.args.unit.now same) h.owned

pub returns-clause-others : goal.returns-clause-others
returns-clause-others c = λ n lock h other. record {
  placed = h.placed;
  owned = c.take.ensures.others (name_of lock.unit) n (other_name lock.unit c.args.unit.now other) ∙ h.owned;
}
