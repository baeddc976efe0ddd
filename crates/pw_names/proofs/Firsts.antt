-- The first of some faults is one of them, and none comes before it.
use Rattle.std.proofs.Common.{◌≡◌, Bool, true, false, cond, List, [], ◌∷◌, Some, None, refl, sym, ◌⊎◌, inl, inr, ⊎_elim, subst, arith}
use Rattle.std.proofs.lemmas.Bool.Decides.{nat_tests}
use Rattle.pw_base.specs.declared.fault.Fault.{Fault}
use Rattle.pw_base.specs.First.{IsAmong}
use Rattle.pw_names.specs.Order.{comes_before, first, NoneComesBefore}

-- where x comes before the known fault, but not before this one, the known fault does not come before this one
not_before-earlier : (x known fault : Fault) → comes_before x known ≡ true → comes_before x fault ≡ false → comes_before known fault ≡ false
not_before-earlier x known fault before none = grind (arith, nat_tests)

not_before-trans : (x known fault : Fault) → comes_before x known ≡ false → comes_before known fault ≡ false → comes_before x fault ≡ false
not_before-trans x known fault before none = grind (arith, nat_tests)

not_before-itself : (fault : Fault) → comes_before fault fault ≡ false
not_before-itself fault = grind (arith, nat_tests)

-- the fault is the known one or one of the list, and neither the known one nor one of the list comes before it
record IsFirst (known fault : Fault) (faults : List Fault) : Type 0 where
  pub is_one : (fault ≡ known) ⊎ IsAmong fault faults
  pub known_not_before : comes_before known fault ≡ false
  pub none_before : NoneComesBefore fault faults

IsFirst-alone : (known fault : Fault) → Some known ≡ Some fault → IsFirst known fault []
IsFirst-alone known fault is =
    let same : known ≡ fault = cc in
    record { is_one = inl (sym same); known_not_before = subst (λ x. comes_before known x ≡ false) same (not_before-itself known); none_before = tt }

IsFirst-replaced : (x known fault : Fault) (faults : List Fault) → IsFirst x fault faults → comes_before x known ≡ true → IsFirst known fault (x ∷ faults)
IsFirst-replaced x known fault faults found before = record {
  is_one = inr found.is_one;
  known_not_before = not_before-earlier x known fault before found.known_not_before;
  none_before = (found.known_not_before, found.none_before);
}

IsFirst-kept : (x known fault : Fault) (faults : List Fault) → IsFirst known fault faults → comes_before x known ≡ false → IsFirst known fault (x ∷ faults)
IsFirst-kept x known fault faults found not_before = record {
  is_one = ⊎_elim (λ is. inl is) (λ is. inr (inr is)) found.is_one;
  known_not_before = found.known_not_before;
  none_before = (not_before-trans x known fault not_before found.known_not_before, found.none_before);
}

IsFirst-next : (test : Bool) (x known fault : Fault) (faults : List Fault) → comes_before x known ≡ test
    → (first (Some x) faults ≡ Some fault → IsFirst x fault faults) → (first (Some known) faults ≡ Some fault → IsFirst known fault faults)
    → first (cond test (Some x) (Some known)) faults ≡ Some fault → IsFirst known fault (x ∷ faults)
IsFirst-next true x known fault faults before with_x with_known is = IsFirst-replaced x known fault faults (with_x is) before
IsFirst-next false x known fault faults before with_x with_known is = IsFirst-kept x known fault faults (with_known is) before

is_first : (faults : List Fault) (known fault : Fault) → first (Some known) faults ≡ Some fault → IsFirst known fault faults
is_first [] known fault is = IsFirst-alone known fault is
is_first (x ∷ xs) known fault is =
    IsFirst-next (comes_before x known) x known fault xs refl (is_first xs x fault) (is_first xs known fault) is

pub first-some : (faults : List Fault) (fault : Fault) → first None faults ≡ Some fault → IsAmong fault faults × NoneComesBefore fault faults
first-some [] fault is = absurd cc
first-some (x ∷ xs) fault is = let found = is_first xs x fault is in (found.is_one, (found.known_not_before, found.none_before))
