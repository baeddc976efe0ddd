-- The least of some faults is the first of them, and a list may be taken in parts.
use Rattle.std.proofs.Common.{◌≡◌, Bool, true, false, cond, List, [], ◌∷◌, ◌++◌, Option, Some, None, refl, sym, ◌⊎◌, inl, inr, ⊎_elim, subst, arith}
use Rattle.std.proofs.lemmas.Bool.Decides.{nat_tests}
use Rattle.pw_base.specs.declared.fault.Fault.{Fault}
use Rattle.pw_base.specs.First.{is_before, better, least, IsAmong, NoneBefore}

pub least-append : (known : Option Fault) (xs ys : List Fault) → least known (xs ++ ys) ≡ least (least known xs) ys
least-append known [] ys = refl
least-append known (x ∷ xs) ys = least-append (better known x) xs ys

-- where x is before the known fault, but not before this one, the known fault is not before this one
not_before-earlier : (x known fault : Fault) → is_before x known ≡ true → is_before x fault ≡ false → is_before known fault ≡ false
not_before-earlier x known fault before none = grind (arith, nat_tests)

-- "not before" goes from one to the next
not_before-trans : (x known fault : Fault) → is_before x known ≡ false → is_before known fault ≡ false → is_before x fault ≡ false
not_before-trans x known fault before none = grind (arith, nat_tests)

-- no fault is before itself
not_before-itself : (fault : Fault) → is_before fault fault ≡ false
not_before-itself fault = grind (arith, nat_tests)

-- the fault is the known one or one of the list, and neither the known one nor one of the list is before it
record IsFirst (known fault : Fault) (faults : List Fault) : Type 0 where
  pub is_one : (fault ≡ known) ⊎ IsAmong fault faults
  pub known_not_before : is_before known fault ≡ false
  pub none_before : NoneBefore fault faults

IsFirst-alone : (known fault : Fault) → Some known ≡ Some fault → IsFirst known fault []
IsFirst-alone known fault is =
    let same : known ≡ fault = cc in
    record { is_one = inl (sym same); known_not_before = subst (λ x. is_before known x ≡ false) same (not_before-itself known); none_before = tt }

-- the next fault is before the known one, and takes its place
IsFirst-replaced : (x known fault : Fault) (faults : List Fault) → IsFirst x fault faults → is_before x known ≡ true → IsFirst known fault (x ∷ faults)
IsFirst-replaced x known fault faults first before = record {
  is_one = inr first.is_one;
  known_not_before = not_before-earlier x known fault before first.known_not_before;
  none_before = (first.known_not_before, first.none_before);
}

-- the next fault is not before the known one, which stays
IsFirst-kept : (x known fault : Fault) (faults : List Fault) → IsFirst known fault faults → is_before x known ≡ false → IsFirst known fault (x ∷ faults)
IsFirst-kept x known fault faults first not_before = record {
  is_one = ⊎_elim (λ is. inl is) (λ is. inr (inr is)) first.is_one;
  known_not_before = first.known_not_before;
  none_before = (not_before-trans x known fault not_before first.known_not_before, first.none_before);
}

IsFirst-next : (test : Bool) (x known fault : Fault) (faults : List Fault) → is_before x known ≡ test
    → (least (Some x) faults ≡ Some fault → IsFirst x fault faults) → (least (Some known) faults ≡ Some fault → IsFirst known fault faults)
    → least (cond test (Some x) (Some known)) faults ≡ Some fault → IsFirst known fault (x ∷ faults)
IsFirst-next true x known fault faults before with_x with_known is = IsFirst-replaced x known fault faults (with_x is) before
IsFirst-next false x known fault faults before with_x with_known is = IsFirst-kept x known fault faults (with_known is) before

IsFirst-from_least : (faults : List Fault) (known fault : Fault) → least (Some known) faults ≡ Some fault → IsFirst known fault faults
IsFirst-from_least [] known fault is = IsFirst-alone known fault is
IsFirst-from_least (x ∷ xs) known fault is =
    IsFirst-next (is_before x known) x known fault xs refl (IsFirst-from_least xs x fault) (IsFirst-from_least xs known fault) is

-- the least of some faults is one of them, and none of them is before it
pub least-some : (faults : List Fault) (fault : Fault) → least None faults ≡ Some fault → IsAmong fault faults × NoneBefore fault faults
least-some [] fault is = absurd cc
least-some (x ∷ xs) fault is = let first = IsFirst-from_least xs x fault is in (first.is_one, (first.known_not_before, first.none_before))

stays-next : (test : Bool) (x known : Fault) (faults : List Fault) → (least (Some x) faults ≡ None → ⊥) → (least (Some known) faults ≡ None → ⊥)
    → least (cond test (Some x) (Some known)) faults ≡ None → ⊥
stays-next true x known faults with_x with_known is = with_x is
stays-next false x known faults with_x with_known is = with_known is

-- a fault that is known is not forgotten
stays : (faults : List Fault) (known : Fault) → least (Some known) faults ≡ None → ⊥
stays [] known is = cc
stays (x ∷ xs) known is = stays-next (is_before x known) x known xs (stays xs x) (stays xs known) is

-- there is no least fault only where there is none
pub least-none : (faults : List Fault) → least None faults ≡ None → faults ≡ []
least-none [] is = refl
least-none (x ∷ xs) is = absurd (stays xs x is)
