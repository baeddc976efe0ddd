-- The first of faults, found part by part.
use Rattle.std.proofs.Common.{◌≡◌, ℕ, suc, ◌+◌, ◌<◌, ◌≤◌, List, [], ◌∷◌, ◌++◌, length, drop, get_or, Option, refl, sym, ap, ◌∙◌, add-one}
use Rattle.std.proofs.Math.Seq.{drop-cons}
use Rattle.std.specs.List.{flat_map}
use Rattle.std.proofs.lemmas.List.{drop_all}
use Rattle.std.proofs.lemmas.Grind.{flat_map-append}
use Rattle.pw_base.specs.declared.fault.Fault.{Fault}
use Rattle.pw_base.specs.declared.fault_code.FaultCode.{FaultCode}
use Rattle.pw_names.specs.Order.{earlier, first, noted}

pub first-append : (known : Option Fault) (xs ys : List Fault) → first known (xs ++ ys) ≡ first (first known xs) ys
first-append known [] ys = refl
first-append known (x ∷ xs) ys = first-append (earlier known x) xs ys

pub noted-append : (known : Option Fault) (line : ℕ) (xs ys : List FaultCode) → noted known line (xs ++ ys) ≡ noted (noted known line xs) line ys
noted-append known line [] ys = refl
noted-append known line (x ∷ xs) ys = noted-append (earlier known (record { line = line; code = x })) line xs ys

-- a loop over things, each of which has some faults
module _ {X : Type 0} (go : Option Fault → List X → Option Fault) (parts : (known : Option Fault) (xs ys : List X) → go known (xs ++ ys) ≡ go (go known xs) ys) where
  further : {A : Type 0} (h : A → List X) (things : List A) (i : ℕ) (thing : A) (before now whole : Option Fault) → i < length things → thing ≡ get_or things i thing
      → now ≡ go before (h thing) → go before (flat_map h (drop i things)) ≡ whole → go now (flat_map h (drop (i + 1) things)) ≡ whole
  further h things i thing before now whole within is now_is so_far =
      let front : drop i things ≡ thing ∷ drop (i + 1) things = rw (add-one, drop-cons things i thing) (ap (λ x. x ∷ drop (suc i) things) (sym is)) in
      ap (λ known. go known (flat_map h (drop (i + 1) things))) now_is ∙ sym (parts before (h thing) (flat_map h (drop (i + 1) things)))
      ∙ ap (λ xs. go before (flat_map h xs)) (sym front) ∙ so_far

pub first-further : {A : Type 0} (h : A → List Fault) (things : List A) (i : ℕ) (thing : A) (before now whole : Option Fault) → i < length things → thing ≡ get_or things i thing
    → now ≡ first before (h thing) → first before (flat_map h (drop i things)) ≡ whole → first now (flat_map h (drop (i + 1) things)) ≡ whole
first-further = further first first-append

pub noted-further : {A : Type 0} (line : ℕ) (h : A → List FaultCode) (things : List A) (i : ℕ) (thing : A) (before now whole : Option Fault) → i < length things → thing ≡ get_or things i thing
    → now ≡ noted before line (h thing) → noted before line (flat_map h (drop i things)) ≡ whole → noted now line (flat_map h (drop (i + 1) things)) ≡ whole
noted-further line = further (λ known codes. noted known line codes) (λ known xs ys. noted-append known line xs ys)

-- behind the last thing
pub first-done : {A : Type 0} (h : A → List Fault) (things : List A) (i : ℕ) (found whole : Option Fault) → length things ≤ i → first found (flat_map h (drop i things)) ≡ whole → found ≡ whole
first-done h things i found whole done so_far = ap (λ xs. first found (flat_map h xs)) (sym (drop_all i things done)) ∙ so_far

pub noted-done : {A : Type 0} (line : ℕ) (h : A → List FaultCode) (things : List A) (i : ℕ) (found whole : Option Fault) → length things ≤ i → noted found line (flat_map h (drop i things)) ≡ whole → found ≡ whole
noted-done line h things i found whole done so_far = ap (λ xs. noted found line (flat_map h xs)) (sym (drop_all i things done)) ∙ so_far

-- the faults of one part, and of two or three parts
pub one-part : (known after : Option Fault) (line : ℕ) (xs : List FaultCode) → after ≡ noted known line xs → after ≡ noted known line (xs ++ [])
one-part known after line xs is = is ∙ sym (noted-append known line xs [])

pub two-parts : (known between after : Option Fault) (line : ℕ) (xs ys : List FaultCode) → between ≡ noted known line xs → after ≡ noted between line ys → after ≡ noted known line (xs ++ ys)
two-parts known between after line xs ys first_is then_is =
    then_is ∙ ap (λ k. noted k line ys) first_is ∙ sym (noted-append known line xs ys)

pub three-parts : (known first second after : Option Fault) (line : ℕ) (xs ys zs : List FaultCode) → first ≡ noted known line xs → second ≡ noted first line ys → after ≡ noted second line zs
    → after ≡ noted known line (xs ++ (ys ++ zs))
three-parts known first second after line xs ys zs first_is second_is third_is =
    two-parts known first after line xs (ys ++ zs) first_is (two-parts first second after line ys zs second_is third_is)

pub flat_map-flat_map : {A B C : Type 0} (f : B → List C) (g : A → List B) (xs : List A) → flat_map f (flat_map g xs) ≡ flat_map (λ x. flat_map f (g x)) xs
flat_map-flat_map f g [] = refl
flat_map-flat_map f g (x ∷ xs) = flat_map-append f (g x) (flat_map g xs) ∙ ap (λ ys. flat_map f (g x) ++ ys) (flat_map-flat_map f g xs)

pub first-three : (known a b after : Option Fault) (xs ys zs : List Fault) → a ≡ first known xs → b ≡ first a ys → after ≡ first b zs → after ≡ first known (xs ++ (ys ++ zs))
first-three known a b after xs ys zs a_is b_is after_is =
    after_is ∙ ap (λ k. first k zs) b_is ∙ sym (first-append a ys zs) ∙ ap (λ k. first k (ys ++ zs)) a_is ∙ sym (first-append known xs (ys ++ zs))
