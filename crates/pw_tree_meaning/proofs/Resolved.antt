-- What names that resolve stand for.
use Rattle.std.proofs.Common.{◌≡◌, ℕ, zero, suc, ◌<◌, Bool, true, false, List, [], ◌∷◌, length, map, find, slice_get, IsSome, Option, Some, None, refl, ap, ◌∙◌, subst, arith}
use Rattle.std.specs.Prelude.{position, unwrap_or, option_and_then, bytes_eq, if◌then◌else◌}
use Rattle.std.specs.List.{position_from}
use Rattle.std.proofs.lemmas.Iterator.Adapters.{position_from-zero}
use Rattle.std.proofs.lemmas.List.Quantifiers.{position-Some}
use Rattle.std.proofs.lemmas.Option.{same_Some}
use Rattle.pw_words.specs.Words.{Word}
use Rattle.pw_code.specs.declared.file.FileInfo.{FileInfo}
use Rattle.pw_code.specs.declared.system.ClassInfo.{ClassInfo}
use Rattle.pw_operands.specs.Resolved.{Each}

-- ---- each of a list

found-by : {A : Type 0} (P : A → Type 0) (b : Bool) (rest : Option A) (y x : A) → P y → (rest ≡ Some x → P x) → (if b then Some y else rest) ≡ Some x → P x
found-by P true rest y x one others e = subst P (same_Some y x e) one
found-by P false rest y x one others e = others e

pub each-found : {A : Type 0} (P : A → Type 0) (test : A → Bool) (xs : List A) (x : A) → Each P xs → find test xs ≡ Some x → P x
each-found P test [] x each e = absurd cc
each-found P test (y ∷ ys) x each e = found-by P (test y) (find test ys) y x each.0 (each-found P test ys x each.1) e

pub each-got : {A : Type 0} (P : A → Type 0) (xs : List A) (i : ℕ) (x : A) → Each P xs → slice_get xs i ≡ Some x → P x
each-got P [] i x each e = absurd cc
each-got P (y ∷ ys) zero x each e = subst P (same_Some y x e) each.0
each-got P (y ∷ ys) (suc i) x each e = each-got P ys i x each.1 e

pub below-got : {A : Type 0} (xs : List A) (i : ℕ) → i < length xs → (x : A) × (slice_get xs i ≡ Some x)
below-got [] i lt = absurd (omega (arith, lt))
below-got (y ∷ ys) zero lt = (y, refl)
below-got (y ∷ ys) (suc i) lt = below-got ys i (omega (arith, lt))

-- ---- classes and files

unwrapped-below : {A : Type 0} (p : A → Bool) (xs : List A) (d : A) (o : Option ℕ) → position p xs ≡ o → 0 < length xs → unwrap_or o 0 < length xs
unwrapped-below p xs d None e some = some
unwrapped-below p xs d (Some i) e some = (position-Some p xs i d e).0

-- the number of a class that is named is that of one that is there
pub class-below : (classes : List ClassInfo) (name : Word)
    → IsSome (position_from (λ class. bytes_eq class name) 0 (map (λ class. class.name) classes))
    → unwrap_or (position (λ class. bytes_eq class.name name) classes) 0 < length classes
class-below [] name some = absurd cc
class-below (class ∷ classes) name some = unwrapped-below (λ one. bytes_eq one.name name) (class ∷ classes) class _ refl (omega arith)

got-by : (files : List FileInfo) (file : FileInfo) (o : Option ℕ) → option_and_then (slice_get files) o ≡ Some file → slice_get files (unwrap_or o 0) ≡ Some file
got-by files file None e = absurd cc
got-by files file (Some i) e = e

-- the number of a file that is named is that of this file
pub file-got : (files : List FileInfo) (name : Word) (file : FileInfo)
    → option_and_then (slice_get files) (position_from (λ one. bytes_eq one.name name) 0 files) ≡ Some file
    → slice_get files (unwrap_or (position (λ one. bytes_eq one.name name) files) 0) ≡ Some file
file-got files name file e =
    got-by files file (position (λ one. bytes_eq one.name name) files)
    (ap (option_and_then (slice_get files)) (position_from-zero (λ one. bytes_eq one.name name) files) ∙ e)
