-- Files and units at the start.
use Rattle.std.proofs.Common.{◌≡◌, ℕ, zero, suc, ◌∙◌, refl, sym, ap, List, [], ◌∷◌, ◌++◌, map, replicate, Option, None, Some}
use Rattle.std.specs.Prelude.{slice_get, slice_index_or}
use Rattle.std.proofs.lemmas.List.{map_push}
use Rattle.pw_files.specs.Records.{with_record}
use Rattle.pw_tmf.specs.Starting.{all_put}

-- one more content is put to the others
pub all_put-push : (n : ℕ) (records contents : List (List ℕ)) (content : List ℕ) → all_put n records (contents ++ content ∷ []) ≡ with_record n (all_put n records contents) content
all_put-push n records [] content = refl
all_put-push n records (x ∷ contents) content = all_put-push n (with_record n records x) contents content

-- two lists of which the same is made, read at one place
pub same-at : {A B C : Type 0} (f : A → B) (g : C → B) (h : Option C → B) (d : A) → f d ≡ h None → ((y : C) → g y ≡ h (Some y)) → (xs : List A) (ys : List C) → map f xs ≡ map g ys
    → (i : ℕ) → f (slice_index_or xs i d) ≡ h (slice_get ys i)
same-at f g h d none each [] [] e i = none
same-at f g h d none each [] (y ∷ ys) e i = absurd (cc e)
same-at f g h d none each (x ∷ xs) [] e i = absurd (cc e)
same-at f g h d none each (x ∷ xs) (y ∷ ys) e zero = let first : f x ≡ g y = cc e in first ∙ each y
same-at f g h d none each (x ∷ xs) (y ∷ ys) e (suc i) = let rest : map f xs ≡ map g ys = cc e in same-at f g h d none each xs ys rest i

-- a list of one value
pub replicated : {A : Type 0} (n : ℕ) (x : A) (i : ℕ) → slice_index_or (replicate n x) i x ≡ x
replicated zero x i = refl
replicated (suc n) x zero = refl
replicated (suc n) x (suc i) = replicated n x i

pub push-both : {A B C : Type 0} (f : A → B) (g : C → B) (xs : List A) (ys : List C) (x : A) (y : C) → map f xs ≡ map g ys → f x ≡ g y → map f (xs ++ x ∷ []) ≡ map g (ys ++ y ∷ [])
push-both f g xs ys x y e is = map_push f xs x ∙ (ap (λ zs. zs ++ f x ∷ []) e ∙ (ap (λ z. map g ys ++ z ∷ []) is ∙ sym (map_push g ys y)))
