-- The field that takes an entry is one of its screen.
use Rattle.std.proofs.Common.{◌≡◌, Bool, true, false, List, [], ◌∷◌, cond, Some, subst}
use Rattle.std.specs.Prelude.{All, find}
use Rattle.std.proofs.lemmas.List.Elements.{All-head, All-tail}

pub found_in : {A : Type 0} (P : A → Type 0) (test : A → Bool) (xs : List A) (x : A) → All P xs → find test xs ≡ Some x → P x
found_in P test [] x all e = absurd (cc)
found_in P test (y ∷ ys) x all e = pick (test y) e (found_in P test ys x (All-tail P y ys all))
  where
    pick : (b : Bool) → cond b (Some y) (find test ys) ≡ Some x → (find test ys ≡ Some x → P x) → P x
    pick true h more = let is : y ≡ x = cc in subst P is (All-head P y ys all)
    pick false h more = more h
