-- Lists that are gone through one after the other.
use Rattle.std.proofs.Common.{◌≡◌, ℕ, ◌+◌, ◌<◌, List, ◌∷◌, [], ◌++◌, take, drop, map, get_or, ◌∙◌, sym, ap, subst, length}
use Rattle.std.specs.Prelude.{All, slice_index_or, slice_set}
use Rattle.std.proofs.lemmas.List.{drop_more, map-append, take_more}
use Rattle.pw_world_store.specs.Each.{changed_each}
use Rattle.pw_world_store.proofs.Parts.{seat-is}
use Rattle.pw_world_store.specs.declared.seat.Seat.{Seat}

-- the next one is left with those behind it
pub left-is : {A : Type 0} (xs : List A) (i : ℕ) (x : A) → i < length xs → x ≡ get_or xs i x → drop i xs ≡ x ∷ drop (i + 1) xs
left-is xs i x lt is = drop_more xs i x lt ∙ ap (λ y. y ∷ drop (i + 1) xs) (sym is)

-- it is one of those of which each has a property
pub holds-of : {A : Type 0} (P : A → Type 0) (xs : List A) (i : ℕ) (x : A) → i < length xs → x ≡ get_or xs i x → All P xs → P x
holds-of P xs i x lt is all = subst P (sym is) (all i x lt)

-- what is made of those so far, and of one more
pub made-more : {A B : Type 0} (f : A → B) (xs : List A) (i : ℕ) (x : A) (so_far : List B) (one : B) → i < length xs → x ≡ get_or xs i x
    → so_far ≡ map f (take i xs) → one ≡ f x → so_far ++ one ∷ [] ≡ map f (take (i + 1) xs)
made-more f xs i x so_far one lt is known own =
    let more : take (i + 1) xs ≡ take i xs ++ x ∷ [] = take_more xs i x lt ∙ ap (λ y. take i xs ++ y ∷ []) (sym is) in
    ap (λ ys. ys ++ one ∷ []) known ∙ (ap (λ y. map f (take i xs) ++ y ∷ []) own ∙ sym (ap (map f) more ∙ map-append f (take i xs) (x ∷ [])))

-- one more seat is changed
pub changed-more : (change : ℕ → Seat → Seat) (terminals : List ℕ) (i t : ℕ) (seats : List Seat) (seat new : Seat)
    → i < length terminals → t ≡ get_or terminals i t → t < length seats → seat ≡ slice_index_or seats t seat → new ≡ change t seat
    → changed_each change (drop (i + 1) terminals) (slice_set seats t new) ≡ changed_each change (drop i terminals) seats
changed-more change terminals i t seats seat new lt is low at made =
    ap (λ s. changed_each change (drop (i + 1) terminals) (slice_set seats t s)) (made ∙ ap (change t) (sym (seat-is seats t seat low at)))
    ∙ sym (ap (λ l. changed_each change l seats) (left-is terminals i t lt is))
