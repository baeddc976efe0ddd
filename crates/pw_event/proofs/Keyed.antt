-- Names in a set that keeps their order.
use Rattle.std.proofs.Common.{◌≡◌, ℕ, ◌+◌, ◌<◌, Bool, false, not, cond, List, [], ◌∷◌, ◌++◌, map, length, get_or, take, Bor, refl, sym, ap, ◌∙◌, arith}
use Rattle.std.specs.List.{position, prefix_len, list_any, IsDistinct}
use Rattle.std.specs.Str.{bytes_eq}
use Rattle.std.proofs.lemmas.List.{get_or-map, get_or-take, length-map, length-take-le, map-append, take_more}
use Rattle.std.proofs.lemmas.List.Recursion.{or_from_places}
use Rattle.pw_base.proofs.Plain.{bytes_eq-swap}
use Rattle.indexmap.specs.IndexSet.{insert_key}
use Rattle.pw_event.proofs.Looked.{distinct_at}
use Rattle.pw_event.proofs.Sentences.{texts}

prefix_like : {A B : Type 0} (p : B → Bool) (q : A → Bool) (f : A → B) → ((x : A) → p (f x) ≡ q x) → (xs : List A) → prefix_len p (map f xs) ≡ prefix_len q xs
prefix_like p q f same [] = refl
prefix_like p q f same (x ∷ xs) = rw (same x, prefix_like p q f same xs) refl

-- tests that agree pass first at one place
pub position_like : {A B : Type 0} (p : B → Bool) (q : A → Bool) (f : A → B) → ((x : A) → p (f x) ≡ q x) → (xs : List A) → position p (map f xs) ≡ position q xs
position_like p q f same xs = rw (prefix_like (λ x. not (p x)) (λ x. not (q x)) f (λ x. ap not (same x)) xs, length-map xs f) refl

pub place_of_key : (keys : List (Bor (List ℕ))) (name : List ℕ) → position (λ key. bytes_eq name key.now) keys ≡ position (λ row. bytes_eq row name) (texts keys)
place_of_key keys name = sym (position_like (λ row. bytes_eq row name) (λ (key : Bor (List ℕ)). bytes_eq name key.now) (λ (key : Bor (List ℕ)). key.now) (λ key. bytes_eq-swap key.now name) keys)

abbrev pub same_key : Bor (List ℕ) → Bor (List ℕ) → Bool
same_key a b = bytes_eq a.now b.now

-- the name of the next place is none of those before it
pub key_is_new : (names : List (List ℕ)) (keys : List (Bor (List ℕ))) (key : Bor (List ℕ)) (i : ℕ) → IsDistinct bytes_eq names → i < length names
    → texts keys ≡ take i names → key.now ≡ get_or names i [] → list_any (same_key key) keys ≡ false
key_is_new names keys key i distinct within so_far is =
    let size : length keys ≡ i = sym (length-map keys (λ (k : Bor (List ℕ)). k.now)) ∙ ap length so_far ∙ length-take-le i names (omega arith) in
    or_from_places (list_any (same_key key)) (same_key key) refl (λ x xs. refl) keys key (λ k less.
    let below : k < i = omega arith in
    let text : (get_or keys k key).now ≡ get_or names k [] =
    sym (get_or-map (λ (k : Bor (List ℕ)). k.now) keys k key [] less) ∙ ap (λ ws. get_or ws k []) so_far ∙ get_or-take i names k [] below in
    rw (text, is) (bytes_eq-swap (get_or names i []) (get_or names k []) ∙ distinct_at names distinct k i below within))

-- one name more
pub keys_more : (names : List (List ℕ)) (keys next : List (Bor (List ℕ))) (key : Bor (List ℕ)) (i : ℕ) → IsDistinct bytes_eq names → i < length names
    → next ≡ insert_key same_key keys key → key.now ≡ get_or names i [] → texts keys ≡ take i names → texts next ≡ take (i + 1) names
keys_more names keys next key i distinct within inserted is so_far =
    let new : list_any (same_key key) keys ≡ false = key_is_new names keys key i distinct within so_far is in
    ap texts (inserted ∙ ap (λ b. cond b keys (keys ++ key ∷ [])) new)
    ∙ map-append (λ (k : Bor (List ℕ)). k.now) keys (key ∷ [])
    ∙ ap (λ ws. ws ++ key.now ∷ []) so_far
    ∙ ap (λ w. take i names ++ w ∷ []) is
    ∙ sym (take_more names i [] within)

-- the name of a thing
pub name_at : {A : Type 0} (name : A → List ℕ) (things : List A) (i : ℕ) (thing : A) → i < length things → thing ≡ get_or things i thing → name thing ≡ get_or (map name things) i []
name_at name things i thing within is = ap name is ∙ sym (get_or-map name things i thing [] within)
