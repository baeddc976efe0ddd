-- Names that are found among names.
use Rattle.std.proofs.Common.{◌≡◌, ℕ, zero, suc, ◌<◌, Bool, false, List, [], ◌∷◌, length, map, get_or, Some, Ok, refl, sym, ◌∙◌, arith}
use Rattle.std.specs.List.{position, position_or_len, IsDistinct}
use Rattle.std.specs.Str.{bytes_eq}
use Rattle.std.proofs.lemmas.Bool.{lt-ltb}
use Rattle.std.proofs.lemmas.List.{get_or-map, length-map}
use Rattle.std.proofs.lemmas.List.Elements.{All-from_recursion}
use Rattle.std.proofs.lemmas.List.Quantifiers.{position-Some}
use Rattle.std.proofs.lemmas.List.Sums.{position_or_len_is}
use Rattle.std.proofs.lemmas.Slice.Eq.{bytes_eq-Decides}
use Rattle.pw_base.proofs.Plain.{bytes_eq-same}
use Rattle.pw_code.specs.Names.{AreNames}
use Rattle.pw_event.specs.Parsing.{among}

-- no two are the same
pub distinct_at : (names : List (List ℕ)) → IsDistinct bytes_eq names → (k i : ℕ) → k < i → i < length names → bytes_eq (get_or names k []) (get_or names i []) ≡ false
unfolding IsDistinct
distinct_at [] all k i less within = absurd (omega arith)
distinct_at (name ∷ names) all k zero less within = absurd (omega arith)
distinct_at (name ∷ names) all zero (suc i) less within = All-from_recursion (λ other. bytes_eq name other ≡ false) names all.0 i [] (omega arith)
distinct_at (name ∷ names) all (suc k) (suc i) less within = distinct_at names all.1 k i (omega arith) (omega arith)

-- where the number is known
position-at : {A : Type 0} (test : A → Bool) (things : List A) (i : ℕ) → position_or_len test things ≡ i → i < length things → position test things ≡ Some i
position-at test things i at within = rw (at, lt-ltb i (length things) within) refl

-- a name is found where it stands
pub found : (names : List (List ℕ)) → IsDistinct bytes_eq names → (i : ℕ) → i < length names → position (λ name. bytes_eq name (get_or names i [])) names ≡ Some i
found names distinct i within =
    let word = get_or names i [] in
    let before : (k : ℕ) → k < i → bytes_eq (get_or names k []) word ≡ false = λ k less. distinct_at names distinct k i less within in
    position-at (λ name. bytes_eq name word) names i (position_or_len_is (λ name. bytes_eq name word) names i [] (omega arith) before (λ _. bytes_eq-same word)) within

-- the name at a place has the number of the place
pub among_at : (names : List (List ℕ)) → IsDistinct bytes_eq names → (i : ℕ) → i < length names → among names (get_or names i []) ≡ Ok i
unfolding among
among_at names distinct i within = rw (found names distinct i within) refl

-- the same of the names of things
pub among_thing : {A : Type 0} (name : A → List ℕ) (things : List A) → AreNames (map name things) → (i : ℕ) (default : A) → i < length things
    → among (map name things) (name (get_or things i default)) ≡ Ok i
among_thing name things named i default within =
    rw (get_or-map name things i default [] within) at (among_at (map name things) named.distinct i (omega (arith, length-map things name)))

-- what is found is the name
pub found_is : (names : List (List ℕ)) (word : List ℕ) (i : ℕ) → position (λ name. bytes_eq name word) names ≡ Some i → (i < length names) × (get_or names i [] ≡ word)
found_is names word i is =
    let at = position-Some (λ name. bytes_eq name word) names i [] is in
    (at.0, (bytes_eq-Decides _ _).0 at.1)

-- the same of the names of things
pub thing_is : {A : Type 0} (name : A → List ℕ) (things : List A) (word : List ℕ) (i : ℕ) (default : A)
    → position (λ other. bytes_eq other word) (map name things) ≡ Some i → (i < length things) × (name (get_or things i default) ≡ word)
thing_is name things word i default is =
    let at = found_is (map name things) word i is in
    let within : i < length things = omega (arith, at.0, length-map things name) in
    (within, sym (get_or-map name things i default [] within) ∙ at.1)
