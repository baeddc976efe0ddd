-- One name more.
use Rattle.std.proofs.Common.{◌≡◌, ℕ, Bool, true, false, not, cond, List, [], ◌∷◌, ◌++◌, map, refl, sym, ap, ◌∙◌}
use Rattle.std.specs.Prelude.{◌||◌, Vec, bytes_eq}
use Rattle.std.specs.List.{list_any}
use Rattle.std.specs.Cmp.Lexicographic.{bytes_decides}
use Rattle.std.proofs.lemmas.List.{map-append}
use Rattle.pw_base.proofs.Plain.{bytes_eq-swap}
use Rattle.pw_words.specs.Words.{Word}
use Rattle.pw_words.specs.Names.{has_name, with_name}

pub any-map : {A B : Type 0} (test : B → Bool) (f : A → B) (xs : List A) → list_any test (map f xs) ≡ list_any (λ x. test (f x)) xs
any-map test f [] = refl
any-map test f (x ∷ xs) = ap (λ b. test (f x) || b) (any-map test f xs)

behind-by : (a b c : Bool) → c ≡ (b || a) → (x : Bool) → (x || c) ≡ (b || (x || a))
behind-by a true c is true = refl
behind-by a false c is true = refl
behind-by a b c is false = is

-- a word is a name behind others or one of them
any-behind : (name word : Word) (names : List Word) → has_name (names ++ name ∷ []) word ≡ (bytes_eq name word || has_name names word)
any-behind name word [] = ap (λ b. b || false) (bytes_eq-swap word name)
any-behind name word (own ∷ names) = behind-by (has_name names word) (bytes_eq name word) (has_name (names ++ name ∷ []) word) (any-behind name word names) (bytes_eq word own)

there-by : (name word : Word) (names : List Word) → has_name names name ≡ true → (b : Bool) → bytes_eq name word ≡ b → has_name names word ≡ (b || has_name names word)
there-by name word names there true is = ap (has_name names) (sym ((bytes_decides name word).0 is)) ∙ there
there-by name word names there false is = refl

with-by : (name word : Word) (names : List Word) (b : Bool) → has_name names name ≡ b → has_name (cond b names (names ++ name ∷ [])) word ≡ (bytes_eq name word || has_name names word)
with-by name word names true there = there-by name word names there (bytes_eq name word) refl
with-by name word names false there = any-behind name word names

-- a word is one of the names with one more where it is the one or one of them
pub has_name-with : (names : List Word) (name word : Word) → has_name (with_name names name) word ≡ (bytes_eq name word || has_name names word)
has_name-with names name word = with-by name word names (has_name names name) refl

texts-by : {A : Type 0} (keys : List (Vec ℕ A)) (key : Vec ℕ A) (b : Bool)
    → map (λ name. name.items) (cond b keys (keys ++ key ∷ [])) ≡ cond b (map (λ name. name.items) keys) (map (λ name. name.items) keys ++ key.items ∷ [])
texts-by keys key true = refl
texts-by keys key false = map-append (λ name. name.items) keys (key ∷ [])

-- the names of a set with one key more
pub texts-insert : {A : Type 0} (keys next : List (Vec ℕ A)) (key : Vec ℕ A) → next ≡ cond (list_any (λ (x : Vec ℕ A). bytes_eq key.items x.items) keys) keys (keys ++ key ∷ [])
    → map (λ name. name.items) next ≡ with_name (map (λ name. name.items) keys) key.items
texts-insert keys next key is =
    ap (map (λ name. name.items)) is
    ∙ texts-by keys key (list_any (λ x. bytes_eq key.items x.items) keys)
    ∙ ap (λ b. cond b (map (λ name. name.items) keys) (map (λ name. name.items) keys ++ key.items ∷ [])) (sym (any-map (bytes_eq key.items) (λ name. name.items) keys))

pub not_twice : (b : Bool) → not (not b) ≡ b
not_twice true = refl
not_twice false = refl
