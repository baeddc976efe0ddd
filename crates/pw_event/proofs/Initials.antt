-- The keywords that begin with a byte.
use Rattle.std.proofs.Common.{◌≡◌, ◌≢◌, ℕ, Bool, true, false, cond, List, [], ◌∷◌, filter, get_or, refl, sym, ap, ◌∙◌}
use Rattle.std.specs.Prelude.{◌==◌, ◌||◌, find}
use Rattle.std.specs.List.{list_all}
use Rattle.std.specs.Str.{bytes_eq}
use Rattle.std.specs.Cmp.Lexicographic.{bytes_decides}
use Rattle.std.proofs.lemmas.Bool.{ne_eqb, eq-eqb, eqb-true, and_parts}
use Rattle.pw_event.specs.declared.keyword.Keyword.{Keyword}
use Rattle.pw_event.specs.Keywords.{keyword_text, keywords}

-- the first byte of a keyword
abbrev initial : Keyword → ℕ
initial keyword = get_or (keyword_text keyword) 0 0

-- the bytes with which keywords begin
abbrev is_initial : ℕ → Bool
is_initial b =
    b == 65 || (b == 66 || (b == 67 || (b == 68 || (b == 69 || (b == 70 || (b == 75 || (b == 76 || (b == 78 || (b == 79 || (b == 80 || (b == 82 || (b == 83 || (b == 84 || (b == 87 || b == 88))))))))))))))

none-begins : (found : List Keyword) (first : ℕ) → list_all (λ keyword. is_initial (initial keyword)) found ≡ true → is_initial first ≡ false
    → [] ≡ filter (λ keyword. initial keyword == first) found
none-begins [] first all none = refl
none-begins (keyword ∷ found) first all none =
    let parts = and_parts (is_initial (initial keyword)) (list_all (λ keyword. is_initial (initial keyword)) found) all in
    by (initial keyword == first) refl parts.0 (none-begins found first parts.1 none)
  where
    by : (same : Bool) → (initial keyword == first) ≡ same → is_initial (initial keyword) ≡ true → [] ≡ filter (λ keyword. initial keyword == first) found
        → [] ≡ cond same (keyword ∷ filter (λ keyword. initial keyword == first) found) (filter (λ keyword. initial keyword == first) found)
    by true is begins others =
        let bad : true ≡ false = sym begins ∙ ap is_initial (eqb-true (initial keyword) first is) ∙ none in
        absurd cc
    by false is begins others = others

-- no keyword begins with another byte
pub no_keyword : (first : ℕ) → first ≢ 65 → first ≢ 66 → first ≢ 67 → first ≢ 68 → first ≢ 69 → first ≢ 70 → first ≢ 75 → first ≢ 76 → first ≢ 78 → first ≢ 79 → first ≢ 80 → first ≢ 82 → first ≢ 83 → first ≢ 84 → first ≢ 87 → first ≢ 88
    → [] ≡ filter (λ keyword. get_or (keyword_text keyword) 0 0 == first) keywords
no_keyword first a b c d e f k l n o p r s t w x = none-begins keywords first refl other
  where
    other : is_initial first ≡ false
    other = rw (ne_eqb first 65 a, ne_eqb first 66 b, ne_eqb first 67 c, ne_eqb first 68 d, ne_eqb first 69 e, ne_eqb first 70 f, ne_eqb first 75 k, ne_eqb first 76 l, ne_eqb first 78 n, ne_eqb first 79 o, ne_eqb first 80 p, ne_eqb first 82 r, ne_eqb first 83 s, ne_eqb first 84 t, ne_eqb first 87 w, ne_eqb first 88 x) refl

-- what passes a test is found among those that pass another one, where it passes that
find-filter : {A : Type 0} (test among : A → Bool) (xs : List A) → ((x : A) → test x ≡ true → among x ≡ true) → find test (filter among xs) ≡ find test xs
find-filter test among [] passes = refl
find-filter test among (x ∷ xs) passes = by (among x) refl (test x) refl (find-filter test among xs passes)
  where
    by : (a : Bool) → among x ≡ a → (b : Bool) → test x ≡ b → find test (filter among xs) ≡ find test xs
        → find test (cond a (x ∷ filter among xs) (filter among xs)) ≡ find test (x ∷ xs)
    by true is true found others = rw found refl
    by true is false found others = rw found others
    by false is true found others = let bad : true ≡ false = sym (passes x found) ∙ is in absurd cc
    by false is false found others = rw found others

-- a word that is a keyword's text begins as that does
begins_as : (first : ℕ) (word text : List ℕ) → first ≡ get_or word 0 0 → bytes_eq text word ≡ true → (get_or text 0 0 == first) ≡ true
begins_as first word text is same = eq-eqb (get_or text 0 0) first (ap (λ t. get_or t 0 0) ((bytes_decides text word).0 same) ∙ sym is)

-- a word is looked for among the keywords that begin as it does
pub keyword-found : (first : ℕ) (word : List ℕ) → first ≡ get_or word 0 0
    → find (λ keyword. bytes_eq (keyword_text keyword) word) (filter (λ keyword. get_or (keyword_text keyword) 0 0 == first) keywords)
    ≡ find (λ keyword. bytes_eq (keyword_text keyword) word) keywords
keyword-found first word is =
    find-filter (λ keyword. bytes_eq (keyword_text keyword) word) (λ keyword. get_or (keyword_text keyword) 0 0 == first) keywords
    (λ keyword same. begins_as first word (keyword_text keyword) is same)
