-- By an index in which each row is found at its place, each word is found at its place.
use Rattle.std.proofs.Common.{◌≡◌, ℕ, zero, suc, ◌+◌, ◌-◌, ◌<◌, ◌≤◌, Bool, true, false, cond, List, [], ◌∷◌, Option, Some, None, refl, sym, ap, ◌∙◌, arith, inl, inr, length}
use Rattle.std.specs.Prelude.{slice_get, find, IfSome}
use Rattle.std.specs.List.{position_from}
use Rattle.std.specs.Str.{str_to_ascii_lowercase}
use Rattle.std.specs.Cmp.Lexicographic.{bytes_decides}
use Rattle.std.proofs.lemmas.Bool.{cases_lt, eqb-true, and_parts}
use Rattle.std.proofs.lemmas.Iterator.Adapters.{position_from-zero}
use Rattle.pw_words.specs.Words.{Word, same_word, word_place}
use Rattle.pw_words.specs.Index.{is_row, place_by, is_place, finds_from, finds_all}

find-none : (test : ℕ → Bool) (places : List ℕ) → ((place : ℕ) → test place ≡ false) → find test places ≡ None
find-none test [] none = refl
find-none test (place ∷ places) none = rw (none place) (find-none test places none)

at-place : (found : Option ℕ) (place : ℕ) → is_place found place ≡ true → found ≡ Some place
at-place None place is = absurd cc
at-place (Some found) place is = ap Some (eqb-true found place is)

-- the same word is the same in lower case
folded-same : (row word : Word) → same_word row word ≡ true → str_to_ascii_lowercase row ≡ str_to_ascii_lowercase word
folded-same row word is = (bytes_decides (str_to_ascii_lowercase row) (str_to_ascii_lowercase word)).0 is

module _ (index : List (List ℕ)) (rows : List Word) (word : Word) where
  -- a word that no row is has no place
  none : (place : ℕ) → ((j : ℕ) → j < place → is_row (slice_get rows j) (str_to_ascii_lowercase word) ≡ false)
      → ((count : ℕ) → slice_get rows (place + count) ≡ None) → place_by index rows (str_to_ascii_lowercase word) ≡ None
  none place before behind =
      find-none (λ j. is_row (slice_get rows j) (str_to_ascii_lowercase word)) _ at
    where
      past : (j : ℕ) → place ≤ j → is_row (slice_get rows j) (str_to_ascii_lowercase word) ≡ false
      past j h =
          let same : place + (j - place) ≡ j = omega arith in
          ap (λ row. is_row row (str_to_ascii_lowercase word)) (ap (slice_get rows) (sym same) ∙ behind (j - place))

      at : (j : ℕ) → is_row (slice_get rows j) (str_to_ascii_lowercase word) ≡ false
      at j = elim (cases_lt j place) [ inl h ↦ before j h | inr h ↦ past j h ]

  -- the rows from a place on, none before which is the word
  from-by : (b : Bool) (place : ℕ) (row : Word) (behind : List Word) → same_word row word ≡ b
      → place_by index rows (str_to_ascii_lowercase row) ≡ Some place
      → (b ≡ false → place_by index rows (str_to_ascii_lowercase word) ≡ position_from (λ r. same_word r word) (place + 1) behind)
      → place_by index rows (str_to_ascii_lowercase word) ≡ position_from (λ r. same_word r word) place (row ∷ behind)
  from-by true place row behind is found rest =
      rw is (ap (place_by index rows) (sym (folded-same row word is)) ∙ found)
  from-by false place row behind is found rest = rw is (rest refl)

  one-more : (place : ℕ) (row : Word) → slice_get rows (place + 0) ≡ Some row → same_word row word ≡ false
      → ((j : ℕ) → j < place → is_row (slice_get rows j) (str_to_ascii_lowercase word) ≡ false)
      → (j : ℕ) → j < place + 1 → is_row (slice_get rows j) (str_to_ascii_lowercase word) ≡ false
  one-more place row at is before j h =
      elim (cases_lt j place) [
        | inl below ↦ before j below
        | inr from ↦
            let same : j ≡ place + 0 = omega arith in
            ap (λ r. is_row r (str_to_ascii_lowercase word)) (ap (slice_get rows) same ∙ at) ∙ is
      ]

  next : (place : ℕ) (row : Word) (behind : List Word)
      → ((count : ℕ) → slice_get rows (place + count) ≡ slice_get (row ∷ behind) count)
      → (count : ℕ) → slice_get rows ((place + 1) + count) ≡ slice_get behind count
  next place row behind at count =
      let same : (place + 1) + count ≡ place + suc count = omega arith in
      ap (slice_get rows) same ∙ at (suc count)

  from : (place : ℕ) (behind : List Word) → finds_from index rows place behind ≡ true
      → ((count : ℕ) → slice_get rows (place + count) ≡ slice_get behind count)
      → ((j : ℕ) → j < place → is_row (slice_get rows j) (str_to_ascii_lowercase word) ≡ false)
      → place_by index rows (str_to_ascii_lowercase word) ≡ position_from (λ r. same_word r word) place behind
  from place [] all at before = none place before at
  from place (row ∷ behind) all at before =
      let parts = and_parts (is_place (place_by index rows (str_to_ascii_lowercase row)) place) (finds_from index rows (place + 1) behind) all in
      from-by (same_word row word) place row behind refl (at-place (place_by index rows (str_to_ascii_lowercase row)) place parts.0)
      (λ is. from (place + 1) behind parts.1 (next place row behind at) (one-more place row (at 0) is before))

  -- by an index that finds all rows, a word is found at its place
  pub place_by-all : finds_all index rows ≡ true → place_by index rows (str_to_ascii_lowercase word) ≡ word_place rows word
  place_by-all all =
      from 0 rows all (λ count. let same : 0 + count ≡ count = omega arith in ap (slice_get rows) same) (λ j h. absurd (omega arith))
      ∙ sym (position_from-zero (λ r. same_word r word) rows)

-- what is found passes the test
passes-by : (test : ℕ → Bool) (place : ℕ) (rest : Option ℕ) (b : Bool) → test place ≡ b → IfSome rest (λ p. test p ≡ true)
    → IfSome (cond b (Some place) rest) (λ p. test p ≡ true)
passes-by test place rest true is behind = is
passes-by test place rest false is behind = behind

pub find-passes : (test : ℕ → Bool) (places : List ℕ) → IfSome (find test places) (λ place. test place ≡ true)
find-passes test [] = tt
find-passes test (place ∷ places) = passes-by test place (find test places) (test place) refl (find-passes test places)

-- where a row is, there is a row
pub row-within : (rows : List Word) (place : ℕ) (folded : Word) → is_row (slice_get rows place) folded ≡ true → place < length rows
row-within [] place folded is = absurd cc
row-within (row ∷ rows) zero folded is = omega arith
row-within (row ∷ rows) (suc place) folded is = let h : place < length rows = row-within rows place folded is in omega arith

-- what is found is a place of a row
pub found-within : (rows : List Word) (folded : Word) (found : Option ℕ) → IfSome found (λ place. is_row (slice_get rows place) folded ≡ true)
    → IfSome found (λ place. place < length rows)
found-within rows folded None at = tt
found-within rows folded (Some place) at = row-within rows place folded at
