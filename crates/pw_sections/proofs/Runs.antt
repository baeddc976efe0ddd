-- The first word of a line.
use Rattle.std.proofs.Common.{◌≡◌, ◌≢◌, ℕ, zero, suc, ◌<◌, Bool, true, false, not, cond, eqb, List, [], ◌∷◌, length, take, drop, take_while, refl, sym, ap, ◌∙◌, arith}
use Rattle.std.proofs.lemmas.List.Folds.{length-prefix_len}
use Rattle.std.specs.List.{prefix_len}
use Rattle.pw_sections.specs.Lines.{in_front}
use Rattle.pw_sections.specs.Words.{ends_word, words}

-- how many spaces, and how many other bytes, stand in front
spaces : List ℕ → ℕ
spaces line = prefix_len (λ b. eqb b 32) line

word_size : List ℕ → ℕ
word_size line = prefix_len (λ b. not (eqb b 32)) line

one_space : (b : ℕ) (rest : List ℕ) → eqb b 32 ≡ true → spaces (b ∷ rest) ≡ suc (spaces rest)
unfolding spaces
one_space b rest e = rw e (omega arith)

no_space : (b : ℕ) (rest : List ℕ) → eqb b 32 ≡ false → spaces (b ∷ rest) ≡ 0
unfolding spaces
no_space b rest e = rw e refl

one_byte : (b : ℕ) (rest : List ℕ) → eqb b 32 ≡ false → word_size (b ∷ rest) ≡ suc (word_size rest)
unfolding word_size
one_byte b rest e = rw e (omega arith)

no_byte : (b : ℕ) (rest : List ℕ) → eqb b 32 ≡ true → word_size (b ∷ rest) ≡ 0
unfolding word_size
no_byte b rest e = rw e refl

end_size : word_size [] ≡ 0
unfolding word_size
end_size = refl

no_words : words [] ≡ []
unfolding words
no_words = refl

step : (b : ℕ) (rest : List ℕ)
    → words (b ∷ rest) ≡ cond (eqb b 32) (words rest) (cond (ends_word rest) ((b ∷ []) ∷ words rest) (in_front b (words rest)))
unfolding words
step b rest = refl

space_step : (b : ℕ) (rest : List ℕ) → eqb b 32 ≡ true → words (b ∷ rest) ≡ words rest
space_step b rest e = step b rest ∙ ap (λ t. cond t (words rest) (cond (ends_word rest) ((b ∷ []) ∷ words rest) (in_front b (words rest)))) e

byte_step : (b : ℕ) (rest : List ℕ) → eqb b 32 ≡ false → words (b ∷ rest) ≡ cond (ends_word rest) ((b ∷ []) ∷ words rest) (in_front b (words rest))
byte_step b rest e = step b rest ∙ ap (λ t. cond t (words rest) (cond (ends_word rest) ((b ∷ []) ∷ words rest) (in_front b (words rest)))) e

drop_none : (n : ℕ) → drop {A = ℕ} n [] ≡ []
drop_none zero = refl
drop_none (suc n) = refl

-- spaces in front are no word
behind_spaces : (line : List ℕ) → words (drop (spaces line) line) ≡ words line
behind_spaces [] = ap words (drop_none (spaces []))
behind_spaces (b ∷ rest) = go (eqb b 32) refl (behind_spaces rest)
  where
    go : (t : Bool) → eqb b 32 ≡ t → words (drop (spaces rest) rest) ≡ words rest → words (drop (spaces (b ∷ rest)) (b ∷ rest)) ≡ words (b ∷ rest)
    go true e more = ap (λ n. words (drop n (b ∷ rest))) (one_space b rest e) ∙ more ∙ sym (space_step b rest e)
    go false e more = ap (λ n. words (drop n (b ∷ rest))) (no_space b rest e)

-- behind them no space stands in front
begins : (line : List ℕ) (b : ℕ) (rest : List ℕ) → drop (spaces line) line ≡ b ∷ rest → eqb b 32 ≡ false
begins [] b rest is = let none : drop (spaces []) [] ≡ [] = drop_none (spaces []) in absurd cc
begins (c ∷ line) b rest is = go (eqb c 32) refl (begins line b rest)
  where
    go : (t : Bool) → eqb c 32 ≡ t → (drop (spaces line) line ≡ b ∷ rest → eqb b 32 ≡ false) → eqb b 32 ≡ false
    go true e more = more (ap (λ n. drop n (c ∷ line)) (sym (one_space c line e)) ∙ is)
    go false e more =
        let same : c ∷ line ≡ b ∷ rest = ap (λ n. drop n (c ∷ line)) (sym (no_space c line e)) ∙ is in
        let byte : b ≡ c = cc in
        ap (λ x. eqb x 32) byte ∙ e

abbrev pub cut_at : ℕ → List ℕ → List (List ℕ)
cut_at k line = take k line ∷ words (drop k line)

-- the bytes up to a space are the first word
one_word : (b : ℕ) (rest : List ℕ) → eqb b 32 ≡ false → words (b ∷ rest) ≡ cut_at (word_size (b ∷ rest)) (b ∷ rest)
one_word b [] e = byte_step b [] e ∙ ap (λ k. cut_at k (b ∷ [])) (sym (one_byte b [] e ∙ ap (λ n. suc n) end_size))
one_word b (c ∷ rest) e = go (eqb c 32) refl (one_word c rest)
  where
    go : (t : Bool) → eqb c 32 ≡ t → (eqb c 32 ≡ false → words (c ∷ rest) ≡ cut_at (word_size (c ∷ rest)) (c ∷ rest))
        → words (b ∷ c ∷ rest) ≡ cut_at (word_size (b ∷ c ∷ rest)) (b ∷ c ∷ rest)
    go true h more =
        byte_step b (c ∷ rest) e ∙ ap (λ t. cond t ((b ∷ []) ∷ words (c ∷ rest)) (in_front b (words (c ∷ rest)))) h
        ∙ ap (λ k. cut_at k (b ∷ c ∷ rest)) (sym (one_byte b (c ∷ rest) e ∙ ap (λ n. suc n) (no_byte c rest h)))
    go false h more =
        byte_step b (c ∷ rest) e ∙ ap (λ t. cond t ((b ∷ []) ∷ words (c ∷ rest)) (in_front b (words (c ∷ rest)))) h
        ∙ ap (in_front b) (more h) ∙ ap (λ k. cut_at k (b ∷ c ∷ rest)) (sym (one_byte b (c ∷ rest) e))

-- the rest behind the spaces of a line
abbrev pub IsRest : List ℕ → List ℕ → Type 0
IsRest line rest = rest ≡ drop (length (take_while (λ b. eqb b 32) line)) line

behind : (line rest : List ℕ) → IsRest line rest → drop (spaces line) line ≡ rest
unfolding spaces
behind line rest is = ap (λ k. drop k line) (sym (length-prefix_len (λ b. eqb b 32) line)) ∙ sym is

-- where nothing is left behind the spaces, there is no word
pub no_word : (line rest : List ℕ) → IsRest line rest → rest ≡ [] → words line ≡ []
no_word line rest is none = sym (behind_spaces line) ∙ ap words (behind line rest is ∙ none) ∙ no_words

size_is : (rest : List ℕ) → length (take_while (λ b. not (eqb b 32)) rest) ≡ word_size rest
unfolding word_size
size_is rest = length-prefix_len (λ b. not (eqb b 32)) rest

-- else the first word is cut off there
pub first_word : (line rest : List ℕ) → IsRest line rest → rest ≢ []
    → words line ≡ cut_at (length (take_while (λ b. not (eqb b 32)) rest)) rest
first_word line [] is some = absurd (some refl)
first_word line (b ∷ rest) is some =
    let there = behind line (b ∷ rest) is in
    sym (behind_spaces line) ∙ ap words there ∙ one_word b rest (begins line b rest there)
    ∙ ap (λ k. cut_at k (b ∷ rest)) (sym (size_is (b ∷ rest)))

-- a word is not empty
pub some_size : (line rest : List ℕ) → IsRest line rest → rest ≢ [] → 0 < length (take_while (λ b. not (eqb b 32)) rest)
some_size line [] is some = absurd (some refl)
some_size line (b ∷ rest) is some =
    let size = size_is (b ∷ rest) ∙ one_byte b rest (begins line b rest (behind line (b ∷ rest) is)) in
    omega (arith, size)
