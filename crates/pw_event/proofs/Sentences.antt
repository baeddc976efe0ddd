-- Words, and the sentences that they make.
use Rattle.std.proofs.Common.{◌≡◌, ℕ, ◌+◌, ◌<◌, ◌≤◌, List, [], ◌∷◌, ◌++◌, map, length, get_or, drop, Bor, sym, ap, ◌∙◌, append_assoc}
use Rattle.std.proofs.lemmas.List.{append-nil, drop_more, drop_all}
use Rattle.pw_event.specs.Line.{sentence}

-- the words behind the first one, each with a space in front
abbrev pub behind : List (List ℕ) → List ℕ
behind [] = []
behind (word ∷ words) = (32 ∷ word) ++ behind words

sentence_cons : (word : List ℕ) (words : List (List ℕ)) → sentence (word ∷ words) ≡ word ++ behind words
sentence_cons word [] = sym (append-nil word)
sentence_cons word (next ∷ words) = ap (λ rest. word ++ 32 ∷ rest) (sentence_cons next words)

abbrev pub texts : List (Bor (List ℕ)) → List (List ℕ)
texts words = map (λ word. word.now) words

-- the first word alone
pub sentence_first : (words rest : List (Bor (List ℕ))) (first : Bor (List ℕ)) (text : List ℕ) → words ≡ first ∷ rest → text ≡ first.now → text ++ behind (texts rest) ≡ sentence (texts words)
sentence_first words rest first text is begins = rw (is, begins) (sym (sentence_cons first.now (texts rest)))

-- one word more
pub sentence_more : (rest : List (Bor (List ℕ))) (i : ℕ) (d : Bor (List ℕ)) (text spaced next whole : List ℕ) → i < length rest
    → spaced ≡ text ++ 32 ∷ [] → next ≡ spaced ++ (get_or rest i d).now → text ++ behind (texts (drop i rest)) ≡ whole → next ++ behind (texts (drop (i + 1) rest)) ≡ whole
sentence_more rest i d text spaced next whole within space word so_far =
    let left = texts (drop (i + 1) rest) in
    let word_text = (get_or rest i d).now in
    ap (λ t. t ++ behind left) (word ∙ ap (λ t. t ++ word_text) space)
    ∙ (simp append_assoc)
    ∙ sym (ap (λ words. text ++ behind (texts words)) (drop_more rest i d within))
    ∙ so_far

-- no word is left
pub sentence_all : (rest : List (Bor (List ℕ))) (i : ℕ) (text whole : List ℕ) → length rest ≤ i → text ++ behind (texts (drop i rest)) ≡ whole → text ≡ whole
sentence_all rest i text whole all so_far = sym (append-nil text) ∙ sym (ap (λ words. text ++ behind (texts words)) (drop_all i rest all)) ∙ so_far
