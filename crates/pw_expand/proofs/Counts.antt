-- Numbers in front of those of the words that are left.
use Rattle.std.proofs.Common.{◌≡◌, ℕ, ◌+◌, ◌<◌, ◌≤◌, List, [], ◌∷◌, ◌++◌, map, drop, length, get_or, Option, Some, None, Bor, refl, sym, ap, ◌∙◌, append_assoc}
use Rattle.std.proofs.lemmas.List.{append-nil, at_drop_more, drop_all}
use Rattle.pw_expand.specs.Numbers.{count_in, with_count, counts_in}

-- numbers in front of others, where those are there
abbrev pub in_front : List ℕ → Option (List ℕ) → Option (List ℕ)
in_front front None = None
in_front front (Some counts) = Some (front ++ counts)

pub none_in_front : (counts : Option (List ℕ)) → in_front [] counts ≡ counts
none_in_front None = refl
none_in_front (Some counts) = refl

more_in_front : (front : List ℕ) (count : ℕ) (later : Option (List ℕ)) → in_front (front ++ count ∷ []) later ≡ in_front front (with_count (Some count) later)
more_in_front front count None = refl
more_in_front front count (Some counts) = ap Some (append_assoc front (count ∷ []) counts)

abbrev Words : Type 0
Words = List (Bor (List ℕ))

-- the numbers in front of those of some words
abbrev pub with_rest : List ℕ → Words → Option (List ℕ)
with_rest front words = in_front front (counts_in (map (λ word. word.now) words))

-- a word that is a number
pub one_more : (front : List ℕ) (count : ℕ) (words : Words) (i : ℕ) (d : Bor (List ℕ)) (whole : Option (List ℕ)) → i < length words
    → Some count ≡ count_in (get_or words i d).now → with_rest front (drop i words) ≡ whole → with_rest (front ++ count ∷ []) (drop (i + 1) words) ≡ whole
unfolding counts_in
one_more front count words i d whole lt read so_far =
    let later = counts_in (map (λ word. word.now) (drop (i + 1) words)) in
    more_in_front front count later ∙ (ap (λ c. in_front front (with_count c later)) read ∙ (sym (at_drop_more (with_rest front) words i d lt) ∙ so_far))

-- a word that is none
pub one_bad : (front : List ℕ) (words : Words) (i : ℕ) (d : Bor (List ℕ)) (whole : Option (List ℕ)) → i < length words
    → None ≡ count_in (get_or words i d).now → with_rest front (drop i words) ≡ whole → None ≡ whole
unfolding counts_in
one_bad front words i d whole lt read so_far =
    let later = counts_in (map (λ word. word.now) (drop (i + 1) words)) in
    ap (λ c. in_front front (with_count c later)) read ∙ (sym (at_drop_more (with_rest front) words i d lt) ∙ so_far)

-- no word is left
pub no_more : (front : List ℕ) (words : Words) (i : ℕ) (whole : Option (List ℕ)) → length words ≤ i → with_rest front (drop i words) ≡ whole → Some front ≡ whole
unfolding counts_in
no_more front words i whole all so_far = ap Some (sym (append-nil front)) ∙ (ap (with_rest front) (sym (drop_all i words all)) ∙ so_far)
