-- The lines behind the one that ends a deck, as a loop finds them.
use Rattle.std.proofs.Common.{◌≡◌, ℕ, ◌+◌, Bool, true, false, cond, List, [], ◌∷◌, refl, sym, ap, ◌∙◌}
use Rattle.pw_disc.specs.Script.{LinesBehindDeck, behind_end, ends_deck}

-- by the first line
first_line : (number : ℕ) (all rest : List (List ℕ)) (line : List ℕ) → all ≡ line ∷ rest
    → behind_end number all ≡ cond (ends_deck line) (record { first_line = number + 1; lines = rest }) (behind_end (number + 1) rest)
unfolding behind_end
first_line number all rest line is = ap (behind_end number) is

by_test : (number next : ℕ) (all rest : List (List ℕ)) (line : List ℕ) (ends : Bool) → all ≡ line ∷ rest → next ≡ number + 1 → ends ≡ ends_deck line
    → behind_end number all ≡ cond ends (record { first_line = next; lines = rest }) (behind_end next rest)
by_test number next all rest line ends is more test =
    first_line number all rest line is
    ∙ ap (λ (b : Bool). cond b (record { first_line = number + 1; lines = rest }) (behind_end (number + 1) rest)) (sym test)
    ∙ ap (λ (n : ℕ). cond ends (record { first_line = n; lines = rest }) (behind_end n rest)) (sym more)

-- it ends the deck
pub end_found : (number next : ℕ) (all rest : List (List ℕ)) (line : List ℕ) (whole : LinesBehindDeck) → all ≡ line ∷ rest → next ≡ number + 1 → true ≡ ends_deck line
    → behind_end number all ≡ whole → whole ≡ record { first_line = next; lines = rest }
end_found number next all rest line whole is more test so_far = sym so_far ∙ by_test number next all rest line true is more test

-- it does not
pub goes_on : (number next : ℕ) (all rest : List (List ℕ)) (line : List ℕ) (whole : LinesBehindDeck) → all ≡ line ∷ rest → next ≡ number + 1 → false ≡ ends_deck line
    → behind_end number all ≡ whole → behind_end next rest ≡ whole
goes_on number next all rest line whole is more test so_far = sym (by_test number next all rest line false is more test) ∙ so_far

-- no line is left
pub none_left : (number : ℕ) (all : List (List ℕ)) (whole : LinesBehindDeck) → all ≡ [] → behind_end number all ≡ whole → whole ≡ record { first_line = number; lines = all }
unfolding behind_end
none_left number all whole none so_far = sym so_far ∙ ap (behind_end number) none ∙ ap (λ (ls : List (List ℕ)). record { first_line = number; lines = ls }) (sym none)
