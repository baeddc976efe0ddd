-- A period at the end of a picture.
use Rattle.std.proofs.Common.{◌≡◌, ◌≢◌, ℕ, List, [], ◌∷◌, ◌++◌, Option, Some, None, MatchOption, Bor, refl, sym, ap, ◌∙◌}
use Rattle.std.proofs.lemmas.Bool.{ne_eqb}
use Rattle.std.specs.Option.{unwrap_or}
use Rattle.pw_text.specs.Items.{without_period}

-- bytes with no period at their end stay
no_period : (bytes : List ℕ) → ((front : List ℕ) → bytes ≢ front ++ 46 ∷ []) → without_period bytes ≡ bytes
unfolding without_period
no_period [] none = refl
no_period (b ∷ []) none = let ne : b ≢ 46 = λ e. none [] (ap (λ n. n ∷ []) e) in rw (ne_eqb b 46 ne) refl
no_period (b ∷ (c ∷ bs)) none = ap (λ rest. b ∷ rest) (no_period (c ∷ bs) (λ front e. none (b ∷ front) (ap (λ rest. b ∷ rest) e)))

-- a period at the end goes
one_period : (front : List ℕ) → without_period (front ++ 46 ∷ []) ≡ front
unfolding without_period
one_period [] = refl
one_period (b ∷ []) = refl
one_period (b ∷ (c ∷ bs)) = ap (λ rest. b ∷ rest) (one_period (c ∷ bs))

-- what stripping a period from the end leaves
pub stripped : (bytes : Bor (List ℕ)) (found : Option (Bor (List ℕ)))
    → MatchOption found ((front : List ℕ) → bytes.now ≢ front ++ 46 ∷ []) (λ front. bytes.now ≡ front.now ++ 46 ∷ [])
    → (unwrap_or found bytes).now ≡ without_period bytes.now
stripped bytes None none = sym (no_period bytes.now none)
stripped bytes (Some front) is = sym (ap without_period is ∙ one_period front.now)
