-- How many tokens stand in front of the end of a text.
use Rattle.std.proofs.Common.{◌≡◌, ℕ, ◌+◌, ◌<◌, Bool, true, false, List, [], ◌∷◌, length, refl, ap, arith}
use Rattle.pw_text.specs.declared.token.Token.{Token}
use Rattle.pw_text.specs.Cursor.{Left, behind}
use Rattle.pw_divisions.specs.Steps.{size_up_to}

module _ (test : Left → Bool) (text : List ℕ) where
  -- the text ends here
  pub size-ends : (tokens : List Token) → test (record { text = text; tokens = tokens }) ≡ true → size_up_to test text tokens ≡ 0
  unfolding size_up_to
  size-ends [] is = refl
  size-ends (token ∷ tokens) is = rw is refl

  -- no token is left
  pub size-none : (tokens : List Token) → length tokens ≡ 0 → size_up_to test text tokens ≡ 0
  unfolding size_up_to
  size-none [] none = refl
  size-none (token ∷ tokens) none = absurd (omega arith)

  -- the text goes on behind its next token
  pub size-more : (tokens : List Token) (rest : Left) → 0 < length tokens → test (record { text = text; tokens = tokens }) ≡ false
      → rest ≡ behind 1 (record { text = text; tokens = tokens }) → size_up_to test text tokens ≡ 1 + size_up_to test rest.text rest.tokens
  unfolding size_up_to
  size-more [] rest some is rest_is = absurd (omega arith)
  size-more (token ∷ tokens) rest some is rest_is = rw (is, rest_is) refl

-- behind the next token there is one less
pub behind-shorter : (text : List ℕ) (tokens : List Token) (rest : Left) → 0 < length tokens
    → rest ≡ behind 1 (record { text = text; tokens = tokens }) → length tokens ≡ 1 + length rest.tokens
behind-shorter text [] rest some is = absurd (omega arith)
behind-shorter text (token ∷ tokens) rest some is =
    let same : length rest.tokens ≡ length tokens = ap (λ (left : Left). length left.tokens) is in
    omega (arith, same)
