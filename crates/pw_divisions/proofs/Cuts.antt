-- The entries from the left: the first one, and those behind it.
use Rattle.std.proofs.Common.{◌≡◌, ℕ, suc, ◌+◌, ◌<◌, ◌≤◌, Bool, true, false, not, List, [], ◌∷◌, length, take, drop, take_while, cond, refl, ap, subst, ◌∙◌, arith}
use Rattle.std.proofs.lemmas.List.Sums.{take_while-cons}
use Rattle.pw_text.specs.declared.token.TokenKind.TheVariants as kind
use Rattle.pw_text.specs.declared.token.Token.{Token}
use Rattle.pw_text.specs.Cursor.{has_kind}
use Rattle.pw_divisions.specs.Entries.{token_joined, division_entries_of}

-- how many tokens stand in front of the first period
abbrev pub front : List Token → ℕ
front tokens = length (take_while (λ token. not (has_kind kind.Period token)) tokens)

ends : (token : Token) (tokens : List Token) → has_kind kind.Period token ≡ true → front (token ∷ tokens) ≡ 0
ends token tokens is = ap length (take_while-cons (λ t. not (has_kind kind.Period t)) token tokens) ∙ rw is refl

goes_on : (token : Token) (tokens : List Token) → has_kind kind.Period token ≡ false → front (token ∷ tokens) ≡ 1 + front tokens
goes_on token tokens is =
    ap length (take_while-cons (λ t. not (has_kind kind.Period t)) token tokens)
    ∙ ap (λ b. length (cond (not b) (token ∷ take_while (λ t. not (has_kind kind.Period t)) tokens) [])) is
    ∙ omega arith

one-entry : (token : Token) (tokens : List Token) → has_kind kind.Period token ≡ true → division_entries_of (token ∷ tokens) ≡ (token ∷ []) ∷ division_entries_of tokens
unfolding division_entries_of
one-entry token tokens is = rw is refl

joins : (token : Token) (tokens : List Token) → has_kind kind.Period token ≡ false → division_entries_of (token ∷ tokens) ≡ token_joined token (division_entries_of tokens)
unfolding division_entries_of
joins token tokens is = rw is refl

-- no token is left
pub no-entries : (tokens : List Token) → length tokens ≡ 0 → division_entries_of tokens ≡ []
unfolding division_entries_of
no-entries [] none = refl
no-entries (token ∷ tokens) none = absurd (omega arith)

-- the entries are the first one, of a size, and those behind it
abbrev pub Cut : List Token → ℕ → Type 0
Cut tokens size = division_entries_of tokens ≡ take size tokens ∷ division_entries_of (drop size tokens)

same-size : (tokens : List Token) (a b : ℕ) → a ≡ b → Cut tokens a → Cut tokens b
same-size tokens a b is cut = let P : ℕ → Type 0 = λ n. Cut tokens n in subst P is cut

more : (token : Token) (tokens : List Token) (size : ℕ) → has_kind kind.Period token ≡ false → Cut tokens size → Cut (token ∷ tokens) (suc size)
more token tokens size is cut = joins token tokens is ∙ ap (token_joined token) cut

cut-period_by : (token : Token) (tokens : List Token) (b : Bool) → has_kind kind.Period token ≡ b
    → (front tokens < length tokens → Cut tokens (front tokens + 1)) → front (token ∷ tokens) < length (token ∷ tokens) → Cut (token ∷ tokens) (front (token ∷ tokens) + 1)
cut-period_by token tokens true is rest some =
    same-size (token ∷ tokens) 1 (front (token ∷ tokens) + 1) (omega (arith, ends token tokens is)) (one-entry token tokens is)
cut-period_by token tokens false is rest some =
    same-size (token ∷ tokens) (suc (front tokens + 1)) (front (token ∷ tokens) + 1) (omega (arith, goes_on token tokens is))
    (more token tokens (front tokens + 1) is (rest (omega (arith, goes_on token tokens is))))

-- the first entry has a period
pub cut-period : (tokens : List Token) → front tokens < length tokens → Cut tokens (front tokens + 1)
cut-period [] some = absurd (omega arith)
cut-period (token ∷ tokens) some = cut-period_by token tokens (has_kind kind.Period token) refl (cut-period tokens) some

cut-alone : (token : Token) → has_kind kind.Period token ≡ false → Cut (token ∷ []) 1
unfolding division_entries_of
cut-alone token is = rw is refl

cut-whole_by : (token next : Token) (tokens : List Token) (b : Bool) → has_kind kind.Period token ≡ b
    → (length (next ∷ tokens) ≤ front (next ∷ tokens) → Cut (next ∷ tokens) (front (next ∷ tokens)))
    → length (token ∷ next ∷ tokens) ≤ front (token ∷ next ∷ tokens) → Cut (token ∷ next ∷ tokens) (front (token ∷ next ∷ tokens))
cut-whole_by token next tokens true is rest none = absurd (omega (arith, ends token (next ∷ tokens) is))
cut-whole_by token next tokens false is rest none =
    same-size (token ∷ next ∷ tokens) (suc (front (next ∷ tokens))) (front (token ∷ next ∷ tokens)) (omega (arith, goes_on token (next ∷ tokens) is))
    (more token (next ∷ tokens) (front (next ∷ tokens)) is (rest (omega (arith, goes_on token (next ∷ tokens) is))))

cut-last_by : (token : Token) (b : Bool) → has_kind kind.Period token ≡ b → length (token ∷ []) ≤ front (token ∷ []) → Cut (token ∷ []) (front (token ∷ []))
cut-last_by token true is none = absurd (omega (arith, ends token [] is))
cut-last_by token false is none = same-size (token ∷ []) 1 (front (token ∷ [])) (omega (arith, goes_on token [] is)) (cut-alone token is)

-- the first entry has no period
pub cut-whole : (tokens : List Token) → 0 < length tokens → length tokens ≤ front tokens → Cut tokens (front tokens)
cut-whole [] some none = absurd (omega arith)
cut-whole (token ∷ []) some none = cut-last_by token (has_kind kind.Period token) refl none
cut-whole (token ∷ (next ∷ tokens)) some none =
    cut-whole_by token next tokens (has_kind kind.Period token) refl (cut-whole (next ∷ tokens) (omega arith)) none
