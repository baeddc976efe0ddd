-- The pieces from the left: the first one, and those of what stands behind it.
use Rattle.std.proofs.Common.{◌≡◌, ℕ, suc, ◌+◌, ◌<◌, Bool, true, false, not, List, [], ◌∷◌, ◌++◌, length, take, drop, take_while, cond, refl, sym, ap, subst, ◌∙◌, add-zero, arith}
use Rattle.std.proofs.lemmas.List.{drop-drop}
use Rattle.std.proofs.lemmas.List.Sums.{take_while-cons}
use Rattle.std.specs.Prelude.{if◌then◌else◌}
use Rattle.pw_text.specs.declared.token.Token.{Token}
use Rattle.pw_forms.specs.declared.mark.TokenMark.{TokenMark}
use Rattle.pw_forms.specs.declared.mark.TokenMark.TheVariants.{Verb, Else, EndIf, Period, Other}
use Rattle.pw_forms.specs.Words.{mark_of, begins_piece}
use Rattle.pw_forms.specs.Pieces.{is_period, first_mark, first_piece, before, cut, pieces_joined, run_size, piece_size, piece_by, placed, placed_all}

-- what begins no piece is no period
no_period : (mark : TokenMark) → begins_piece mark ≡ false → is_period mark ≡ false
no_period (Verb verb) is = absurd cc
no_period Else is = absurd cc
no_period EndIf is = absurd cc
no_period Period is = absurd cc
no_period Other is = refl

module _ (server : Bool) (text : List ℕ) where
  before-first_by : (token : Token) (piece : List Token) (pieces : List (List Token)) (a b : Bool)
      → is_period (mark_of server text token) ≡ a → begins_piece (first_mark server text piece) ≡ b
      → first_mark server text (first_piece (before server text token (piece ∷ pieces))) ≡ mark_of server text token
  before-first_by token piece pieces true b is starts = rw is refl
  before-first_by token piece pieces false true is starts = rw (is, starts) refl
  before-first_by token piece pieces false false is starts = rw (is, starts) refl

  before-first : (token : Token) (pieces : List (List Token)) → first_mark server text (first_piece (before server text token pieces)) ≡ mark_of server text token
  before-first token [] = refl
  before-first token (piece ∷ pieces) =
      before-first_by token piece pieces (is_period (mark_of server text token)) (begins_piece (first_mark server text piece)) refl refl

  -- the first token of the first piece is the first token
  cut-first : (tokens : List Token) → first_mark server text (first_piece (cut server text tokens)) ≡ first_mark server text tokens
  unfolding cut
  cut-first [] = refl
  cut-first (token ∷ tokens) = before-first token (cut server text tokens)

  -- a piece that begins on its own is not joined
  before-apart : (token : Token) (pieces : List (List Token)) → begins_piece (first_mark server text (first_piece pieces)) ≡ true
      → before server text token pieces ≡ (token ∷ []) ∷ pieces
  before-apart token [] starts = refl
  before-apart token (piece ∷ pieces) starts = before-apart_by token piece pieces (is_period (mark_of server text token)) refl starts
    where
      before-apart_by : (token : Token) (piece : List Token) (pieces : List (List Token)) (a : Bool) → is_period (mark_of server text token) ≡ a
          → begins_piece (first_mark server text piece) ≡ true → before server text token (piece ∷ pieces) ≡ (token ∷ []) ∷ (piece ∷ pieces)
      before-apart_by token piece pieces true is starts = rw is refl
      before-apart_by token piece pieces false is starts = rw (is, starts) refl

  -- a period is not joined with what follows it
  before-period : (token : Token) (pieces : List (List Token)) → is_period (mark_of server text token) ≡ true
      → before server text token pieces ≡ (token ∷ []) ∷ pieces
  before-period token [] is = refl
  before-period token (piece ∷ pieces) is = rw is refl

  before-joins : (token : Token) (piece : List Token) (pieces : List (List Token)) → is_period (mark_of server text token) ≡ false
      → begins_piece (first_mark server text piece) ≡ false → before server text token (piece ∷ pieces) ≡ (token ∷ piece) ∷ pieces
  before-joins token piece pieces is starts = rw (is, starts) refl

  -- a token with those behind it that begin no piece, as their number says
  abbrev With_run : Token → List Token → ℕ → Type 0
  With_run token tokens size = before server text token (cut server text tokens) ≡ (token ∷ take size tokens) ∷ cut server text (drop size tokens)

  pub run_size-begins : (next : Token) (tokens : List Token) → begins_piece (mark_of server text next) ≡ true → run_size server text (next ∷ tokens) ≡ 0
  run_size-begins next tokens starts =
      ap length (take_while-cons (λ token. not (begins_piece (mark_of server text token))) next tokens)
      ∙ ap (λ b. length (cond (not b) (next ∷ take_while (λ token. not (begins_piece (mark_of server text token))) tokens) [])) starts

  pub run_size-goes_on : (next : Token) (tokens : List Token) → begins_piece (mark_of server text next) ≡ false → run_size server text (next ∷ tokens) ≡ suc (run_size server text tokens)
  run_size-goes_on next tokens starts =
      ap length (take_while-cons (λ token. not (begins_piece (mark_of server text token))) next tokens)
      ∙ ap (λ b. length (cond (not b) (next ∷ take_while (λ token. not (begins_piece (mark_of server text token))) tokens) [])) starts

  run-next : (token next : Token) (tokens : List Token) → is_period (mark_of server text token) ≡ false → (a : Bool) → begins_piece (mark_of server text next) ≡ a
      → (is_period (mark_of server text next) ≡ false → With_run next tokens (run_size server text tokens)) → With_run token (next ∷ tokens) (run_size server text (next ∷ tokens))
  unfolding cut
  run-next token next tokens other true starts rest =
      let P : ℕ → Type 0 = With_run token (next ∷ tokens) in
      subst P (sym (run_size-begins next tokens starts))
      (before-apart token (before server text next (cut server text tokens)) (ap begins_piece (before-first next (cut server text tokens)) ∙ starts))
  run-next token next tokens other false starts rest =
      let P : ℕ → Type 0 = With_run token (next ∷ tokens) in
      subst P (sym (run_size-goes_on next tokens starts))
      (ap (before server text token) (rest (no_period _ starts))
      ∙ before-joins token (next ∷ take (run_size server text tokens) tokens) (cut server text (drop (run_size server text tokens) tokens)) other starts)

  with_run : (token : Token) (tokens : List Token) → is_period (mark_of server text token) ≡ false → With_run token tokens (run_size server text tokens)
  unfolding cut
  with_run token [] other = refl
  with_run token (next ∷ tokens) other = run-next token next tokens other (begins_piece (mark_of server text next)) refl (with_run next tokens)

  cut-by : (token : Token) (tokens : List Token) (a : Bool) → is_period (mark_of server text token) ≡ a → (size : ℕ) → size ≡ piece_size server text (token ∷ tokens)
      → cut server text (token ∷ tokens) ≡ take size (token ∷ tokens) ∷ cut server text (drop size (token ∷ tokens))
  unfolding cut
  cut-by token tokens true is size size_is =
      let one : size ≡ 1 = size_is ∙ ap (λ b. if b then 1 else 1 + run_size server text tokens) is in
      let P : ℕ → Type 0 = λ n. before server text token (cut server text tokens) ≡ take n (token ∷ tokens) ∷ cut server text (drop n (token ∷ tokens)) in
      subst P (sym one) (before-period token (cut server text tokens) is)
  cut-by token tokens false is size size_is =
      let more : 1 + run_size server text tokens ≡ suc (run_size server text tokens) = omega arith in
      let run : size ≡ suc (run_size server text tokens) = size_is ∙ ap (λ b. if b then 1 else 1 + run_size server text tokens) is ∙ more in
      let P : ℕ → Type 0 = λ n. before server text token (cut server text tokens) ≡ take n (token ∷ tokens) ∷ cut server text (drop n (token ∷ tokens)) in
      subst P (sym run) (with_run token tokens is)

  -- the first piece, and those of what stands behind it
  pub cut-piece : (tokens : List Token) (size : ℕ) → 0 < length tokens → size ≡ piece_size server text tokens
      → cut server text tokens ≡ take size tokens ∷ cut server text (drop size tokens)
  cut-piece [] size some is = absurd (omega arith)
  cut-piece (token ∷ tokens) size some is = cut-by token tokens (is_period (mark_of server text token)) refl size is

  -- what the first piece is, and what those behind it are
  pub placed_all-piece : (tokens front behind : List Token) (size : ℕ) (followed : Bool) → 0 < length tokens → size ≡ piece_size server text tokens
      → front ≡ take size tokens → behind ≡ drop size tokens → followed ≡ is_period (first_mark server text behind)
      → placed_all server text (cut server text tokens) ≡ placed server text followed front ∷ placed_all server text (cut server text behind)
  unfolding placed_all
  placed_all-piece tokens front behind size followed some size_is front_is behind_is followed_is =
      rw (cut-piece tokens size some size_is, front_is, followed_is, behind_is, cut-first (drop size tokens)) refl

  before-joined : (token : Token) (pieces : List (List Token)) → pieces_joined (before server text token pieces) ≡ token ∷ pieces_joined pieces
  before-joined token [] = refl
  before-joined token (piece ∷ pieces) = before-joined_by token piece pieces (is_period (mark_of server text token)) (begins_piece (first_mark server text piece)) refl refl
    where
      before-joined_by : (token : Token) (piece : List Token) (pieces : List (List Token)) (a b : Bool) → is_period (mark_of server text token) ≡ a
          → begins_piece (first_mark server text piece) ≡ b → pieces_joined (before server text token (piece ∷ pieces)) ≡ token ∷ (piece ++ pieces_joined pieces)
      before-joined_by token piece pieces true b is starts = rw is refl
      before-joined_by token piece pieces false true is starts = rw (is, starts) refl
      before-joined_by token piece pieces false false is starts = rw (is, starts) refl

  -- the pieces joined are the tokens
  pub cut-joined : (tokens : List Token) → pieces_joined (cut server text tokens) ≡ tokens
  unfolding cut
  cut-joined [] = refl
  cut-joined (token ∷ tokens) = before-joined token (cut server text tokens) ∙ ap (λ rest. token ∷ rest) (cut-joined tokens)

  -- no token is left, and so no piece
  pub no_pieces : (tokens : List Token) → length tokens ≡ 0 → placed_all server text (cut server text tokens) ≡ []
  unfolding cut placed_all
  no_pieces [] none = refl
  no_pieces (token ∷ tokens) none = absurd (omega arith)

  -- the run ends in front of this token
  pub run-ends : (size : ℕ) (rest tokens behind : List Token) (token : Token) → rest ≡ token ∷ behind → begins_piece (mark_of server text token) ≡ true
      → size + run_size server text rest ≡ run_size server text tokens → size ≡ run_size server text tokens
  run-ends size rest tokens behind token is starts so_far =
      let none : run_size server text rest ≡ 0 = ap (run_size server text) is ∙ run_size-begins token behind starts in
      omega arith

  -- the run goes on
  pub run-goes_on : (size : ℕ) (rest tokens behind : List Token) (token : Token) → rest ≡ token ∷ behind → begins_piece (mark_of server text token) ≡ false
      → size + run_size server text rest ≡ run_size server text tokens → (size + 1) + run_size server text behind ≡ run_size server text tokens
  run-goes_on size rest tokens behind token is goes so_far =
      let one : run_size server text rest ≡ suc (run_size server text behind) = ap (run_size server text) is ∙ run_size-goes_on token behind goes in
      omega arith

  -- what the first piece is, by its first token and those behind it, and what those behind it are
  pub placed_all-next : (tokens behind front next : List Token) (first : Token) (mark : TokenMark) (size : ℕ) (followed : Bool) → tokens ≡ first ∷ behind
      → mark ≡ first_mark server text tokens → size ≡ (if is_period mark then 0 else run_size server text behind)
      → front ≡ take size behind → next ≡ drop size behind → followed ≡ is_period (first_mark server text next)
      → placed_all server text (cut server text tokens)
      ≡ (record { line = first.line; piece = piece_by mark server text followed first front }) ∷ placed_all server text (cut server text next)
  unfolding placed
  placed_all-next tokens behind front next first mark size followed is mark_is size_is front_is next_is followed_is =
      let own : mark_of server text first ≡ mark = sym (mark_is ∙ ap (first_mark server text) is) in
      let all : suc size ≡ piece_size server text (first ∷ behind) = sized (is_period mark) (ap is_period own) size_is in
      let some : 0 < length (first ∷ behind) = omega arith in
      ap (λ ts. placed_all server text (cut server text ts)) is
      ∙ placed_all-piece (first ∷ behind) (first ∷ front) next (suc size) followed some all (ap (λ ts. first ∷ ts) front_is) next_is followed_is
      ∙ ap (λ m. (record { line = first.line; piece = piece_by m server text followed first front }) ∷ placed_all server text (cut server text next)) own
    where
      sized : (period : Bool) → is_period (mark_of server text first) ≡ period → size ≡ (if period then 0 else run_size server text behind)
          → suc size ≡ piece_size server text (first ∷ behind)
      sized true is n = ap suc n ∙ sym (ap (λ b. if b then 1 else 1 + run_size server text behind) is)
      sized false is n =
          let more : suc (run_size server text behind) ≡ 1 + run_size server text behind = omega arith in
          ap suc n ∙ more ∙ sym (ap (λ b. if b then 1 else 1 + run_size server text behind) is)

  -- the run ends with the tokens
  pub run-all : (size : ℕ) (rest tokens : List Token) → length rest ≡ 0 → size + run_size server text rest ≡ run_size server text tokens → size ≡ run_size server text tokens
  run-all size [] tokens none so_far = sym (add-zero size) ∙ so_far
  run-all size (token ∷ rest) tokens none so_far = absurd (omega arith)

  -- no token is left that begins anything
  pub none-first : (rest tokens : List Token) → length rest ≡ 0 → rest ≡ tokens → Other ≡ first_mark server text tokens
  none-first [] tokens none is = ap (first_mark server text) is
  none-first (token ∷ rest) tokens none is = absurd (omega arith)

-- behind one token more
pub drop-next : (size : ℕ) (rest tokens behind : List Token) (token : Token) → rest ≡ token ∷ behind → rest ≡ drop size tokens → behind ≡ drop (size + 1) tokens
drop-next size rest tokens behind token is at = ap (drop 1) (sym is ∙ at) ∙ drop-drop 1 size tokens
