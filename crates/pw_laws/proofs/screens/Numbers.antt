-- Refresh numbers rise along a path.
use Rattle.std.proofs.Common.{◌≡◌, ◌≢◌, ◌⊎◌, ℕ, ◌+◌, ◌*◌, ◌<◌, ◌≤◌, inl, inr, ⊎_elim, Bool, true, false, ◌||◌, List, [], ◌∷◌, ◌++◌, Option, Some, None, refl, ap, sym, subst, append_assoc, arith, ◌∙◌}
use Rattle.std.proofs.lemmas.Bool.{cases_Bool, false≢true}
use Rattle.pw_laws.proofs.Paths.{standing-push}
use Rattle.pw_onecopy.specs.declared.refresh.Refresh.{Refresh}
use Rattle.pw_onecopy.specs.Path.{PathAnswer, Begun, Dropped, Ended, Entry, Failed, RefreshNumber, Replied, Shown, Standing, standing_after_answer, number_at, standing_after_reply, standing, standing_after_unit}
use Rattle.pw_onecopy.specs.Refreshes.{next_refresh, same_number}
use Rattle.pw_onecopy.specs.Behaviour.{Behaviour}
use Rattle.pw_laws.proofs.screens.Once.{IsIn, has_number, in-left, in-parts, in-right, same-parts}

-- the number of a refresh lies before this one
abbrev pub IsBefore : Refresh → RefreshNumber → Type 0
IsBefore x n = (x.phase < n.phase) ⊎ ((x.phase ≡ n.phase) × ((x.attempt < n.attempt) ⊎ ((x.attempt ≡ n.attempt) × (x.k < n.k))))

-- the next number where a path stands
abbrev pub next_at : Standing → RefreshNumber
next_at at = number_at at at.within

-- outside transactions: a refresh of the next unit, in one of its first r attempts
abbrev pub IsEarlier : ℕ → Standing → Refresh → Type 0
IsEarlier r at x = (at.within ≡ None) × (x.phase ≡ 2 * at.ended + 1) × (x.attempt < r)

-- each refresh lies before the next one, or is of an attempt of the next unit that has restarted
abbrev pub AreBounded : ℕ → Standing → List Refresh → Type 0
AreBounded r at list = (x : Refresh) → IsIn x list → IsBefore x (next_at at) ⊎ IsEarlier r at x

-- each refresh lies before the next one
abbrev pub AreBefore : Standing → List Refresh → Type 0
AreBefore at list = (x : Refresh) → IsIn x list → IsBefore x (next_at at)

-- the number of a phase at a standing
phase-low : (at : Standing) (w : Option ℕ) → (number_at at w).phase ≤ 2 * at.ended + 1
phase-low at None = omega arith
phase-low at (Some r) = omega arith

-- behind a screen
shown-next : (at : Standing) (w : Option ℕ) (x : Refresh) → IsBefore x (number_at at w) → IsBefore x (number_at (record at { shown = at.shown + 1 }) w)
shown-next at None x (inl low) = inl low
shown-next at None x (inr (same, inl low)) = inr (same, inl low)
shown-next at None x (inr (same, inr (attempt, low))) = inr (same, inr (attempt, omega (arith, low)))
shown-next at (Some r) x (inl low) = inl low
shown-next at (Some r) x (inr (same, inl low)) = inr (same, inl low)
shown-next at (Some r) x (inr (same, inr (attempt, low))) = inr (same, inr (attempt, omega (arith, low)))

-- refreshes lie before the next number behind Shown too
pub shown-bounded : (r : ℕ) (at : Standing) (list : List Refresh) → AreBounded r at list → AreBounded r (standing_after_answer at Shown) list
shown-bounded r at list bounded x there = ⊎_elim (λ low. inl (shown-next at at.within x low)) (λ earlier. inr earlier) (bounded x there)

-- behind Begun(r)
pub begun-bounded : (r : ℕ) (at : Standing) (list : List Refresh) → at.within ≡ None → AreBounded r at list → AreBounded r (standing_after_answer at (Begun r)) list
begun-bounded r at list outside bounded x there =
    ⊎_elim
    (λ low. inl (inl (phase-of at.within outside low)))
    (λ earlier. inl (inr (earlier.1, inl earlier.2)))
    (bounded x there)
  where
    phase-of : (w : Option ℕ) → w ≡ None → IsBefore x (number_at at w) → x.phase < 2 * at.ended + 1
    phase-of None none (inl low) = omega (arith, low)
    phase-of None none (inr rest) = let same = rest.0 in omega (arith, same)
    phase-of (Some n) none low = absurd (cc none)

-- behind the end of a unit
over-before : (r : ℕ) (at : Standing) (list : List Refresh) → AreBounded r at list → AreBefore (standing_after_unit at) list
over-before r at list bounded x there =
    ⊎_elim
    (λ low. inl (phase-of at.within low))
    (λ earlier. inl (let phase = earlier.1 in omega (arith, phase)))
    (bounded x there)
  where
    phase-of : (w : Option ℕ) → IsBefore x (number_at at w) → x.phase < 2 * (at.ended + 1)
    phase-of w (inl low) = let high = phase-low at w in omega (arith, low, high)
    phase-of w (inr rest) = let same = rest.0 in let high = phase-low at w in omega (arith, same, high)

-- the answer neither shows a screen nor begins a unit
abbrev pub IsQuiet : PathAnswer → Type 0
IsQuiet Shown = ⊥
IsQuiet (Begun r) = ⊥
IsQuiet _ = Unit {0}

-- behind such an answer, which may end a unit
pub quiet-bounded : (r : ℕ) (at : Standing) (list : List Refresh) (a : PathAnswer) → IsQuiet a → AreBounded r at list
    → AreBounded r (standing_after_answer at a) list × ((standing_after_answer at a).ended ≢ at.ended → AreBefore (standing_after_answer at a) list)
quiet-bounded r at list Shown quiet bounded = absurd quiet
quiet-bounded r at list (Begun n) quiet bounded = absurd quiet
quiet-bounded r at list (Entry k) quiet bounded = (bounded, λ differ. absurd (differ refl))
quiet-bounded r at list (Failed x) quiet bounded = (bounded, λ differ. absurd (differ refl))
quiet-bounded r at list Ended quiet bounded = (λ x there. inl (over-before r at list bounded x there), λ differ. over-before r at list bounded)
quiet-bounded r at list Dropped quiet bounded = (λ x there. inl (over-before r at list bounded x there), λ differ. over-before r at list bounded)
quiet-bounded r at list (Replied reply) quiet bounded = by at.within
  where
    by : (w : Option ℕ) → AreBounded r (standing_after_reply at w) list × ((standing_after_reply at w).ended ≢ at.ended → AreBefore (standing_after_reply at w) list)
    by None = (λ x there. inl (over-before r at list bounded x there), λ differ. over-before r at list bounded)
    by (Some n) = (bounded, λ differ. absurd (differ refl))

-- the next refresh of a path lies before the one behind it
next-before : (sys : Behaviour) (t : ℕ) (path : List PathAnswer) (at : Standing) → standing path ≡ at → IsBefore (next_refresh sys t path) (next_at (standing_after_answer at Shown))
next-before sys t path at is = subst (λ (s : Standing). IsBefore (next_refresh sys t path) (next_at (standing_after_answer s Shown))) is (by (standing path).within)
  where
    by : (w : Option ℕ)
        → ((number_at (standing path) w).phase < (number_at (standing_after_answer (standing path) Shown) w).phase)
        ⊎ (((number_at (standing path) w).phase ≡ (number_at (standing_after_answer (standing path) Shown) w).phase)
        × (((number_at (standing path) w).attempt < (number_at (standing_after_answer (standing path) Shown) w).attempt)
        ⊎ (((number_at (standing path) w).attempt ≡ (number_at (standing_after_answer (standing path) Shown) w).attempt) × ((number_at (standing path) w).k < (number_at (standing_after_answer (standing path) Shown) w).k))))
    by None = inr (refl, inr (refl, omega arith))
    by (Some n) = inr (refl, inr (refl, omega arith))

-- with the next refresh
pub next-bounded : (sys : Behaviour) (t r : ℕ) (path : List PathAnswer) (list : List Refresh) → AreBounded r (standing path) list
    → AreBounded r (standing (path ++ Shown ∷ [])) (list ++ next_refresh sys t path ∷ [])
next-bounded sys t r path list bounded =
    subst (λ (at : Standing). AreBounded r at (list ++ next_refresh sys t path ∷ [])) (sym (standing-push path Shown))
    (λ x there. ⊎_elim (λ old. shown-bounded r (standing path) list bounded x old) (λ new. new-one x new) (in-parts x list (next_refresh sys t path ∷ []) there))
  where
    new-one : (x : Refresh) → IsIn x (next_refresh sys t path ∷ []) → IsBefore x (next_at (standing_after_answer (standing path) Shown)) ⊎ IsEarlier r (standing_after_answer (standing path) Shown) x
    new-one x (inl same) = inl (subst (λ (y : Refresh). IsBefore y (next_at (standing_after_answer (standing path) Shown))) (sym same) (next-before sys t path (standing path) refl))
    new-one x (inr none) = absurd none

-- a number in a list is that of a refresh
has-in : (r : Refresh) (list : List Refresh) → has_number r list ≡ true → (x : Refresh) × IsIn x list × (same_number r x ≡ true)
has-in r [] there = absurd (false≢true there)
has-in r (y ∷ list) there = by (has-in r list) (same_number r y) refl there
  where
    by : (has_number r list ≡ true → (x : Refresh) × IsIn x list × (same_number r x ≡ true)) → (same : Bool) → same_number r y ≡ same → (same || has_number r list) ≡ true
        → (x : Refresh) × IsIn x (y ∷ list) × (same_number r x ≡ true)
    by rest true is there = (y, inl refl, is)
    by rest false is there = let one = rest there in (one.0, inr one.1, one.2)

-- the next refresh is new
pub next-new : (sys : Behaviour) (t r : ℕ) (path : List PathAnswer) (list : List Refresh) → AreBounded r (standing path) list → has_number (next_refresh sys t path) list ≡ false
next-new sys t r path list bounded = ⊎_elim (λ there. absurd (clash (has-in (next_refresh sys t path) list there))) (λ none. none) (cases_Bool (has_number (next_refresh sys t path) list))
  where
    outside-phase : (w : Option ℕ) → w ≡ None → (number_at (standing path) w).phase ≡ 2 * (standing path).ended
    outside-phase None none = refl
    outside-phase (Some n) none = absurd (cc none)

    clash : (x : Refresh) × IsIn x list × (same_number (next_refresh sys t path) x ≡ true) → ⊥
    clash found =
        let parts = same-parts (next_refresh sys t path) found.0 found.2 in
        let phase = parts.0 in
        let attempt = parts.1 in
        let k = parts.2 in
        ⊎_elim
        (λ low. ⊎_elim (λ below. absurd (omega (arith, below, phase)))
        (λ rest. ⊎_elim (λ below. absurd (omega (arith, below, attempt))) (λ last. let below = last.1 in absurd (omega (arith, below, k))) rest.1) low)
        (λ earlier. let none = outside-phase (standing path).within earlier.0 in let here = earlier.1 in absurd (omega (arith, none, here, phase)))
        (bounded found.0 found.1)

-- the refresh of a screen on a path, before others
abbrev pub with_shown : PathAnswer → Refresh → List Refresh → List Refresh
with_shown Shown r list = r ∷ list
with_shown _ r list = list

-- the refreshes of the screens on a path that goes on from these answers
abbrev pub shown_on : Behaviour → ℕ → List PathAnswer → List PathAnswer → List Refresh
shown_on sys t before [] = []
shown_on sys t before (a ∷ path) = with_shown a (next_refresh sys t before) (shown_on sys t (before ++ a ∷ []) path)

with-append : (a : PathAnswer) (r : Refresh) (xs ys : List Refresh) → with_shown a r (xs ++ ys) ≡ with_shown a r xs ++ ys
with-append Shown r xs ys = refl
with-append (Entry k) r xs ys = refl
with-append (Begun n) r xs ys = refl
with-append (Replied reply) r xs ys = refl
with-append (Failed x) r xs ys = refl
with-append Ended r xs ys = refl
with-append Dropped r xs ys = refl

append-none : (xs : List PathAnswer) → xs ++ [] ≡ xs
append-none [] = refl
append-none (x ∷ xs) = ap (λ (l : List PathAnswer). x ∷ l) (append-none xs)

-- the refreshes of a path in two parts
pub shown-append : (sys : Behaviour) (t : ℕ) (before path more : List PathAnswer) → shown_on sys t before (path ++ more) ≡ shown_on sys t before path ++ shown_on sys t (before ++ path) more
shown-append sys t before [] more = ap (λ (p : List PathAnswer). shown_on sys t p more) (sym (append-none before))
shown-append sys t before (a ∷ path) more =
    ap (with_shown a (next_refresh sys t before)) (shown-append sys t (before ++ a ∷ []) path more)
    ∙ (with-append a (next_refresh sys t before) (shown_on sys t (before ++ a ∷ []) path) (shown_on sys t ((before ++ a ∷ []) ++ path) more)
    ∙ ap (λ (p : List PathAnswer). with_shown a (next_refresh sys t before) (shown_on sys t (before ++ a ∷ []) path) ++ shown_on sys t p more) (append_assoc before (a ∷ []) path))

-- each screen on the path has its refresh in the list
abbrev pub Covers : Behaviour → ℕ → List PathAnswer → List Refresh → Type 0
Covers sys t path list = (x : Refresh) → IsIn x (shown_on sys t [] path) → IsIn x list

-- one screen more, with its refresh
pub covers-shown : (sys : Behaviour) (t : ℕ) (path : List PathAnswer) (list : List Refresh) → Covers sys t path list → Covers sys t (path ++ Shown ∷ []) (list ++ next_refresh sys t path ∷ [])
covers-shown sys t path list covers x there =
    ⊎_elim (λ old. in-left x list (next_refresh sys t path ∷ []) (covers x old)) (λ new. in-right x list (next_refresh sys t path ∷ []) new)
    (in-parts x (shown_on sys t [] path) (next_refresh sys t path ∷ []) (subst (IsIn x) (shown-append sys t [] path (Shown ∷ [])) there))

not-shown : (a : PathAnswer) (r : Refresh) → (a ≡ Shown → ⊥) → with_shown a r [] ≡ []
not-shown Shown r other = absurd (other refl)
not-shown (Entry k) r other = refl
not-shown (Begun n) r other = refl
not-shown (Replied reply) r other = refl
not-shown (Failed x) r other = refl
not-shown Ended r other = refl
not-shown Dropped r other = refl

-- another answer shows no screen
pub covers-other : (sys : Behaviour) (t : ℕ) (path : List PathAnswer) (a : PathAnswer) (list : List Refresh) → (a ≡ Shown → ⊥) → Covers sys t path list → Covers sys t (path ++ a ∷ []) list
covers-other sys t path a list other covers x there =
    ⊎_elim (λ old. covers x old) (λ new. absurd (subst (IsIn x) (not-shown a (next_refresh sys t path) other) new))
    (in-parts x (shown_on sys t [] path) (with_shown a (next_refresh sys t path) []) (subst (IsIn x) (shown-append sys t [] path (a ∷ [])) there))

-- the refresh of a screen in the middle
pub covers-at : (sys : Behaviour) (t : ℕ) (path rest : List PathAnswer) (list : List Refresh) → Covers sys t (path ++ Shown ∷ rest) list → IsIn (next_refresh sys t path) list
covers-at sys t path rest list covers =
    covers (next_refresh sys t path)
    (subst (IsIn (next_refresh sys t path)) (sym (shown-append sys t [] path (Shown ∷ rest)))
    (in-right (next_refresh sys t path) (shown_on sys t [] path) (next_refresh sys t path ∷ shown_on sys t (path ++ Shown ∷ []) rest) (inl refl)))
