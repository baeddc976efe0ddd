-- Where a path stands behind one more answer.
use Rattle.std.proofs.Common.{◌≡◌, ℕ, ◌+◌, true, false, is_none, List, [], ◌∷◌, ◌++◌, Option, Some, None, refl, ap, sym, subst, append-nil, append_assoc, ◌∙◌}
use Rattle.std.proofs.lemmas.Bool.{true≢false}
use Rattle.pw_base.proofs.Plain.{is_none-None}
use Rattle.pw_onecopy.specs.Behaviour.{Behaviour}
use Rattle.pw_onecopy.specs.IsBehaviour.{IsPath, Suits, SuitsFrom}
use Rattle.pw_onecopy.specs.Path.{PathAnswer, Shown, Entry, Begun, Replied, Failed, Ended, Dropped, Standing, standing_after_answer, standing, standing_from, standing_at_start, standing_after_reply, standing_after_unit, unit_number, is_outside}

-- where a path leads with one answer more
pub standing_from-push : (at : Standing) (path : List PathAnswer) (answer : PathAnswer)
    → standing_from at (path ++ answer ∷ []) ≡ standing_after_answer (standing_from at path) answer
standing_from-push at [] answer = refl
standing_from-push at (first ∷ path) answer = standing_from-push (standing_after_answer at first) path answer

-- where a path with one answer more stands
pub standing-push : (path : List PathAnswer) (answer : PathAnswer) → standing (path ++ answer ∷ []) ≡ standing_after_answer (standing path) answer
standing-push path answer = standing_from-push standing_at_start path answer

-- the answer ends no unit, and the path is in a transaction as before
pub record IsPlain (answer : PathAnswer) : Type 0 where
  pub ended : (at : Standing) → (standing_after_answer at answer).ended ≡ at.ended
  pub within : (at : Standing) → (standing_after_answer at answer).within ≡ at.within

-- Shown ends no unit and begins no transaction
pub Shown-plain : IsPlain Shown
Shown-plain = record { ended = λ at. refl; within = λ at. refl }

-- so does no Entry
pub Entry-plain : (k : ℕ) → IsPlain (Entry k)
Entry-plain k = record { ended = λ at. refl; within = λ at. refl }

-- and no Failed
pub Failed-plain : (x : ℕ) → IsPlain (Failed x)
Failed-plain x = record { ended = λ at. refl; within = λ at. refl }

-- a plain answer leaves the unit number
pub plain-number : (answer : PathAnswer) → IsPlain answer → (path : List PathAnswer) → unit_number (path ++ answer ∷ []) ≡ unit_number path
plain-number answer plain path = ap (λ (at : Standing). at.ended + 1) (standing-push path answer) ∙ ap (λ (n : ℕ). n + 1) (plain.ended (standing path))

-- and whether the path is in a transaction
pub plain-outside : (answer : PathAnswer) → IsPlain answer → (path : List PathAnswer) → is_outside (path ++ answer ∷ []) ≡ is_outside path
plain-outside answer plain path =
    ap (λ (at : Standing). is_none at.within) (standing-push path answer) ∙ ap (λ (w : Option ℕ). is_none w) (plain.within (standing path))

-- behind Begun the path is in a transaction, and no unit has ended
pub Begun-number : (r : ℕ) (path : List PathAnswer) → unit_number (path ++ Begun r ∷ []) ≡ unit_number path
Begun-number r path = ap (λ (at : Standing). at.ended + 1) (standing-push path (Begun r))

-- behind Begun the path is in a transaction
pub Begun-inside : (r : ℕ) (path : List PathAnswer) → is_outside (path ++ Begun r ∷ []) ≡ false
Begun-inside r path = ap (λ (at : Standing). is_none at.within) (standing-push path (Begun r))

-- the answer ends a unit
pub record IsClosing (answer : PathAnswer) : Type 0 where
  pub ended : (at : Standing) → (standing_after_answer at answer).ended ≡ at.ended + 1
  pub within : (at : Standing) → (standing_after_answer at answer).within ≡ None

-- Ended closes a transaction
pub Ended-closing : IsClosing Ended
Ended-closing = record { ended = λ at. refl; within = λ at. refl }

-- so does Dropped
pub Dropped-closing : IsClosing Dropped
Dropped-closing = record { ended = λ at. refl; within = λ at. refl }

-- a closing answer is the end of a unit
pub closing-number : (answer : PathAnswer) → IsClosing answer → (path : List PathAnswer) → unit_number (path ++ answer ∷ []) ≡ unit_number path + 1
closing-number answer closing path = ap (λ (at : Standing). at.ended + 1) (standing-push path answer) ∙ ap (λ (n : ℕ). n + 1) (closing.ended (standing path))

-- behind it the path is in no transaction
pub closing-outside : (answer : PathAnswer) → IsClosing answer → (path : List PathAnswer) → is_outside (path ++ answer ∷ []) ≡ true
closing-outside answer closing path =
    ap (λ (at : Standing). is_none at.within) (standing-push path answer) ∙ ap (λ (w : Option ℕ). is_none w) (closing.within (standing path))

-- a reply outside a transaction ends a unit, and one inside it is plain
some-replied : (at : Standing) (w : Option ℕ) → is_none w ≡ false → standing_after_reply at w ≡ at
some-replied at None e = absurd (true≢false e)
some-replied at (Some r) e = refl

-- a reply outside a transaction is the end of a unit
pub reply-outside : (reply : List ℕ) (path : List PathAnswer) → is_outside path ≡ true → standing (path ++ Replied reply ∷ []) ≡ standing_after_unit (standing path)
reply-outside reply path outside = standing-push path (Replied reply) ∙ ap (λ (w : Option ℕ). standing_after_reply (standing path) w) (is_none-None (standing path).within outside)

-- a reply in a transaction leaves where the path stands
pub reply-inside : (reply : List ℕ) (path : List PathAnswer) → is_outside path ≡ false → standing (path ++ Replied reply ∷ []) ≡ standing path
reply-inside reply path inside = standing-push path (Replied reply) ∙ some-replied (standing path) (standing path).within inside

-- a path that a program may have, with one more answer to its verb
SuitsFrom-push : (sys : Behaviour) (t : ℕ) (before path : List PathAnswer) (answer : PathAnswer) → SuitsFrom sys t before path
    → Suits sys t (before ++ path) (sys.ask t (before ++ path)) answer → SuitsFrom sys t before (path ++ answer ∷ [])
SuitsFrom-push sys t before [] answer suits new =
    let whole : before ++ [] ≡ before = append-nil before in
    (subst (λ (p : List PathAnswer). Suits sys t p (sys.ask t p) answer) whole new, tt)
SuitsFrom-push sys t before (first ∷ path) answer suits new =
    let whole : before ++ first ∷ path ≡ (before ++ first ∷ []) ++ path = sym (append_assoc before (first ∷ []) path) in
    (suits.0, SuitsFrom-push sys t (before ++ first ∷ []) path answer suits.1 (subst (λ (p : List PathAnswer). Suits sys t p (sys.ask t p) answer) whole new))

-- a path with an answer to its verb is a path
pub IsPath-push : (sys : Behaviour) (t : ℕ) (path : List PathAnswer) (answer : PathAnswer) → IsPath sys t path
    → Suits sys t path (sys.ask t path) answer → IsPath sys t (path ++ answer ∷ [])
IsPath-push sys t path answer is_path new = record { known = is_path.known; suits = SuitsFrom-push sys t [] path answer is_path.suits new }
