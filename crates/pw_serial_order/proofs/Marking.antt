-- How far a path goes with one answer more.
use Rattle.std.proofs.Common.{◌≡◌, ℕ, ◌+◌, Bool, true, false, not, is_none, List, [], ◌∷◌, ◌++◌, Option, refl, ap, ◌∙◌}
use Rattle.std.proofs.lemmas.List.{length_push}
use Rattle.pw_onecopy.specs.Path.{Begun, PathAnswer, Replied, Standing, is_outside, standing}
use Rattle.pw_serial_order.specs.Marks.{mark_begun, mark_closed, mark_more}
use Rattle.pw_serial_order.specs.Shadow.{mark_of}
use Rattle.pw_serial_order.specs.declared.mark.PathMark.{PathMark}
use Rattle.pw_laws.proofs.Paths.{IsClosing, IsPlain, reply-inside, reply-outside, standing-push}

abbrev mark : ℕ → ℕ → Bool → PathMark
mark answers ended within = record { answers = answers; ended = ended; within = within }

-- a mark of equal parts
pub mark-is : {answers answers' ended ended' : ℕ} {within within' : Bool} → answers' ≡ answers → ended' ≡ ended → within' ≡ within
    → mark answers' ended' within' ≡ mark answers ended within
mark-is a e w = rw (a, e, w) refl

-- an answer that ends no unit and begins no transaction
pub mark-plain : (a : PathAnswer) → IsPlain a → (path : List PathAnswer) → mark_of (path ++ a ∷ []) ≡ mark_more (mark_of path)
mark-plain a plain path =
    mark-is (length_push path a)
    (ap (λ (at : Standing). at.ended) (standing-push path a) ∙ plain.ended (standing path))
    (ap (λ (at : Standing). not (is_none at.within)) (standing-push path a) ∙ ap (λ (w : Option ℕ). not (is_none w)) (plain.within (standing path)))

-- an answer that ends a unit
pub mark-closing : (a : PathAnswer) → IsClosing a → (path : List PathAnswer) → mark_of (path ++ a ∷ []) ≡ mark_closed (mark_of path)
mark-closing a closing path =
    mark-is (length_push path a)
    (ap (λ (at : Standing). at.ended) (standing-push path a) ∙ closing.ended (standing path))
    (ap (λ (at : Standing). not (is_none at.within)) (standing-push path a) ∙ ap (λ (w : Option ℕ). not (is_none w)) (closing.within (standing path)))

-- the answer that begins a transaction
pub mark-begun : (r : ℕ) (path : List PathAnswer) → mark_of (path ++ Begun r ∷ []) ≡ mark_begun (mark_of path)
mark-begun r path =
    mark-is (length_push path (Begun r))
    (ap (λ (at : Standing). at.ended) (standing-push path (Begun r)))
    (ap (λ (at : Standing). not (is_none at.within)) (standing-push path (Begun r)))

-- a reply outside a transaction, and inside one
pub mark-reply-outside : (reply : List ℕ) (path : List PathAnswer) → is_outside path ≡ true → mark_of (path ++ Replied reply ∷ []) ≡ mark_closed (mark_of path)
mark-reply-outside reply path outside =
    mark-is (length_push path (Replied reply))
    (ap (λ (at : Standing). at.ended) (reply-outside reply path outside))
    (ap (λ (at : Standing). not (is_none at.within)) (reply-outside reply path outside))

pub mark-reply-inside : (reply : List ℕ) (path : List PathAnswer) → is_outside path ≡ false → mark_of (path ++ Replied reply ∷ []) ≡ mark_more (mark_of path)
mark-reply-inside reply path inside =
    mark-is (length_push path (Replied reply))
    (ap (λ (at : Standing). at.ended) (reply-inside reply path inside))
    (ap (λ (at : Standing). not (is_none at.within)) (reply-inside reply path inside))
