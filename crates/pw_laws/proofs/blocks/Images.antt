-- Refreshes of one terminal with equal numbers show one screen.
use Rattle.std.proofs.Common.{◌≡◌, ℕ, zero, suc, ◌<◌, ◌==◌, inl, inr, Bool, true, false, List, [], ◌∷◌, length, cond, refl, ap, sym, subst, arith, ◌∙◌}
use Rattle.std.specs.List.{Contains}
use Rattle.std.specs.Prelude.{slice_index_or}
use Rattle.std.proofs.lemmas.Bool.{eq-eqb}
use Rattle.pw_event.specs.declared.event.Event.{Event}
use Rattle.pw_onecopy.specs.Behaviour.{Behaviour}
use Rattle.pw_onecopy.specs.IsBehaviour.{IsBehaviour}
use Rattle.pw_onecopy.specs.Refreshes.{refreshes_of, same_number}
use Rattle.pw_onecopy.specs.declared.refresh.Refresh.{Refresh}
use Rattle.pw_paired.specs.Shown.{refreshes}
use Rattle.pw_paired.specs.Step.{IsRun}
use Rattle.pw_laws.proofs.blocks.Serializable.{equal-images}
use Rattle.pw_laws.proofs.screens.Once.{IsIn}

at-index : (list : List Refresh) (x : Refresh) (k : ℕ) → k < length list → slice_index_or list k x ≡ x → IsIn x list
at-index [] x k low is = absurd (omega (arith, low))
at-index (y ∷ list) x zero low is = inl (sym is)
at-index (y ∷ list) x (suc k) low is = inr (at-index list x k (omega (arith, low)) is)

-- a refresh of a list is one of its terminal's
in-own : (t : ℕ) (list : List Refresh) (x : Refresh) → x.terminal ≡ t → IsIn x list → IsIn x (refreshes_of t list)
in-own t [] x own there = absurd there
in-own t (y ∷ list) x own (inl same) =
    subst (λ (b : Bool). IsIn x (cond b (y ∷ refreshes_of t list) (refreshes_of t list))) (sym (eq-eqb y.terminal t (ap (λ (r : Refresh). r.terminal) (sym same) ∙ own))) (inl same)
in-own t (y ∷ list) x own (inr there) = by (y.terminal == t) (in-own t list x own there)
  where
    by : (b : Bool) → IsIn x (refreshes_of t list) → IsIn x (cond b (y ∷ refreshes_of t list) (refreshes_of t list))
    by true rest = inr rest
    by false rest = rest

-- refreshes of one terminal with equal numbers have equal images
pub equal-numbers-equal-images : (sys : Behaviour) → IsBehaviour sys → (log : List Event) → IsRun sys log → (one other : Refresh)
    → Contains (refreshes sys log) one → Contains (refreshes sys log) other → one.terminal ≡ other.terminal
    → same_number one other ≡ true → one.image ≡ other.image
equal-numbers-equal-images sys b log run one other first second own same =
    ap (λ (r : Refresh). r.image)
    (equal-images sys b log run other.terminal one other
    (in-own other.terminal (refreshes sys log) one own (at-index (refreshes sys log) one first.0 first.1 first.2))
    (in-own other.terminal (refreshes sys log) other refl (at-index (refreshes sys log) other second.0 second.1 second.2)) same)
