-- A FAIL TCP loses its pair, and then ends attempts, or not.
use Rattle.std.proofs.Common.{◌≡◌, ℕ, inl, inr, Bool, true, false, not, ◌&&◌, refl, sym, ap, subst, ◌∙◌}
use Rattle.pw_event.specs.declared.event.Event.TheVariants as event
use Rattle.pw_onecopy.proofs.Update.{upd-same}
use Rattle.pw_onecopy.specs.Behaviour.{Behaviour}
use Rattle.pw_paired.specs.Failure.{do_fail_tcp, lose_backup, lose_pair, lose_primary}
use Rattle.pw_paired.specs.Serial.{is_gone, makes_gone}
use Rattle.pw_paired.specs.State.{Alone, Down, Gone, PairMode, Paired, Raising, State}
use Rattle.pw_laws.proofs.induction.Failed.{fail-cases}
use Rattle.pw_laws.specs.runs.Losses.{Breaks}

none-lost : (mode : PairMode) → (is_gone mode && not (is_gone mode)) ≡ false
none-lost Alone = refl
none-lost Raising = refl
none-lost Paired = refl
none-lost Down = refl
none-lost Gone = refl

breaks : (primary : Bool) (mode : PairMode) → Breaks primary mode → is_gone mode ≡ false
breaks true mode (inl is) = ap is_gone is
breaks true mode (inr is) = ap is_gone is
breaks false mode is = ap is_gone is

module _ (sys : Behaviour) (s : State) (Q : Bool → State → Type 0) (p : ℕ) where
  -- what holds of a state, by whether the pair is Gone there and was not before
  abbrev At : State → Type 0
  At next = Q (is_gone (next.modes p) && not (is_gone (s.modes p))) next

  at : (next : State) (b : Bool) → (is_gone (next.modes p) && not (is_gone (s.modes p))) ≡ b → Q b next → At next
  at next b is now = subst (λ (c : Bool). Q c next) (sym is) now

  behind : (next : State) (mode : PairMode) → next.modes p ≡ mode → (is_gone (next.modes p) && not (is_gone (s.modes p))) ≡ (is_gone mode && not (is_gone (s.modes p)))
  behind next mode is = ap (λ (m : PairMode). is_gone m && not (is_gone (s.modes p))) is

  -- what holds where the pair is lost, and where it is not
  pub gone-cases : (k : ℕ) → Q false s → Q false (lose_primary sys p s) → Q true (lose_pair sys p s) → Q false (lose_backup sys p s)
      → (primary : Bool) → Q (makes_gone sys s (event.FailTcp p primary k) p) (do_fail_tcp sys p primary s)
  gone-cases k same down lost alone primary =
      fail-cases sys s At p (at s false (none-lost (s.modes p)) same)
      (λ _. at (lose_primary sys p s) false (behind (lose_primary sys p s) Down (upd-same s.modes p Down p refl)) down)
      (λ by fails. at (lose_pair sys p s) true (behind (lose_pair sys p s) Gone (upd-same s.modes p Gone p refl) ∙ ap not (breaks by (s.modes p) fails)) lost)
      (λ _. at (lose_backup sys p s) false (behind (lose_backup sys p s) Alone (upd-same s.modes p Alone p refl)) alone)
      primary
