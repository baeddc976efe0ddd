-- A run in which each actor is asked again and again finishes.
use Rattle.std.proofs.Common.{◌≡◌, ◌⊎◌, inl, inr, ⊎_elim, ℕ, zero, suc, ◌+◌, ◌-◌, ◌<◌, ◌≤◌, true, List, [], ◌∷◌, length, length-append, refl, ap, sym, subst, add-one, ◌∙◌, arith}
use Rattle.std.proofs.lemmas.Bool.{cases_Bool}
use Rattle.pw_event.specs.declared.event.Event.{Event}
use Rattle.pw_laws.proofs.induction.Runs.{run-more}
use Rattle.pw_laws.proofs.steps.Unstuck.{some-actor-steps}
use Rattle.pw_laws.specs.serial.Actors.{ActorSteps}
use Rattle.pw_onecopy.specs.Behaviour.{Behaviour}
use Rattle.pw_onecopy.specs.IsBehaviour.{IsBehaviour}
use Rattle.pw_paired.specs.Step.{IsRun, after, is_finished}
use Rattle.pw_run_bounds.specs.Bound.{ProgramsEnd, run_bound}
use Rattle.pw_run_bounds.specs.Schedule.{Fair, IsRunBy, LogGoesOn, AskingSchedule}
use Rattle.pw_run_bounds.proofs.Bounded.{bounded}

module _ (sys : Behaviour) (asked : AskingSchedule) (logs : ℕ → List Event) (follows : IsRunBy sys asked logs) where
  -- each of its logs is a run
  pub runs : (k : ℕ) → IsRun sys (logs k)
  runs zero = subst (IsRun sys) (sym follows.begins) tt
  runs (suc k) =
      subst (λ (j : ℕ). IsRun sys (logs j)) (add-one k)
      (⊎_elim
      (λ goes. subst (IsRun sys) (sym goes.more) (run-more sys (logs k) goes.entry (runs k) goes.legal))
      (λ stays. subst (IsRun sys) (sym stays.same) (runs k))
      (follows.goes k))

  -- a step makes it one longer
  longer : (k : ℕ) → LogGoesOn sys (asked k) (logs k) (logs (k + 1)) → length (logs (k + 1)) ≡ length (logs k) + 1
  longer k goes = ap (λ (l : List Event). length l) goes.more ∙ length-append (logs k) (goes.entry ∷ [])

  -- so many askings later it is the same, or longer
  later : (k d j : ℕ) → j ≡ k + d → (logs j ≡ logs k) ⊎ (length (logs k) < length (logs j))
  later k zero j is = inl (ap logs (let same : j ≡ k = omega (arith, is) in same))
  later k (suc d) j is =
      let last : j ≡ k + d + 1 = omega (arith, is) in
      subst (λ (i : ℕ). (logs i ≡ logs k) ⊎ (length (logs k) < length (logs i))) (sym last)
      (⊎_elim
      (λ goes.
      ⊎_elim
      (λ same. let one = longer (k + d) goes in let as_long = ap (λ (l : List Event). length l) same in inr (omega (arith, one, as_long)))
      (λ more. let one = longer (k + d) goes in inr (omega (arith, one, more)))
      (later k d (k + d) refl))
      (λ stays.
      ⊎_elim (λ same. inl (stays.same ∙ same)) (λ more. let as_long = ap (λ (l : List Event). length l) stays.same in inr (omega (arith, more, as_long)))
      (later k d (k + d) refl))
      (follows.goes (k + d)))

  module _ (b : IsBehaviour sys) (n m : ℕ) (short : ProgramsEnd sys n m) (fair : Fair asked) where
    -- it finishes, since it cannot grow for ever
    finishes : (room k : ℕ) → run_bound sys n m < length (logs k) + room → (j : ℕ) × IsRun sys (logs j) × (is_finished sys (after sys (logs j)) ≡ true)
    finishes zero k low = absurd (let most = bounded sys b n m short (logs k) (runs k) in omega (arith, low, most))
    finishes (suc room) k low =
        ⊎_elim (λ is. (k, runs k, is))
        (λ unfinished.
        let step = some-actor-steps sys b (logs k) (runs k) unfinished in
        let turn = fair step.0 k in
        let from : k ≤ turn.0 = turn.1 in
        ⊎_elim
        (λ same.
        let still : ActorSteps sys (after sys (logs turn.0)) (asked turn.0) =
        subst (ActorSteps sys (after sys (logs turn.0))) (sym turn.2) (subst (λ (l : List Event). ActorSteps sys (after sys l) step.0) (sym same) step.1) in
        ⊎_elim
        (λ goes. let one = longer turn.0 goes in let as_long = ap (λ (l : List Event). length l) same in finishes room (turn.0 + 1) (omega (arith, low, one, as_long)))
        (λ stays. absurd (stays.none still))
        (follows.goes turn.0))
        (λ more. finishes room turn.0 (omega (arith, low, more)))
        (later k (turn.0 - k) turn.0 (omega (arith, from))))
        (cases_Bool (is_finished sys (after sys (logs k))))

-- where programs end, there is a number at which it is finished
pub fair-finishes : (sys : Behaviour) → IsBehaviour sys → (n m : ℕ) → ProgramsEnd sys n m → (asked : AskingSchedule) → Fair asked → (logs : ℕ → List Event) → IsRunBy sys asked logs
    → (k : ℕ) × IsRun sys (logs k) × (is_finished sys (after sys (logs k)) ≡ true)
fair-finishes sys b n m short asked fair logs follows =
    finishes sys asked logs follows b n m short fair (run_bound sys n m + 1) 0 (omega arith)
