-- No unfinished run is stuck.
use Rattle.std.proofs.Common.{◌≡◌, ℕ, zero, suc, ◌+◌, ◌<◌, Bool, true, false, not, is_none, List, Option, Some, None, refl, ap, sym, arith}
use Rattle.std.proofs.lemmas.Bool.{true≢false}
use Rattle.pw_event.specs.declared.event.Cause.{Cause}
use Rattle.pw_event.specs.declared.event.Ending.{Ending}
use Rattle.pw_event.specs.declared.event.Event.{Event}
use Rattle.pw_onecopy.specs.Behaviour.{Behaviour}
use Rattle.pw_onecopy.specs.IsBehaviour.{IsBehaviour}
use Rattle.pw_paired.specs.State.{Alone, Awaited, Down, Gone, Message, PairMode, OpenUnit, Paired, Raising, State}
use Rattle.pw_paired.specs.Step.{IsRun, after, is_finished, is_going_on}
use Rattle.pw_paired.specs.Terminal.{IsLive}
use Rattle.pw_paired.specs.Units.{any_below}
use Rattle.pw_laws.proofs.Lacking.{any_below-some}
use Rattle.pw_laws.proofs.PairSteps.{message-steps, pair-steps, pending-steps}
use Rattle.pw_laws.specs.progress.Running.{HasStep}
use Rattle.pw_laws.proofs.blocks.Known.{known}
use Rattle.pw_laws.proofs.steps.Awaiting.{awaits-ok}
use Rattle.pw_laws.proofs.steps.Living.{live-ok}
use Rattle.pw_laws.proofs.steps.Terminals.{terminal-step}
use Rattle.pw_laws.specs.serial.Actors.{StepActor, ActorSteps, actor_of}

module _ (sys : Behaviour) (b : IsBehaviour sys) (log : List Event) (run : IsRun sys log) (unfinished : is_finished sys (after sys log) ≡ false) where
  abbrev s : State
  s = after sys log

  -- a live terminal whose awaited unit, if it waits, has a step
  live-step : (t : ℕ) → IsLive sys s t
      → ((u : OpenUnit) (a : Awaited) → s.units t ≡ Some u → u.awaits ≡ Some a → (s.ended a.terminal).number < a.number → HasStep sys s) → HasStep sys s
  live-step t live blocked = by-mode (s.modes (sys.pair_of t)) refl
    where
      able : (mode : s.modes (sys.pair_of t) ≡ Paired) (calm : (s.terms t).pending ≡ None) → s.flight t ≡ None → HasStep sys s
      able mode calm free = terminal-step sys b log run unfinished t (record { live = live; paired = mode; calm = calm }) free blocked

      by-flight : s.modes (sys.pair_of t) ≡ Paired → (s.terms t).pending ≡ None → (flight : Option Message) → s.flight t ≡ flight → HasStep sys s
      by-flight mode calm None free = able mode calm free
      by-flight mode calm (Some message) flies = message-steps sys b log run t live (λ none. absurd (cc (flies, none)))

      by-pending : s.modes (sys.pair_of t) ≡ Paired → (pending : Option Cause) → (s.terms t).pending ≡ pending → HasStep sys s
      by-pending mode None calm = by-flight mode calm (s.flight t) refl
      by-pending mode (Some kind) pends = pending-steps sys b log run t live (λ none. absurd (cc (pends, none)))

      by-mode : (mode : PairMode) → s.modes (sys.pair_of t) ≡ mode → HasStep sys s
      by-mode Paired is = by-pending is (s.terms t).pending refl
      by-mode Alone is = pair-steps sys b log run t live (λ paired. absurd (cc (is, paired)))
      by-mode Raising is = pair-steps sys b log run t live (λ paired. absurd (cc (is, paired)))
      by-mode Down is = pair-steps sys b log run t live (λ paired. absurd (cc (is, paired)))
      by-mode Gone is = pair-steps sys b log run t live (λ paired. absurd (cc (is, paired)))

  -- an open unit waits for older ones alone
  older-step : (n t : ℕ) → IsLive sys s t → ((u : OpenUnit) → s.units t ≡ Some u → u.birth < n) → HasStep sys s
  older-step zero t live below = live-step t live (λ u a is awaits less. absurd (let low = below u is in omega (arith, low)))
  older-step (suc n) t live below =
      live-step t live
      (λ u a is awaits less.
      let v = awaits-ok sys b log run t u a is awaits less in
      let open_is = v.1 in
      let older = v.3 in
      let low = below u is in
      older-step n a.terminal
      (record { known = (known sys b log run).inv.known a.terminal v.0 open_is; going_on = live-ok sys b log run a.terminal v.0 open_is })
      (λ w w_is. let same : w ≡ v.0 = cc (w_is, open_is) in let birth = ap (λ (x : OpenUnit). x.birth) same in omega (arith, birth, older, low)))

  -- a terminal is live
  some-live : (t : ℕ) × IsLive sys s t
  some-live =
      let one = any_below-some sys.terminals (is_going_on s) (by (any_below sys.terminals (is_going_on s)) unfinished) in
      (one.0, record { known = one.1; going_on = none-of (s.terms one.0).ending one.2 })
    where
      by : (b : Bool) → not b ≡ false → b ≡ true
      by true is = refl
      by false is = absurd (true≢false is)

      none-of : (e : Option Ending) → is_none e ≡ true → e ≡ None
      none-of None is = refl
      none-of (Some e) is = absurd (true≢false (sym is))

  bound : (t : ℕ) → (unit : Option OpenUnit) → s.units t ≡ unit → (n : ℕ) × ((u : OpenUnit) → s.units t ≡ Some u → u.birth < n)
  bound t None none = (0, λ u is. absurd (cc (none, is)))
  bound t (Some v) is = (v.birth + 1, λ u u_is. let same : u ≡ v = cc (u_is, is) in let birth = ap (λ (x : OpenUnit). x.birth) same in omega (arith, birth))

  -- an entry is legal
  pub has-step : HasStep sys s
  has-step =
      let one = some-live in
      let n = bound one.0 (s.units one.0) refl in
      older-step n.0 one.0 one.1 n.1

-- the step's actor and entry
pub some-actor-steps : (sys : Behaviour) → IsBehaviour sys → (log : List Event) → IsRun sys log → is_finished sys (after sys log) ≡ false
    → (actor : StepActor) × ActorSteps sys (after sys log) actor
some-actor-steps sys b log run unfinished =
    let step = has-step sys b log run unfinished in
    (actor_of sys step.entry, record { entry = step.entry; own = refl; legal = step.legal })
