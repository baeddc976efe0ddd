-- How many attempts a terminal may still make: no entry gives it more, and each restart takes one.
use Rattle.std.proofs.Common.{◌≡◌, ℕ, suc, ◌+◌, ◌*◌, ◌-◌, ◌<◌, ◌≤◌, ⊎_elim, List, [], ◌∷◌, length, Option, Some, None, refl, ap, ◌∙◌, arith}
use Rattle.std.proofs.lemmas.Bool.{cases_lt}
use Rattle.pw_event.specs.declared.event.Event.{Event}
use Rattle.pw_laws.proofs.BeginsOnce.{Goes, Moves, begins, ends, plainly, restarting, stays}
use Rattle.pw_laws.proofs.induction.Views.{view_of}
use Rattle.pw_onecopy.specs.Behaviour.{Behaviour}
use Rattle.pw_onecopy.specs.Path.{PathAnswer, Begun, Dropped, Ended, Entry, Failed, Replied, Shown, Standing, standing, standing_after_answer, standing_after_reply, standing_at_start, standing_from}
use Rattle.pw_paired.specs.State.{OpenUnit, State}
use Rattle.pw_paired.specs.Units.{restarts_of}
use Rattle.pw_run_bounds.proofs.Left.{attempts}

-- attempts of the units behind the last one, but for the restarts that have been
abbrev to_come : ℕ → ℕ → ℕ → ℕ → ℕ
to_come n r last been = (n - last) * (r + 1) - been

-- a unit that is not the last one
one-unit : (n r last : ℕ) → last < n → (n - last) * (r + 1) ≡ (n - (last + 1)) * (r + 1) + (r + 1)
one-unit n r last low = let one : n - last ≡ suc (n - (last + 1)) = omega (arith, low) in rw one (omega arith)

-- a unit ends
to-come-ends : (n r last been : ℕ) → been ≤ r → to_come n r (last + 1) 0 ≤ to_come n r last been
to-come-ends n r last been few =
    ⊎_elim
    (λ low. omega (arith, one-unit n r last low, few))
    (λ high.
    let none : n - (last + 1) ≡ 0 = omega (arith, high) in
    let nothing : (n - (last + 1)) * (r + 1) ≡ 0 = rw none (omega arith) in
    omega (arith, nothing))
    (cases_lt last n)

-- an attempt restarts
to-come-restarts : (n r last been : ℕ) → been < r → last < n → to_come n r last (been + 1) + 1 ≤ to_come n r last been
to-come-restarts n r last been few low = omega (arith, one-unit n r last low, few)

-- the recorded restarts of a unit that are as many
been : (unit : Option OpenUnit) (own : OpenUnit) → unit ≡ Some own → restarts_of unit ≡ own.restarts
been unit own is = ap restarts_of is

module _ (sys : Behaviour) (n r t : ℕ) (s x : State) where
  by-numbers : (x.ended t).number ≡ (s.ended t).number → restarts_of (x.units t) ≡ restarts_of (s.units t)
      → attempts n r (view_of sys x t) ≤ attempts n r (view_of sys s t)
  by-numbers last units =
      let same : attempts n r (view_of sys x t) ≡ attempts n r (view_of sys s t) =
      ap (λ (k : ℕ). to_come n r k (restarts_of (x.units t))) last ∙ ap (to_come n r (s.ended t).number) units in
      omega (arith, same)

  few-of : ((unit : OpenUnit) → s.units t ≡ Some unit → unit.restarts ≤ r) → restarts_of (s.units t) ≤ r
  few-of few = by (s.units t) few
    where
      by : (unit : Option OpenUnit) → ((own : OpenUnit) → unit ≡ Some own → own.restarts ≤ r) → restarts_of unit ≤ r
      by None few = omega arith
      by (Some own) few = few own refl

  moved-most : ((unit : OpenUnit) → s.units t ≡ Some unit → unit.restarts ≤ r) → Moves t s x
      → attempts n r (view_of sys x t) ≤ attempts n r (view_of sys s t)
  moved-most few (stays units last) = by-numbers last (ap restarts_of units)
  moved-most few (begins unit is counts idle over kin last) = by-numbers last (been (x.units t) unit is ∙ counts)
  moved-most few (ends none more) =
      let now : attempts n r (view_of sys x t) ≡ to_come n r ((s.ended t).number + 1) 0 =
      ap (λ (k : ℕ). to_come n r k (restarts_of (x.units t))) more ∙ ap (λ (u : Option OpenUnit). to_come n r ((s.ended t).number + 1) (restarts_of u)) none in
      omega (arith, now, to-come-ends n r (s.ended t).number (restarts_of (s.units t)) (few-of few))

  -- no entry gives it more
  pub attempts-most : (entry : Event) → ((unit : OpenUnit) → s.units t ≡ Some unit → unit.restarts ≤ r) → Goes r t s x entry
      → attempts n r (view_of sys x t) ≤ attempts n r (view_of sys s t)
  attempts-most entry few (plainly other moves) = moved-most few moves
  attempts-most entry few (restarting was unit was_is is more low runs alike last at) =
      let now = been (x.units t) unit is in
      let before = been (s.units t) was was_is in
      let same : to_come n r (x.ended t).number (restarts_of (x.units t)) ≡ to_come n r (s.ended t).number (restarts_of (x.units t)) =
      ap (λ (k : ℕ). to_come n r k (restarts_of (x.units t))) last in
      omega (arith, now, before, more, same)

  -- a restart takes one
  pub attempts-less : (was unit : OpenUnit) → s.units t ≡ Some was → x.units t ≡ Some unit → unit.restarts ≡ was.restarts + 1 → was.restarts < r
      → (x.ended t).number ≡ (s.ended t).number → (s.ended t).number < n
      → attempts n r (view_of sys x t) + 1 ≤ attempts n r (view_of sys s t)
  attempts-less was unit was_is is more low last few =
      let now : attempts n r (view_of sys x t) ≡ to_come n r (s.ended t).number (was.restarts + 1) =
      ap (λ (k : ℕ). to_come n r k (restarts_of (x.units t))) last ∙ ap (to_come n r (s.ended t).number) (been (x.units t) unit is ∙ more) in
      let before : attempts n r (view_of sys s t) ≡ to_come n r (s.ended t).number was.restarts = ap (to_come n r (s.ended t).number) (been (s.units t) was was_is) in
      omega (arith, now, before, to-come-restarts n r (s.ended t).number was.restarts low few)

-- ---- a path has no more ended units than answers

after-reply : (at : Standing) (within : Option ℕ) → (standing_after_reply at within).ended ≤ at.ended + 1
after-reply at None = omega arith
after-reply at (Some r) = omega arith

after-answer : (at : Standing) (a : PathAnswer) → (standing_after_answer at a).ended ≤ at.ended + 1
after-answer at Shown = omega arith
after-answer at (Entry k) = omega arith
after-answer at (Begun r) = omega arith
after-answer at (Replied reply) = after-reply at at.within
after-answer at (Failed code) = omega arith
after-answer at Ended = omega arith
after-answer at Dropped = omega arith

few-from : (at : Standing) (path : List PathAnswer) → (standing_from at path).ended ≤ at.ended + length path
few-from at [] = omega arith
few-from at (a ∷ path) = omega (arith, after-answer at a, few-from (standing_after_answer at a) path)

pub few-ended : (path : List PathAnswer) → (standing path).ended ≤ length path
few-ended path = omega (arith, few-from standing_at_start path)
