-- Where no member of its pair works, no entry of a terminal's own fits but one that makes way for an older unit, and the ending
-- of a terminal whose pair is lost.
use Rattle.std.proofs.Common.{◌≡◌, ℕ, true, List, Option, Some, None, refl, sym, ap, subst, ◌∙◌}
use Rattle.pw_event.specs.declared.event.Cause.{Cause}
use Rattle.pw_event.specs.declared.event.Cause.TheVariants as cause
use Rattle.pw_event.specs.declared.event.Ending.{Ending}
use Rattle.pw_event.specs.declared.event.Ending.TheVariants as ending
use Rattle.pw_event.specs.declared.event.Event.{Event}
use Rattle.pw_event.specs.declared.event.Event.TheVariants as entry
use Rattle.pw_onecopy.specs.Behaviour.{Behaviour}
use Rattle.pw_paired.specs.End.{LegalEnd}
use Rattle.pw_paired.specs.Failure.{Holds}
use Rattle.pw_paired.specs.State.{Alone, PairMode, OpenUnit, Paired, State}
use Rattle.pw_paired.specs.Step.{Fits}
use Rattle.pw_paired.specs.Terminal.{CanStep}
use Rattle.pw_tcp.specs.Entries.{makes_way, stepper_of}
use Rattle.pw_tcp.specs.InState.{HasMember}

module _ (sys : Behaviour) (state : State) (t : ℕ) (none : ¬ HasMember (state.modes (sys.pair_of t))) where
  -- the terminal's own mode is none of these
  not-paired : (own : ℕ) → Some own ≡ Some t → state.modes (sys.pair_of own) ≡ Paired → ⊥
  not-paired own mine paired =
      let same : own ≡ t = cc mine in
      none (subst HasMember (sym (ap (λ (o : ℕ). state.modes (sys.pair_of o)) (sym same) ∙ paired)) tt)

  not-alone : (own : ℕ) → Some own ≡ Some t → state.modes (sys.pair_of own) ≡ Alone → ⊥
  not-alone own mine alone =
      let same : own ≡ t = cc mine in
      none (subst HasMember (sym (ap (λ (o : ℕ). state.modes (sys.pair_of o)) (sym same) ∙ alone)) tt)

  stuck : {P : Type 0} (own : ℕ) → Some own ≡ Some t → CanStep sys state own → P
  stuck own mine can = absurd (not-paired own mine can.paired)

  restarts : (own n : ℕ) (why : Cause) (unit : OpenUnit) → Some own ≡ Some t → Holds sys state own unit why → makes_way (entry.Restart own n why) ≡ true
  restarts own n (cause.Older o m) unit mine holds = refl
  restarts own n (cause.Takeover p) unit mine holds = absurd (not-alone own mine holds.alone)
  restarts own n (cause.Server k) unit mine holds = absurd (not-paired own mine holds.paired)
  restarts own n cause.Redo unit mine holds = stuck own mine holds.can

  suspends : (own : ℕ) (why : Cause) (unit : OpenUnit) → Some own ≡ Some t → Holds sys state own unit why → makes_way (entry.End own (ending.Suspended why)) ≡ true
  suspends own (cause.Older o m) unit mine holds = refl
  suspends own (cause.Takeover p) unit mine holds = absurd (not-alone own mine holds.alone)
  suspends own (cause.Server k) unit mine holds = absurd (not-paired own mine holds.paired)
  suspends own cause.Redo unit mine holds = stuck own mine holds.can

  ends : (own : ℕ) (how : Ending) → Some own ≡ Some t → LegalEnd sys state own how → makes_way (entry.End own how) ≡ true
  ends own ending.Stopped mine l = stuck own mine l.can
  ends own ending.NoEntries mine l = stuck own mine l.can
  ends own (ending.Fault x) mine l = stuck own mine l.can
  ends own (ending.Suspended why) mine l = suspends own why l.unit mine l.caused.holds
  ends own ending.Lost mine l = refl

  pub rests : (e : Event) → stepper_of e ≡ Some t → Fits sys state e → makes_way e ≡ true
  rests (entry.Show own phase attempt k) mine l = stuck own mine l.can
  rests (entry.Key own k) mine l = stuck own mine l.can
  rests (entry.CheckStart own) mine l = stuck own mine l.can
  rests (entry.CheckEnd own) mine l = stuck own mine l.can
  rests (entry.CheckCopy own) mine l = absurd (cc mine)
  rests (entry.Applied own) mine l = absurd (cc mine)
  rests (entry.Begin own n r) mine l = stuck own mine l.can
  rests (entry.Send own n c) mine l = stuck own mine l.can
  rests (entry.Take c i own) mine l = absurd (cc mine)
  rests (entry.File c i op mode f status) mine l = absurd (cc mine)
  rests (entry.Reply c i own fault) mine l = absurd (cc mine)
  rests (entry.Again own n) mine l = stuck own mine l.can
  rests (entry.Commit own n) mine l = stuck own mine l.can
  rests (entry.Back own n) mine l = stuck own mine l.can
  rests (entry.Restart own n why) mine l = restarts own n why l.unit mine l.caused.holds
  rests (entry.FailTcp p primary k) mine l = absurd (cc mine)
  rests (entry.FailServer c i k) mine l = absurd (cc mine)
  rests (entry.Takeover p) mine l = absurd (cc mine)
  rests (entry.Raise p) mine l = absurd (cc mine)
  rests (entry.End own how) mine l = ends own how mine l
