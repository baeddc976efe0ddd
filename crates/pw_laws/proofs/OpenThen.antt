-- A unit restarts only for units that were open when it first began.
use Rattle.std.proofs.Common.{◌≡◌, ◌⊎◌, ℕ, ◌+◌, ◌<◌, ◌≤◌, ⊎_elim, inl, inr, List, [], ◌∷◌, ◌++◌, Option, Some, None, refl, ap, sym, subst, ◌∙◌, arith}
use Rattle.pw_event.specs.declared.event.Cause.TheVariants as cause
use Rattle.pw_event.specs.declared.event.Event.{Event}
use Rattle.pw_event.specs.declared.event.Event.TheVariants.{Begin, Restart}
use Rattle.pw_onecopy.proofs.Update.{upd_elim, upd-same}
use Rattle.pw_onecopy.specs.Behaviour.{Behaviour}
use Rattle.pw_onecopy.specs.IsBehaviour.{IsBehaviour}
use Rattle.pw_paired.specs.Failure.{LegalRestart}
use Rattle.pw_paired.specs.State.{OpenUnit, State, starting}
use Rattle.pw_paired.specs.Step.{IsRun, IsRunFrom, after, after_from, effect}
use Rattle.pw_paired.specs.Terminal.{unit_with_attempt, path_of}
use Rattle.pw_laws.proofs.BeginsOnce.{Goes, Kin, begins, begins-next, ends, last_of, moves, plainly, restarting, rises, stays}
use Rattle.pw_laws.specs.progress.Running.{IsUnitOpen}
use Rattle.pw_laws.proofs.Births.{births-ok}
use Rattle.pw_laws.proofs.RunSteps.{IsRunFrom-split, after_from-append}
use Rattle.pw_laws.proofs.kept.Kept.{Inv}
use Rattle.pw_laws.proofs.kept.Runs.{keeps, kept-at-start, kept-from}

-- unit n of t has ended, or it is open and each older unit was open then
data Since (t n : ℕ) (then s : State) : Type 0 where
  since_ended : n ≤ last_of s t → Since t n then s
  since_begun : (unit : OpenUnit) → n ≡ last_of s t + 1 → s.units t ≡ Some unit → unit.birth ≡ then.births
      → ((o : ℕ) (v : OpenUnit) → s.units o ≡ Some v → v.birth < then.births → IsUnitOpen then o v.number) → Since t n then s

-- where an open unit comes from
kin-of : {limit o : ℕ} {s after : State} {entry : Event} → Goes limit o s after entry → (v : OpenUnit) → after.units o ≡ Some v → Kin s o v
kin-of (plainly other (stays units last)) v is = inl (v, sym units ∙ is, refl, refl)
kin-of {o = o} {s = s} (plainly other (begins now now_is counts idle over kin last)) v is = subst (Kin s o) (let same : now ≡ v = cc (now_is, is) in same) kin
kin-of (plainly other (ends none more)) v is = absurd (cc (none, is))
kin-of {o = o} {s = s} (restarting was unit was_is now_is more few runs_then alike last at_entry) v is =
    let same : unit ≡ v = cc (now_is, is) in inl (was, was_is, alike.0 ∙ ap (λ (u : OpenUnit). u.birth) same, alike.1 ∙ ap (λ (u : OpenUnit). u.number) same)

-- an open unit stays open with its birth, or it ends
at-home : {limit t : ℕ} {s after : State} {entry : Event} → Goes limit t s after entry → (unit : OpenUnit) → s.units t ≡ Some unit
    → ((now : OpenUnit) × (after.units t ≡ Some now) × (now.birth ≡ unit.birth) × (last_of after t ≡ last_of s t)) ⊎ (last_of after t ≡ last_of s t + 1)
at-home (plainly other (stays units last)) unit is = inl (unit, units ∙ is, refl, last)
at-home (plainly other (begins now now_is counts idle over (inl kin) last)) unit is =
    inl (now, now_is, sym kin.2 ∙ (let old = kin.1 in let same : kin.0 ≡ unit = cc (old, is) in ap (λ (u : OpenUnit). u.birth) same), last)
at-home (plainly other (begins now now_is counts idle over (inr kin) last)) unit is = absurd (let none = kin.0 in cc (none, is))
at-home (plainly other (ends none more)) unit is = inr more
at-home (restarting was now was_is now_is more few runs_then alike last at_entry) unit is =
    inl (now, now_is, sym alike.0 ∙ (let same : was ≡ unit = cc (was_is, is) in ap (λ (u : OpenUnit). u.birth) same), last)

still-since : (sys : Behaviour) (t n : ℕ) (then s after : State) (entry : Event) → ((o : ℕ) → Goes (sys.max_restarts o) o s after entry)
    → ((unit : OpenUnit) → s.units t ≡ Some unit → unit.birth < s.births) → Since t n then s → Since t n then after
still-since sys t n then s after entry goes below (since_ended low) = let up = rises (goes t) in since_ended (omega (arith, low, up))
still-since sys t n then s after entry goes below (since_begun unit next is birth were) =
    ⊎_elim
    (λ here.
    let last = here.3 in
    since_begun here.0 (omega (arith, next, last)) here.1 (here.2 ∙ birth)
    (λ o v v_is low.
    ⊎_elim
    (λ was.
    let same = was.2 in
    subst (IsUnitOpen then o) was.3 (were o was.0 was.1 (omega (arith, same, low))))
    (λ new. absurd (let born = new.1 in let above = below unit is in omega (arith, born, above, birth, low)))
    (kin-of (goes o) v v_is)))
    (λ more. since_ended (omega (arith, next, more)))
    (at-home (goes t) unit is)

since-from : (sys : Behaviour) → IsBehaviour sys → (t n : ℕ) (then s : State) (before : List Event) → s ≡ after_from sys (starting sys) before → Inv sys s → (log : List Event)
    → IsRunFrom sys s log → Since t n then s → Since t n then (after_from sys s log)
since-from sys b t n then s before is i [] run since = since
since-from sys b t n then s before is i (entry ∷ log) run since =
    since-from sys b t n then (effect sys s entry) (before ++ entry ∷ [])
    (ap (λ (x : State). effect sys x entry) is ∙ sym (after_from-append sys (starting sys) before (entry ∷ [])))
    (keeps sys b s i entry run.0) log run.1
    (still-since sys t n then s (effect sys s entry) entry (λ o. moves sys b s i o entry run.0.fits)
    (λ unit there. subst (λ (x : State). unit.birth < x.births) (sym is) ((births-ok sys before).below t unit (subst (λ (x : State). x.units t ≡ Some unit) is there))) since)

-- the unit that a RESTART names was open before the first BEGIN of the one that restarts
pub open-then : (sys : Behaviour) → IsBehaviour sys → (before between : List Event) (t n r o m : ℕ)
    → IsRun sys (before ++ Begin t n r ∷ (between ++ Restart t n (cause.Older o m) ∷ [])) → (after sys before).units t ≡ None → IsUnitOpen (after sys before) o m
open-then sys b before between t n r o m run closed =
    let restart : Event = Restart t n (cause.Older o m) in
    let first = IsRunFrom-split sys (starting sys) before (Begin t n r ∷ (between ++ restart ∷ [])) run in
    let then : State = after sys before in
    let i = kept-from sys b (starting sys) (kept-at-start sys) before first.0 in
    let next : State = effect sys then (Begin t n r) in
    let j = keeps sys b then i (Begin t n r) first.1.0 in
    let second = IsRunFrom-split sys next between (restart ∷ []) first.1.1 in
    named (after_from sys next between) (kept-from sys b next j between second.0) second.1.0.fits
    (since-from sys b t n then next (before ++ Begin t n r ∷ []) (sym (after_from-append sys (starting sys) before (Begin t n r ∷ []))) j between second.0
    (since_begun (unit_with_attempt n then.births (path_of then t) (then.units t)) (begins-next sys b then i t n r first.1.0.fits) (upd-same then.units t _ t refl)
    (ap (λ (u : Option OpenUnit). (unit_with_attempt n then.births (path_of then t) u).birth) closed)
    (λ other v. upd_elim then.units t (Some (unit_with_attempt n then.births (path_of then t) (then.units t))) other (λ (u : Option OpenUnit). u ≡ Some v → v.birth < then.births → IsUnitOpen then other v.number)
    (λ same is low. absurd (let new : unit_with_attempt n then.births (path_of then t) (then.units t) ≡ v = cc is in let born = ap (λ (u : OpenUnit). u.birth) new in
    let first_birth = ap (λ (u : Option OpenUnit). (unit_with_attempt n then.births (path_of then t) u).birth) closed in omega (arith, born, first_birth, low)))
    (λ differ is low. record { unit = v; is_open = is; number = refl }))))
  where
    named : (x : State) → Inv sys x → LegalRestart sys x t n (cause.Older o m) → Since t n (after sys before) x → IsUnitOpen (after sys before) o m
    named x i l (since_ended low) =
        absurd (let own = ((i.terms t (i.known t l.unit l.caused.is_open)).unit_ok l.unit l.caused.is_open).number in let number = l.caused.number in omega (arith, low, own, number))
    named x i l (since_begun unit next is birth were) =
        let older = l.caused.holds in
        let is_open = l.caused.is_open in
        let same : l.unit ≡ unit = cc (is_open, is) in
        let births = ap (λ (u : OpenUnit). u.birth) same in
        let low = older.is_older in
        subst (IsUnitOpen (after sys before) o) older.number (were o older.older older.is_open (omega (arith, low, births, birth)))
