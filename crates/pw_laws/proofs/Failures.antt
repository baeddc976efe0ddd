-- What failures leave of pairs and terminals in the log of a run.
use Rattle.std.proofs.Common.{◌≡◌, ◌≢◌, ◌⊎◌, ℕ, suc, ◌<◌, ⊎_elim, inl, inr, true, not, is_none, List, [], ◌∷◌, refl, ap, sym, subst, arith, ◌∙◌}
use Rattle.std.specs.List.{Contains}
use Rattle.std.specs.Prelude.{◌↔◌}
use Rattle.std.proofs.lemmas.Bool.{cases_eq, true≢false}
use Rattle.pw_event.specs.declared.event.Cause.{Cause}
use Rattle.pw_event.specs.declared.event.Cause.TheVariants as cause
use Rattle.pw_event.specs.declared.event.Ending.{Ending}
use Rattle.pw_event.specs.declared.event.Ending.TheVariants as ending
use Rattle.pw_event.specs.declared.event.Event.{Event}
use Rattle.pw_event.specs.declared.event.Event.TheVariants.{End, Restart}
use Rattle.pw_onecopy.specs.Behaviour.{Behaviour}
use Rattle.pw_onecopy.specs.IsBehaviour.{IsBehaviour}
use Rattle.pw_paired.specs.End.{LegalEnd}
use Rattle.pw_paired.specs.Failure.{Holds}
use Rattle.pw_paired.specs.State.{Gone, OpenUnit, State, starting}
use Rattle.pw_paired.specs.Step.{Fits, IsRun, IsRunFrom, after, after_from, effect, is_finished, is_going_on}
use Rattle.pw_paired.specs.Terminal.{IsLive}
use Rattle.pw_laws.specs.progress.Failures.{Losses, Suspensions}
use Rattle.pw_laws.specs.progress.Running.{restarts_in}
use Rattle.pw_laws.proofs.BeginsOnce.{restarts-counted}
use Rattle.pw_laws.proofs.Lacking.{any_below-true}
use Rattle.pw_laws.proofs.Losing.{gone-made, gone-stays, made-gone}
use Rattle.pw_laws.proofs.RunSteps.{after_from-append, run-parts}
use Rattle.pw_laws.proofs.steps.Living.{ending-stays}

-- no cause holds while the pair is Gone
caused-there : (sys : Behaviour) (s : State) (t : ℕ) (unit : OpenUnit) (kind : Cause) → Holds sys s t unit kind
    → s.modes (sys.pair_of t) ≢ Gone
caused-there sys s t unit (cause.Older o m) holds gone = holds.there gone
caused-there sys s t unit (cause.Takeover p) holds gone = let alone = holds.alone in cc (alone, gone)
caused-there sys s t unit (cause.Server k) holds gone = let paired = holds.paired in cc (paired, gone)
caused-there sys s t unit cause.Redo holds gone = let paired = holds.can.paired in cc (paired, gone)

-- a terminal ends as Lost exactly where its pair is Gone
end-lost : (sys : Behaviour) (s : State) (t : ℕ) (e : Ending) → LegalEnd sys s t e → (e ≡ ending.Lost) ↔ (s.modes (sys.pair_of t) ≡ Gone)
end-lost sys s t ending.Lost l = (λ is. l.lost, λ gone. refl)
end-lost sys s t ending.Stopped l = (λ is. absurd (cc is), λ gone. absurd (let paired = l.can.paired in cc (paired, gone)))
end-lost sys s t ending.NoEntries l = (λ is. absurd (cc is), λ gone. absurd (let paired = l.can.paired in cc (paired, gone)))
end-lost sys s t (ending.Fault x) l = (λ is. absurd (cc is), λ gone. absurd (let paired = l.can.paired in cc (paired, gone)))
end-lost sys s t (ending.Suspended kind) l = (λ is. absurd (cc is), λ gone. absurd (caused-there sys s t l.unit kind l.caused.holds gone))

-- an entry is an END of the terminal or none
is-end : (t : ℕ) (entry : Event) → ((e : Ending) × (entry ≡ End t e)) ⊎ ((e : Ending) → entry ≡ End t e → ⊥)
is-end t (End own e) =
    ⊎_elim (λ same. inl (e, ap (λ (o : ℕ). End o e) (sym same))) (λ differ. inr (λ other is. differ (cc is))) (cases_eq t own)
is-end t entry = inr (λ e is. absurd (cc is))

-- before the log is finished a live terminal of a pair that is Gone ends as Lost
ends-lost : (sys : Behaviour) (s : State) (t : ℕ) (log : List Event) → IsRunFrom sys s log → is_finished sys (after_from sys s log) ≡ true
    → s.modes (sys.pair_of t) ≡ Gone → IsLive sys s t → Contains log (End t ending.Lost)
ends-lost sys s t [] run over gone live =
    absurd (true≢false (sym over ∙ ap not (any_below-true sys.terminals (is_going_on s) t live.known (ap is_none live.going_on))))
ends-lost sys s t (entry ∷ log) run over gone live =
    ⊎_elim
    (λ end.
    let l : LegalEnd sys s t end.0 = subst (Fits sys s) end.1 run.0.fits in
    (0, omega arith, end.1 ∙ ap (End t) ((end-lost sys s t end.0 l).1 gone)))
    (λ other.
    let rest = ends-lost sys (effect sys s entry) t log run.1 over (gone-stays sys s (sys.pair_of t) (entry ∷ []) (run.0, tt) gone)
    (record { known = live.known; going_on = ending-stays sys s t entry run.0.fits other ∙ live.going_on }) in
    let below = rest.1 in
    (suc rest.0, omega (arith, below), rest.2))
    (is-end t entry)

-- what is said of losses holds of every run
pub runs-losses : (sys : Behaviour) (log : List Event) → IsRun sys log → Losses sys log
runs-losses sys log run = record {
  gone = λ before rest p is. (made-gone sys before p, gone-made sys before p (run-parts sys log before rest run is).0);
  ends = λ before rest t e is. end-lost sys (after sys before) t e (run-parts sys log before (End t e ∷ rest) run is).1.0.fits;
  finished = λ over before rest t is.
      ends-lost sys (after sys before) t rest (run-parts sys log before rest run is).1
      (ap (is_finished sys) (sym (after_from-append sys (starting sys) before rest) ∙ ap (after sys) (sym is)) ∙ over);
}

-- and what is said of suspensions of every run of a deck
pub runs-suspensions : (sys : Behaviour) → IsBehaviour sys → (log : List Event) → IsRun sys log → Suspensions sys log
runs-suspensions sys b log run = record {
  restarts = λ before rest t n kind is.
      let parts = run-parts sys log before (Restart t n kind ∷ rest) run is in
      let l = parts.1.0.fits in
      let counted = restarts-counted sys b before parts.0 t l.unit l.caused.is_open in
      let few = l.few in
      ((l.unit, l.caused), subst (λ (m : ℕ). restarts_in t m before < sys.max_restarts t) l.caused.number (omega (arith, counted, few)));
  suspends = λ before rest t kind is.
      let parts = run-parts sys log before (End t (ending.Suspended kind) ∷ rest) run is in
      let l = parts.1.0.fits in
      (l.unit.number, (l.unit, l.caused), restarts-counted sys b before parts.0 t l.unit l.caused.is_open ∙ l.full);
}
