-- A watch behind more and more of a log.
use Rattle.std.proofs.Common.{◌≡◌, ◌∙◌, ℕ, ◌+◌, ◌-◌, ◌<◌, ◌≤◌, ◌++◌, [], ◌∷◌, List, ap, arith, length, subst, sym, take, get_or, length-take}
use Rattle.std.proofs.lemmas.List.{take_all, take_more}
use Rattle.std.proofs.lemmas.Option.{slice_get-get_or}
use Rattle.std.specs.Prelude.{slice_get}
use Rattle.pw_code.specs.declared.system.System.{System}
use Rattle.pw_event.specs.declared.event.Event.{Event}
use Rattle.pw_event.specs.declared.script.FailLine.{FailLine}
use Rattle.pw_code_meaning.specs.OfSystem.{behaviour}
use Rattle.pw_world_model.specs.Calls.{IsFirstNoStep}
use Rattle.pw_onecopy.specs.Behaviour.{Behaviour}
use Rattle.pw_paired.specs.Step.{IsRun, Legal, after}
use Rattle.pw_laws.proofs.induction.Runs.{run-more}
use Rattle.pw_status.specs.Text.{status_text}
use Rattle.pw_status.specs.Watching.{WatchState, state_in, sys_in}

-- the log is a run, and was pushed
pub record IsPushedTo (system : System) (script : List FailLine) (log : List Event) (watch : WatchState) : Type 0 where
  pub is : watch ≡ record { system = system; script = script; log = log }
  pub run : IsRun (behaviour script system) log

-- a new watch
pub none-pushed : (watch : WatchState) → watch.log ≡ [] → IsPushedTo watch.system watch.script [] watch
none-pushed watch empty = record {
  is = ap (λ (log : List Event). record { system = watch.system; script = watch.script; log = log }) empty;
  run = tt;
}

-- a watch to which all is pushed tells the status text
pub all-pushed : (system : System) (script : List FailLine) (log : List Event) (n : ℕ) (watch : WatchState) (text : List ℕ) → length log ≤ n
    → IsPushedTo system script (take n log) watch → text ≡ status_text watch.system (sys_in watch) watch.log
    → IsRun (behaviour script system) log × (text ≡ status_text system (behaviour script system) log)
all-pushed system script log n watch text past to says =
    let all : take n log ≡ log = take_all n log past in (
      subst (IsRun (behaviour script system)) all to.run,
      says ∙ (ap (λ (w : WatchState). status_text w.system (sys_in w) w.log) to.is ∙ ap (status_text system (behaviour script system)) all),
    )

-- so many are pushed
pub so-long : (system : System) (script : List FailLine) (log : List Event) (n : ℕ) (watch : WatchState) → n < length log → IsPushedTo system script (take n log) watch → length watch.log ≡ n
so-long system script log n watch low to = ap (λ (w : WatchState). length w.log) to.is ∙ length-of
  where
    length-of : length (take n log) ≡ n
    length-of = simp length-take (omega (arith, low))

module _ (system : System) (script : List FailLine) (log : List Event) (n : ℕ) (d : Event) (low : n < length log) (watch : WatchState) (to : IsPushedTo system script (take n log) watch) where
  abbrev sys : Behaviour
  sys = behaviour script system

  abbrev entry : Event
  entry = get_or log n d

  abbrev before : List Event
  before = take n log

  legal-there : Legal (sys_in watch) (state_in watch) entry → Legal sys (after sys before) entry
  legal-there legal = subst (λ (w : WatchState). Legal (sys_in w) (state_in w) entry) to.is legal

  legal-here : Legal sys (after sys before) entry → Legal (sys_in watch) (state_in watch) entry
  legal-here legal = subst (λ (w : WatchState). Legal (sys_in w) (state_in w) entry) (sym to.is) legal

  -- one entry more
  pub pushed-more : (new : WatchState) → Legal (sys_in watch) (state_in watch) entry × (new ≡ record watch { log = watch.log ++ entry ∷ [] })
      → IsPushedTo system script (take (n + 1) log) new
  pushed-more new pushes =
      subst (λ (entries : List Event). IsPushedTo system script entries new) (sym (take_more log n d low))
      (record {
        is = pushes.1 ∙ ap (λ (w : WatchState). record w { log = w.log ++ entry ∷ [] }) to.is;
        run = run-more sys before entry to.run (legal-there pushes.0);
      })

  -- one that is no step
  pub first-none : (k : ℕ) (new : WatchState) → (¬ Legal (sys_in watch) (state_in watch) entry) × (new ≡ watch) → k ≡ length new.log + 1 → IsFirstNoStep sys log k
  first-none k new pushes is =
      let long = so-long system script log n watch low to in
      let same = ap (λ (w : WatchState). length w.log) pushes.1 in
      let here : k - 1 ≡ n = omega (arith, is, long, same) in
      record {
        from_one = omega (arith, is);
        within = omega (arith, is, long, same, low);
        before = subst (λ (m : ℕ). IsRun sys (take m log)) (sym here) to.run;
        entry = entry;
        here = ap (slice_get log) here ∙ slice_get-get_or log n d low;
        no_step = λ legal. pushes.0 (legal-here (subst (λ (m : ℕ). Legal sys (after sys (take m log)) entry) here legal));
      }
