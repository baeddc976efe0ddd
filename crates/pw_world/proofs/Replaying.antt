-- The world behind more and more of a log.
use Rattle.std.proofs.Common.{◌≡◌, ◌∙◌, ℕ, ◌+◌, ◌-◌, ◌<◌, ◌++◌, [], ◌∷◌, List, ap, arith, length, subst, sym, take, get_or, length-take}
use Rattle.std.proofs.lemmas.List.{take_more}
use Rattle.std.proofs.lemmas.Option.{slice_get-get_or}
use Rattle.std.specs.Prelude.{slice_get}
use Rattle.pw_base.specs.Outside.{Rose}
use Rattle.pw_code.specs.Limits.{most_log_lines}
use Rattle.pw_code.specs.declared.system.System.{System}
use Rattle.pw_event.specs.declared.event.Event.{Event}
use Rattle.pw_event.specs.declared.script.FailLine.{FailLine}
use Rattle.pw_code_meaning.specs.OfSystem.{behaviour}
use Rattle.pw_world_model.specs.Answers.{EnterComes, LeavesEntered}
use Rattle.pw_world_model.specs.Calls.{IsFirstNoStep, IsReplayed}
use Rattle.pw_world_model.specs.Seen.{Seen, state_of, sys_of}
use Rattle.pw_world_model.specs.Worlds.{IsNew}
use Rattle.pw_world_model.specs.declared.answers.Entered.TheVariants as enter
use Rattle.pw_onecopy.specs.Behaviour.{Behaviour}
use Rattle.pw_paired.specs.Step.{IsRun, Legal, after}
use Rattle.pw_laws.proofs.induction.Runs.{run-more}
use Rattle.pw_tmf.specs.Told.{Told}

module _ (system : System) (script : List FailLine) (disc : Told) where
  abbrev sys : Behaviour
  sys = behaviour script system

  pub replayed-none : (log : List Event) (world : Seen) → IsNew system script disc most_log_lines world
      → IsReplayed system script disc (take 0 log) world
  replayed-none log world new = record {
    run = tt;
    system_is = new.system_is;
    script_is = new.script_is;
    log_is = new.empty;
    limit_is = new.limit_is;
    count = new.count;
    sound = new.sound;
    inside = new.inside;
  }

  -- what is legal behind the entries so far
  legal-behind : (log : List Event) (world : Seen) (entry : Event)
      → IsReplayed system script disc log world
      → Legal (sys_of world) (state_of world) entry → Legal sys (after sys log) entry
  legal-behind log world entry r legal =
      let at-system = subst
      (λ (s : System). Legal (behaviour world.script s)
      (after (behaviour world.script s) world.log) entry) r.system_is legal in
      let at-script = subst
      (λ (lines : List FailLine). Legal (behaviour lines system)
      (after (behaviour lines system) world.log) entry) r.script_is at-system in
      subst (λ (entries : List Event). Legal sys (after sys entries) entry) r.log_is at-script

  legal-ahead : (log : List Event) (world : Seen) (entry : Event)
      → IsReplayed system script disc log world
      → Legal sys (after sys log) entry → Legal (sys_of world) (state_of world) entry
  legal-ahead log world entry r legal =
      let at-log = subst (λ (entries : List Event). Legal sys (after sys entries) entry)
      (sym r.log_is) legal in
      let at-script = subst
      (λ (lines : List FailLine). Legal (behaviour lines system)
      (after (behaviour lines system) world.log) entry) (sym r.script_is) at-log in
      subst (λ (s : System). Legal (behaviour world.script s)
      (after (behaviour world.script s) world.log) entry) (sym r.system_is) at-script

  replayed-more : (log : List Event) (world new : Seen) (entry : Event)
      → IsReplayed system script disc log world
      → EnterComes world entry enter.Done → LeavesEntered world entry enter.Done new
      → IsReplayed system script disc (log ++ entry ∷ []) new
  replayed-more log world new entry r comes leaves =
      let same = leaves.0 in
      record {
        run = run-more sys log entry r.run (legal-behind log world entry r comes.1);
        system_is = same.system ∙ r.system_is;
        script_is = same.script ∙ r.script_is;
        log_is = leaves.1.0 ∙ ap (λ entries. entries ++ entry ∷ []) r.log_is;
        limit_is = same.limit ∙ r.limit_is;
        count = same.faults ∙ r.count;
        sound = leaves.1.1 ∙ r.sound;
        inside = λ actor. same.out actor ∙ r.inside actor;
      }

  pub replayed-next : (log : List Event) (n : ℕ) (d : Event) (world new : Seen) → n < length log
      → IsReplayed system script disc (take n log) world
      → EnterComes world (get_or log n d) enter.Done
      → LeavesEntered world (get_or log n d) enter.Done new
      → IsReplayed system script disc (take (n + 1) log) new
  replayed-next log n d world new low r comes leaves =
      subst (λ (entries : List Event). IsReplayed system script disc entries new)
      (sym (take_more log n d low))
      (replayed-more (take n log) world new (get_or log n d) r comes leaves)

  pub so-long : (log : List Event) (n : ℕ) (world : Seen) → n < length log
      → IsReplayed system script disc (take n log) world → length world.log ≡ n
  so-long log n world low r = ap length r.log_is ∙ length-of
    where
      length-of : length (take n log) ≡ n
      length-of = simp length-take (omega (arith, low))

  pub no-step : (log : List Event) (n k : ℕ) (d : Event) (world : Seen) → n < length log
      → k ≡ length world.log + 1
      → IsReplayed system script disc (take n log) world
      → EnterComes world (get_or log n d) enter.NotAStep → IsFirstNoStep sys log k
  no-step log n k d world low is r comes =
      let long = so-long log n world low r in
      let before : k - 1 ≡ n = omega (arith, is, long) in
      record {
        from_one = omega (arith, is);
        within = omega (arith, is, long, low);
        before = subst (λ (m : ℕ). IsRun sys (take m log)) (sym before) r.run;
        entry = get_or log n d;
        here = ap (slice_get log) before ∙ slice_get-get_or log n d low;
        no_step = λ legal. comes.1
            (legal-ahead (take n log) world (get_or log n d) r
            (subst (λ (m : ℕ). Legal sys (after sys (take m log)) (get_or log n d)) before legal));
      }

  pub rose : (log : List Event) (world new : Seen) (entry : Event)
      → IsReplayed system script disc log world
      → LeavesEntered world entry enter.DiscFault new → Rose disc.faults new.kept.disc.faults
  rose log world new entry r leaves =
      subst (λ n. Rose n new.kept.disc.faults) (leaves.0.faults ∙ r.count) leaves.1.1.1
