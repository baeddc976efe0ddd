-- A world in which the context of an outcome has run on.
use Rattle.std.proofs.Common.{◌≡◌, ℕ, ◌<◌, ◌≤◌, length, Option, Some, None, Bool, true, false, refl, sym, ap, subst, ◌∙◌, arith, ap₂}
use Rattle.std.specs.Prelude.{if◌then◌else◌, slice_get, IsSome}
use Rattle.std.proofs.Math.Path.{fun_ext}
use Rattle.pw_class.specs.Queue.{at_process}
use Rattle.pw_code.specs.declared.context.Context.{Context}
use Rattle.pw_code.specs.declared.system.ClassInfo.{ClassInfo}
use Rattle.pw_code.specs.declared.verb.Verb.{Verb}
use Rattle.pw_code_meaning.specs.Contexts.{RunsOn}
use Rattle.pw_code_meaning.specs.OfSystem.{processes_by}
use Rattle.pw_world_state.specs.Changes.{kept_ran, kept_show, with_context, with_job, with_ready}
use Rattle.pw_world_state.specs.Kept.{Kept, KeptTerminal}
use Rattle.pw_world_state.specs.Stands.{IsReadyIfAny}
use Rattle.pw_world_state.proofs.Agreeing.{there-is}
use Rattle.pw_world_state.proofs.Arrived.{at-its-verb}
use Rattle.pw_world_model.specs.Actors.{IsActor}
use Rattle.pw_world_model.specs.Answers.{ran, ran_from, run_on}
use Rattle.pw_world_model.specs.Pushed.{AreMarked}
use Rattle.pw_world_model.specs.Seen.{Seen, at_answer, context_of, first_of, state_of, sys_of, work_of}
use Rattle.pw_world_model.specs.Tasks.{RanOn}
use Rattle.pw_world_model.specs.Worlds.{Books, IsWorld}
use Rattle.pw_world_model.specs.declared.task.Outcome.{Outcome}
use Rattle.pw_world_model.proofs.OfUnits.{job-of}
use Rattle.pw_world_model.proofs.Outs.{at-same}
use Rattle.pw_world_model.proofs.RanOn.{process-ran, terminal-ran}
use Rattle.pw_world_model.proofs.SameWork.{marked-so}
use Rattle.pw_onecopy.specs.Update.{upd}
use Rattle.pw_onecopy.proofs.Update.{upd-other, upd-same, upd_elim}
use Rattle.pw_paired.specs.Terminal.{path_of}
use Rattle.pw_paired.specs.Units.{request_in}
use Rattle.pw_actor_queue.specs.declared.actor.Actor.{Actor}
use Rattle.pw_actor_queue.specs.declared.actor.Actor.TheVariants as actor
use Rattle.pw_laws.proofs.induction.Runs.{kept}

-- a context that is to run on stands at an answer
at-answer-is : (o : Option Context) (context : Context) → at_answer o ≡ Some context → (o ≡ Some context) × (context.at_verb ≡ false)
at-answer-is None context is = absurd (cc is)
at-answer-is (Some own) context is = by own.at_verb refl is
  where
    by : (b : Bool) → own.at_verb ≡ b → (if b then None else Some own) ≡ Some context → (Some own ≡ Some context) × (context.at_verb ≡ false)
    by true e is = absurd (cc is)
    by false e is = let same : own ≡ context = cc is in (is, ap (λ (c : Context). c.at_verb) (sym same) ∙ e)

-- an outcome of a context has a verb, and the context at it
abbrev RanSo : Seen → Outcome → Context → Type 0
RanSo world outcome given = (verb : Verb) × ((work : Context) × ((outcome.work ≡ Some work) × RunsOn world.system given work verb))

ran-so : (world : Seen) (outcome : Outcome) (given : Context) → outcome.given ≡ Some given → RanOn world.system outcome.given outcome.verb outcome.work → RanSo world outcome given
ran-so world outcome given is on = by outcome.verb outcome.work refl (subst (λ o. RanOn world.system o outcome.verb outcome.work) is on)
  where
    by : (verb : Option Verb) (work : Option Context) → outcome.work ≡ work → RanOn world.system (Some given) verb work → RanSo world outcome given
    by (Some verb) (Some work) there on = (verb, (work, (there, on)))
    by (Some verb) None there on = absurd on
    by None (Some work) there on = absurd on
    by None None there on = absurd on

module _ (world : Seen) (books : Books) (w : IsWorld world books) where
  -- the context of a terminal that is to run on is that of its last answer, and it has not run on
  pub terminal-work : (t : ℕ) (given : Context) → t < length world.system.terminals → work_of world (actor.Terminal t) ≡ Some given → ((world.kept.terminals t).context ≡ Some given) × ((world.kept.terminals t).ready ≡ None)
  terminal-work t given low is = by (world.kept.terminals t).ready refl (at-answer-is (context_of (world.kept.terminals t)) given is)
    where
      by : (o : Option Context) → (world.kept.terminals t).ready ≡ o → (context_of (world.kept.terminals t) ≡ Some given) × (given.at_verb ≡ false)
          → ((world.kept.terminals t).context ≡ Some given) × ((world.kept.terminals t).ready ≡ None)
      by None none found = (sym (ap (λ o. first_of o (world.kept.terminals t).context) none) ∙ found.0, none)
      by (Some own) some found =
          let info = there-is world.system.terminals t low in
          let ready = subst (IsReadyIfAny world.system info.0 (path_of (state_of world) t)) some (w.stands.terminals t info.0 info.1).ready in
          let stands : own.at_verb ≡ true = at-its-verb world.system info.0 (path_of (state_of world) t) own ready in
          let is-own : own ≡ given = cc (sym (ap (λ o. first_of o (world.kept.terminals t).context) some) ∙ found.0) in
          let not-at = found.1 in
          absurd (cc (stands, is-own, not-at))

  -- a context that has run on is put back
  pub terminal-back : (t : ℕ) (given new : Context) → t < length world.system.terminals → work_of world (actor.Terminal t) ≡ Some given → kept_show t given (kept_ran t new world.kept) ≡ world.kept
  terminal-back t given new low is = ap (λ f. record world.kept { terminals = f }) (fun_ext each)
    where
      own : KeptTerminal
      own = world.kept.terminals t

      both : (own.context ≡ Some given) × (own.ready ≡ None)
      both = terminal-work t given low is

      mid : ℕ → KeptTerminal
      mid = upd world.kept.terminals t (with_ready new own)

      same-own : with_context given (mid t) ≡ own
      same-own =
          ap (with_context given) (upd-same world.kept.terminals t (with_ready new own) t refl)
          ∙ ap₂ (λ c r. record own { context = c; ready = r }) (sym both.0) (sym both.1)

      each : (u : ℕ) → upd mid t (with_context given (mid t)) u ≡ world.kept.terminals u
      each u = upd_elim mid t (with_context given (mid t)) u (λ x. x ≡ world.kept.terminals u)
          (λ here. same-own ∙ ap world.kept.terminals (sym here)) (λ differ. upd-other world.kept.terminals t (with_ready new own) u differ)

  pub process-back : (c i : ℕ) (given new : Context) → work_of world (actor.Process c i) ≡ Some given → with_job c i (Some given) (with_job c i (Some new) world.kept) ≡ world.kept
  process-back c i given new is = ap (λ f. record world.kept { jobs = f }) (fun_ext each)
    where
      mid : ℕ → ℕ → Option Context
      mid = upd world.kept.jobs c (upd (world.kept.jobs c) i (Some new))

      at : mid c ≡ upd (world.kept.jobs c) i (Some new)
      at = upd-same world.kept.jobs c (upd (world.kept.jobs c) i (Some new)) c refl

      one : (j : ℕ) → upd (mid c) i (Some given) j ≡ world.kept.jobs c j
      one j = upd_elim (mid c) i (Some given) j (λ x. x ≡ world.kept.jobs c j)
          (λ here. sym (at-answer-is (world.kept.jobs c i) given is).0 ∙ ap (world.kept.jobs c) (sym here))
          (λ differ. ap (λ f. f j) at ∙ upd-other (world.kept.jobs c) i (Some new) j differ)

      each : (d : ℕ) → upd mid c (upd (mid c) i (Some given)) d ≡ world.kept.jobs d
      each d = upd_elim mid c (upd (mid c) i (Some given)) d (λ x. x ≡ world.kept.jobs d)
          (λ here. fun_ext one ∙ ap world.kept.jobs (sym here)) (λ differ. upd-other world.kept.jobs c (upd (world.kept.jobs c) i (Some new)) d differ)

  -- a process with a context is busy
  pub process-busy : (c i : ℕ) (context : Context) → c < length world.system.classes → world.kept.jobs c i ≡ Some context → IsSome (at_process (world.kept.queues c) i)
  process-busy c i context low is =
      let found = job-of world books w c i context low is in
      let of = (kept (sys_of world) w.deck world.log w.run).requests.bounds.work c i found.0 found.1 in
      subst IsSome (sym (at-same world.system world.script (state_of world) world.kept w.stands c i of ∙ ap request_in found.1)) refl

module _ (world : Seen) (books : Books) (w : IsWorld world books) (outcome : Outcome) (of : IsActor world.system outcome.actor) (on : RanOn world.system outcome.given outcome.verb outcome.work)
    (same : (context : Context) → work_of world outcome.actor ≡ Some context → outcome.given ≡ Some context) (marked : Actor → Bool) where
  abbrev IsOn : Kept → Type 0
  IsOn kept = AreMarked (record world { kept = kept }) marked → IsWorld (record world { kept = kept }) (record books { marked = marked })

  by-actor : (a : Actor) → IsActor world.system a → (given work : Context) (verb : Verb) → work_of world a ≡ Some given → RunsOn world.system given work verb → IsOn (run_on a (Some work) world.kept)
  by-actor (actor.Terminal t) low given work verb is runs are =
      let found = there-is world.system.terminals t low in
      terminal-ran world books w t found.0 given work verb marked found.1 (terminal-work world books w t given low is).0 runs are
  by-actor (actor.Process c i) there given work verb is runs are = by (slice_get world.system.classes c) refl there.1
    where
      by : (o : Option ClassInfo) → slice_get world.system.classes c ≡ o → i ≤ processes_by o → IsWorld (record world { kept = with_job c i (Some work) world.kept }) (record books { marked = marked })
      by None none high = let low = there.0 in absurd (omega (arith, low, high))
      by (Some info) here high = process-ran world books w c i info given work verb marked here (at-answer-is (world.kept.jobs c i) given is).0 runs are
  by-actor (actor.Pair p) there given work verb is runs are = absurd (cc is)
  by-actor (actor.Class c) there given work verb is runs are = absurd (cc is)

  by-work : (o : Option Context) → work_of world outcome.actor ≡ o → IsOn (ran_from o outcome world.kept)
  by-work None none are = marked-so world books w marked are
  by-work (Some given) is are =
      let so = ran-so world outcome given (same given is) on in
      subst (λ o. IsOn (run_on outcome.actor o world.kept)) (sym so.1.1.0) (by-actor outcome.actor of given so.1.0 so.0 is so.1.1.1) are

  pub outcome-ran : AreMarked (ran world outcome) marked → IsWorld (ran world outcome) (record books { marked = marked })
  outcome-ran are = by-work (work_of world outcome.actor) refl are
