-- The work of each actor where the context of an outcome has run on: as it was, or read.
use Rattle.std.proofs.Common.{◌≡◌, ◌⊎◌, ◌≤◌, Option, Some, None, Bool, true, false, inl, inr, refl, sym, ap, subst, ◌∙◌, arith}
use Rattle.std.specs.Prelude.{if◌then◌else◌, slice_get}
use Rattle.std.proofs.Math.Logic.{∥∥₁_elim}
use Rattle.pw_code.specs.declared.context.Context.{Context}
use Rattle.pw_code.specs.declared.system.ClassInfo.{ClassInfo}
use Rattle.pw_code.specs.declared.verb.Verb.{Verb}
use Rattle.pw_code_meaning.specs.Config.{Config, closed}
use Rattle.pw_code_meaning.specs.Contexts.{RanToVerb}
use Rattle.pw_code_meaning.specs.OfSystem.{processes_by}
use Rattle.pw_world_state.specs.Changes.{with_ready}
use Rattle.pw_world_state.specs.Kept.{Kept}
use Rattle.pw_world_state.specs.Stands.{StandsForJob, StandsForKnown, StandsIfAny}
use Rattle.pw_world_state.proofs.Agreeing.{there-is}
use Rattle.pw_onecopy.specs.Update.{upd}
use Rattle.pw_onecopy.proofs.Update.{upd-same, upd_elim}
use Rattle.pw_paired.specs.State.{Job}
use Rattle.pw_paired.specs.Terminal.{path_of}
use Rattle.pw_actor_queue.specs.declared.actor.Actor.{Actor}
use Rattle.pw_actor_queue.specs.declared.actor.Actor.TheVariants as actor
use Rattle.pw_world_model.specs.Actors.{IsActor}
use Rattle.pw_world_model.specs.Answers.{IsUnrun, ran, ran_from, run_on}
use Rattle.pw_world_model.specs.Seen.{Seen, at_answer, context_of, kept_context, state_of, work_of}
use Rattle.pw_world_model.specs.Tasks.{RanOn}
use Rattle.pw_world_model.specs.Worlds.{Books, IsWorld}
use Rattle.pw_world_model.specs.declared.task.Outcome.{Outcome}
use Rattle.pw_world_model.proofs.Outcomes.{terminal-work}

-- a context at its verb is no work
verb-none : (context : Context) → context.at_verb ≡ true → at_answer (Some context) ≡ None
verb-none context stands = ap (λ b. if b then None else Some context) stands

answered-is : (o : Option Context) (context : Context) → at_answer o ≡ Some context → o ≡ Some context
answered-is None context is = absurd (cc is)
answered-is (Some own) context is = by own.at_verb is
  where
    by : (b : Bool) → (if b then None else Some own) ≡ Some context → Some own ≡ Some context
    by true is = absurd (cc is)
    by false is = is

-- the work is what it was of the old context, or none
abbrev ReadFrom : Option Context → Option Context → Type 0
ReadFrom old new = (at_answer new ≡ at_answer old) ⊎ (at_answer new ≡ None)

module _ (world : Seen) (books : Books) (w : IsWorld world books) (outcome : Outcome) (over : outcome.over.value ≡ world.system) (of : IsActor world.system outcome.actor) (run : ¬ IsUnrun world outcome) where
  -- a context that is kept is that of a configuration
  abbrev IsClosed : Context → Type 0
  IsClosed context = (c : Config) × (context ≡ closed c)

  closed-work : (a : Actor) → IsActor world.system a → (given : Context) → work_of world a ≡ Some given → IsClosed given
  closed-work (actor.Terminal t) low given is =
      let info = there-is world.system.terminals t low in
      let stands = subst (StandsForKnown world.system info.0 (path_of (state_of world) t)) (terminal-work world books w t given low is).0 (w.stands.terminals t info.0 info.1).path in
      (stands.at, stands.is)
  closed-work (actor.Process c i) there given is = by (slice_get world.system.classes c) refl there.1
    where
      job : (info : ClassInfo) (o : Option Job) → StandsIfAny (StandsForJob world.system info) o (Some given) → IsClosed given
      job info None stands = absurd stands
      job info (Some one) stands = (stands.at, stands.is)

      by : (o : Option ClassInfo) → slice_get world.system.classes c ≡ o → i ≤ processes_by o → IsClosed given
      by None none high = let low = there.0 in absurd (omega (arith, low, high))
      by (Some info) here high = job info (((state_of world).classes c).busy i)
          (subst (StandsIfAny (StandsForJob world.system info) (((state_of world).classes c).busy i)) (answered-is (world.kept.jobs c i) given is) ((w.stands.classes c info here).works_on i))
  closed-work (actor.Pair p) there given is = absurd (cc is)
  closed-work (actor.Class c) there given is = absurd (cc is)

  -- what has run on stands at its verb
  at-verb : (given work : Context) → IsClosed given → outcome.given ≡ Some given → outcome.work ≡ Some work → RanOn outcome.over.value outcome.given outcome.verb outcome.work → work.at_verb ≡ true
  at-verb given work c is-given is-work on = by outcome.verb
      (subst (λ o. RanOn outcome.over.value (Some given) outcome.verb o) is-work (subst (λ o. RanOn outcome.over.value o outcome.verb outcome.work) is-given on))
    where
      by : (verb : Option Verb) → RanOn outcome.over.value (Some given) verb (Some work) → work.at_verb ≡ true
      by None on = absurd on
      by (Some verb) on = let r : RanToVerb outcome.over.value c.0 work verb = on c.0 c.1 in ap (λ (x : Context). x.at_verb) r.is ∙ r.reaches.1

  verb-there : (given work : Context) → work_of world outcome.actor ≡ Some given → outcome.work ≡ Some work → work.at_verb ≡ true
  verb-there given work is is-work = by work.at_verb refl
    where
      by : (b : Bool) → work.at_verb ≡ b → b ≡ true
      by true e = refl
      by false e = absurd (run (record {
        context = given;
        work = is;
        other = λ same. ∥∥₁_elim outcome.ran (λ a b. absurd a) (λ on. let stands : work.at_verb ≡ true = at-verb given work (closed-work outcome.actor of given is) same is-work on in absurd (cc (e, stands)));
      }))

  abbrev Read : Kept → Actor → Type 0
  Read kept a = (at_answer (kept_context kept a) ≡ work_of world a) ⊎ (at_answer (kept_context kept a) ≡ None)

  run-read : (own a : Actor) (work : Context) → work.at_verb ≡ true → Read (run_on own (Some work) world.kept) a
  run-read (actor.Terminal t) (actor.Terminal u) work stands = upd_elim world.kept.terminals t (with_ready work (world.kept.terminals t)) u
      (λ x. (at_answer (context_of x) ≡ work_of world (actor.Terminal u)) ⊎ (at_answer (context_of x) ≡ None)) (λ is. inr (verb-none work stands)) (λ ne. inl refl)
  run-read (actor.Terminal t) (actor.Process c i) work stands = inl refl
  run-read (actor.Terminal t) (actor.Pair p) work stands = inl refl
  run-read (actor.Terminal t) (actor.Class c) work stands = inl refl
  run-read (actor.Process d j) (actor.Terminal u) work stands = inl refl
  run-read (actor.Process d j) (actor.Process c i) work stands = upd_elim world.kept.jobs d _ c (λ f. ReadFrom (world.kept.jobs c i) (f i))
      (λ is. upd_elim (world.kept.jobs d) j (Some work) i (ReadFrom (world.kept.jobs c i)) (λ same. inr (verb-none work stands)) (λ ne. inl (ap (λ e. at_answer (world.kept.jobs e i)) (sym is))))
      (λ ne. inl refl)
  run-read (actor.Process d j) (actor.Pair p) work stands = inl refl
  run-read (actor.Process d j) (actor.Class c) work stands = inl refl
  run-read (actor.Pair q) a work stands = inl refl
  run-read (actor.Class d) a work stands = inl refl

  none-read : (own a : Actor) → Read (run_on own None world.kept) a
  none-read (actor.Terminal t) a = inl refl
  none-read (actor.Process c i) a = inl refl
  none-read (actor.Pair p) a = inl refl
  none-read (actor.Class c) a = inl refl

  -- each actor has the work that it had, or none
  pub ran-read : (a : Actor) → (work_of (ran world outcome) a ≡ work_of world a) ⊎ (work_of (ran world outcome) a ≡ None)
  ran-read a = by (work_of world outcome.actor) refl
    where
      by-work : (given : Context) → work_of world outcome.actor ≡ Some given → (o : Option Context) → outcome.work ≡ o → Read (run_on outcome.actor o world.kept) a
      by-work given is None none = none-read outcome.actor a
      by-work given is (Some work) some = run-read outcome.actor a work (verb-there given work is some)

      by : (o : Option Context) → work_of world outcome.actor ≡ o → Read (ran_from o outcome world.kept) a
      by None none = inl refl
      by (Some given) is = by-work given is outcome.work refl

  -- an outcome of work has the context at its verb
  given-nothing : (given : Context) (verb : Option Verb) → RanOn outcome.over.value (Some given) verb None → ⊥
  given-nothing given None on = on
  given-nothing given (Some verb) on = on

  -- its own actor has none any more
  pub ran-none : (given : Context) → work_of world outcome.actor ≡ Some given → work_of (ran world outcome) outcome.actor ≡ None
  ran-none given is = from (work_of world outcome.actor) is
    where
      own : (a : Actor) (work : Context) → work.at_verb ≡ true → at_answer (kept_context (run_on a (Some work) world.kept) a) ≡ None
      own (actor.Terminal t) work stands =
          ap (λ x. at_answer (context_of x)) (upd-same world.kept.terminals t (with_ready work (world.kept.terminals t)) t refl) ∙ verb-none work stands
      own (actor.Process c i) work stands =
          ap (λ f. at_answer (f i)) (upd-same world.kept.jobs c (upd (world.kept.jobs c) i (Some work)) c refl)
          ∙ (ap at_answer (upd-same (world.kept.jobs c) i (Some work) i refl) ∙ verb-none work stands)
      own (actor.Pair p) work stands = refl
      own (actor.Class c) work stands = refl

      by : (o : Option Context) → outcome.work ≡ o → at_answer (kept_context (run_on outcome.actor o world.kept) outcome.actor) ≡ None
      by (Some work) there = own outcome.actor work (verb-there given work is there)
      by None there = absurd (run (record {
        context = given;
        work = is;
        other = λ same. ∥∥₁_elim outcome.ran (λ a b. absurd a) (λ on.
            given-nothing given outcome.verb (subst (λ o. RanOn outcome.over.value (Some given) outcome.verb o) there (subst (λ o. RanOn outcome.over.value o outcome.verb outcome.work) same on)));
      }))

      from : (o : Option Context) → o ≡ Some given → at_answer (kept_context (ran_from o outcome world.kept) outcome.actor) ≡ None
      from None none = absurd (cc none)
      from (Some other) some = by outcome.work refl
