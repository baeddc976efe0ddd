-- What a step of an actor comes to, and what it leaves.
use Rattle.std.proofs.Common.{◌≡◌, ◌∙◌, ◌⊎◌, ◌≤◌, ℕ, List, length, Option, Some, None, Bool, true, false, ⊎_elim, ap, refl, subst, sym, inr, arith}
use Rattle.std.proofs.lemmas.Bool.{cases_lt}
use Rattle.std.specs.Option.{ForSome}
use Rattle.pw_base.specs.Outside.{Rose}
use Rattle.pw_code.specs.declared.context.Context.{Context}
use Rattle.pw_code.specs.declared.system.System.{System}
use Rattle.pw_code.specs.declared.verb.Verb.{Verb}
use Rattle.pw_event.specs.declared.event.Event.{Event}
use Rattle.pw_event.specs.declared.event.Event.TheVariants as event
use Rattle.pw_code_meaning.specs.Contexts.{RunsOn}
use Rattle.pw_world_state.specs.Read.{AreValued}
use Rattle.pw_world.proofs.PutBack.{actor-now, back-is, ran-still, run-disc}
use Rattle.pw_world.proofs.RanFound.{ran-found}
use Rattle.pw_world.specs.Applying.{Advances, StepsTo}
use Rattle.pw_world.specs.Found.{IsFound}
use Rattle.pw_world.specs.Judging.{IsOfWork, PassesJudging}
use Rattle.pw_world.specs.PutBack.{RanFrom, faulted_as, leaves_work, put_back_for, ran_back}
use Rattle.pw_world.specs.Running.{RunsTo}
use Rattle.pw_world_model.proofs.Steps.{passes-shown}
use Rattle.pw_world_model.specs.Actors.{IsActor}
use Rattle.pw_world_state.specs.Members.{members_of}
use Rattle.pw_world_model.specs.Answers.{AnswersApply, FailsOnly, IsBuilt, IsFull, LeavesApplied, Pushes, ran, ran_from, with_out}
use Rattle.pw_world_model.specs.Pushed.{CanPush, pushed}
use Rattle.pw_world_model.specs.Seen.{Seen, work_of}
use Rattle.pw_world_model.specs.Tasks.{RanOn}
use Rattle.pw_world_model.specs.Worlds.{Books, IsWorld}
use Rattle.pw_world_model.specs.declared.answers.Applied.{Applied}
use Rattle.pw_world_model.specs.declared.answers.Applied.TheVariants as applied
use Rattle.pw_world_model.specs.declared.task.Outcome.{Outcome}
use Rattle.pw_actor_queue.specs.declared.actor.Actor.{Actor}
use Rattle.pw_entry_tests.specs.Steps as steps
use Rattle.pw_world.proofs.FoundEnabled.{is-built, not-unbuilt}

-- ---- a step of an actor that has been read

module _ (world : Seen) (books : Books) (w : IsWorld world books) (a : Actor) (entry : Event)
    (found : IsFound world a entry) where
  pub can-push : ¬ IsFull world → AreValued world.system world.kept entry → CanPush world entry
  can-push room values = record {
    legal = found.enabled.legal;
    room = ⊎_elim (λ low. low) (λ high. absurd (room (full high, found.enabled.legal.unfinished)))
        (cases_lt (length world.log) world.limit);
    read = found.read;
    reply = found.reply;
    values = values;
  }
    where
      full : world.limit ≤ length world.log → length world.log ≡ world.limit
      full high = let within = w.room in omega (arith, within, high)

  pub step-done : ¬ steps.IsUnbuilt world.system world.kept entry
      → AreValued world.system world.kept entry → (new : Seen) → new ≡ pushed world entry
      → StepsTo (members_of world.system) world a applied.Done new
  step-done built values new is =
      let passes =
      passes-shown world books w entry found.read values found.enabled.legal found.enabled.at_verb in
      let pushes : Pushes (members_of world.system) world new a entry =
      record { enabled = found.enabled; built = is-built world entry built passes; is = is } in
      (((entry, found.enabled), not-unbuilt world a entry found.enabled built), (entry, pushes))

-- ---- an outcome of work

-- it has a verb and the context at it
has-both : (system : System) (given : Context) (verb : Option Verb) (work : Option Context)
    → RanOn system (Some given) verb work → (verb ≡ None) ⊎ (work ≡ None) → ⊥
has-both system given (Some verb) (Some work) on none =
    ⊎_elim (λ e. absurd (cc e)) (λ e. absurd (cc e)) none
has-both system given (Some verb) None on none = on
has-both system given None (Some work) on none = on
has-both system given None None on none = on

module _ (world : Seen) (outcome : Outcome) (given : Context) (of : IsOfWork world outcome)
    (is : work_of world outcome.actor ≡ Some given) where
  abbrev over : System
  over = outcome.over.value

  on : RanOn over (Some given) outcome.verb outcome.work
  on = subst (λ o. RanOn over o outcome.verb outcome.work) (of given is)
      (ran-found over outcome.given outcome.verb outcome.work outcome.ran)

  pub lacks-none : (outcome.verb ≡ None) ⊎ (outcome.work ≡ None) → ⊥
  lacks-none none = has-both over given outcome.verb outcome.work on none

  -- the work of its actor runs on to its verb
  pub runs-to : (work : Context) (verb : Verb) → over ≡ world.system → outcome.verb ≡ Some verb
      → outcome.work ≡ Some work → RunsTo world outcome.actor verb work
  runs-to work verb system verb_is work_is =
      let with_verb = subst (λ o. RanOn over (Some given) o outcome.work) verb_is on in
      let with_work = subst (λ o. RanOn over (Some given) (Some verb) o) work_is with_verb in
      record {
        given = given;
        is = is;
        runs = subst (λ (s : System). RunsOn s given work verb) system with_work;
      }

-- ---- an outcome that passes

-- the faults of a disc
abbrev with_faults : Bool → ℕ → Seen → Seen
with_faults failed n world = record world {
  failed = failed;
  kept = record world.kept { disc = record world.kept.disc { faults = n } };
}

abbrev faults_of : Seen → ℕ
faults_of world = world.kept.disc.faults

module _ (members : ℕ → List ℕ) (world : Seen) (outcome : Outcome) where
  abbrev who : Actor
  who = outcome.actor

  abbrev Steps : Applied → Seen → Type 0
  Steps answer new = StepsTo members (ran world outcome) who answer new

  abbrev Advanced : Applied → Seen → Type 0
  Advanced answer new = Advances members world outcome answer new

  comes-so : (answer : Applied) (new : Seen) → PassesJudging world outcome → Steps answer new
      → AnswersApply world outcome answer
  comes-so applied.Done new passes step = (passes.accepted, step.0)
  comes-so applied.Held new passes step = (passes.accepted, step.0)
  comes-so applied.Unbuilt new passes step = (passes.accepted, step.0)
  comes-so applied.DiscFault new passes step = inr (passes.accepted, step.0)
  comes-so applied.Memory new passes step = passes.accepted.sound
  comes-so applied.Limit new passes step = absurd step
  comes-so (applied.Stale carried found) new passes step = absurd step
  comes-so applied.Unrun new passes step = absurd step

  -- without work nothing has run on
  pub ran-nothing : work_of world who ≡ None → ran world outcome ≡ world
  ran-nothing none = ap (λ o. record world { kept = ran_from o outcome world.kept }) none

  advances-none : (answer : Applied) (new : Seen) → work_of world who ≡ None → Steps answer new
      → Advanced answer new
  advances-none applied.Done new none step = step.1
  advances-none applied.Held new none step = step.1
  advances-none applied.Unbuilt new none step = step.1 ∙ ran-nothing none
  advances-none applied.DiscFault new none step =
      subst (λ (w : Seen). FailsOnly w new) (ran-nothing none) step.1
  advances-none applied.Memory new none step = step ∙ ran-nothing none
  advances-none applied.Limit new none step = absurd step
  advances-none (applied.Stale carried found) new none step = absurd step
  advances-none applied.Unrun new none step = absurd step

  ran-disc : (o : Option Context) → (ran_from o outcome world.kept).disc ≡ world.kept.disc
  ran-disc None = refl
  ran-disc (Some given) = run-disc who outcome.work world.kept

  -- an outcome that has run on has the faults of the world
  unfaulted : faulted_as (ran world outcome) world ≡ world
  unfaulted =
      ap (λ n. with_faults world.failed n world) (ap (λ d. d.faults) (ran-disc (work_of world who)))

  -- what has run on is as it was, where it is put back
  module _ (given : Context) (mid : Seen) (there : IsActor world.system who)
      (from : RanFrom world mid who given) where
    back : ran_back who given mid ≡ faulted_as mid world
    back = back-is world mid who given from (actor-now world mid who given from there)

    unbuilt-back : mid ≡ ran world outcome → ran_back who given mid ≡ world
    unbuilt-back is = back ∙ (ap (λ (w : Seen). faulted_as w world) is ∙ unfaulted)

    fails-back : (new : Seen) → FailsOnly (ran world outcome) mid → new ≡ ran_back who given mid
        → FailsOnly world new
    fails-back new fails is = record {
      rose = subst (λ n. Rose world.faults n) (sym same) fails.rose;
      rest = whole
          ∙ ap (λ b. with_faults b (faults_of mid) world) (ap (λ (w : Seen). w.failed) fails.rest)
          ∙ ap (λ n. with_faults true n world) (sym same);
    }
      where
        whole : new ≡ faulted_as mid world
        whole = is ∙ back

        same : faults_of new ≡ faults_of mid
        same = ap faults_of whole

  advances-some : (answer : Applied) (given : Context) (after new : Seen) → IsActor world.system who
      → (leaves_work answer ≡ true → RanFrom world after who given) → Steps answer after
      → new ≡ put_back_for answer who (Some given) after → Advanced answer new
  advances-some applied.Done given after new there from step is =
      subst (λ (w : Seen). (entry : Event) × Pushes members (ran world outcome) w who entry) (sym is)
      step.1
  advances-some applied.Held given after new there from step is = is ∙ step.1
  advances-some applied.Unbuilt given after new there from step is =
      is ∙ unbuilt-back given after there (from refl) step.1
  advances-some applied.DiscFault given after new there from step is =
      fails-back given after there (from refl) new step.1 is
  advances-some applied.Memory given after new there from step is =
      is ∙ unbuilt-back given after there (from refl) step
  advances-some applied.Limit given after new there from step is = absurd step
  advances-some (applied.Stale carried found) given after new there from step is = absurd step
  advances-some applied.Unrun given after new there from step is = absurd step

  -- what has run on is so still, where the answer leaves it as it was
  still-from : (answer : Applied) (mid after : Seen) (given : Context)
      → StepsTo members mid who answer after → RanFrom world mid who given → leaves_work answer ≡ true
      → RanFrom world after who given
  still-from applied.Unbuilt mid after given step from leaves =
      subst (λ (w : Seen). RanFrom world w who given) (sym step.1) from
  still-from applied.DiscFault mid after given step from leaves =
      ran-still world mid after who given from step.1
  still-from applied.Memory mid after given step from leaves =
      subst (λ (w : Seen). RanFrom world w who given) (sym step) from
  still-from applied.Done mid after given step from leaves = absurd (cc leaves)
  still-from applied.Held mid after given step from leaves = absurd (cc leaves)
  still-from applied.Limit mid after given step from leaves = absurd (cc leaves)
  still-from (applied.Stale carried found) mid after given step from leaves = absurd (cc leaves)
  still-from applied.Unrun mid after given step from leaves = absurd (cc leaves)

  module _ (answer : Applied) (mid after : Seen) (ran_is : mid ≡ ran world outcome)
      (step : StepsTo members mid who answer after) where
    step-ran : Steps answer after
    step-ran = subst (λ (w : Seen). StepsTo members w who answer after) ran_is step

    pub advance-comes : PassesJudging world outcome → AnswersApply world outcome answer
    advance-comes passes = comes-so answer after passes step-ran

    pub after-from : (given : Option Context) → ForSome given (RanFrom world mid who)
        → leaves_work answer ≡ true
        → ForSome given (λ context. (before : Seen) × RanFrom before after who context)
    after-from given from leaves context is =
        (world, still-from answer mid after context step (from context is) leaves)

    pub advances : (given : Option Context) (new : Seen) → IsActor world.system who
        → given ≡ work_of world who → ForSome given (RanFrom world mid who)
        → new ≡ put_back_for answer who given after → Advanced answer new
    advances None new there none from is =
        subst (λ (w : Seen). Advanced answer w) (sym is)
        (advances-none answer after (sym none) step-ran)
    advances (Some given) new there some from is =
        advances-some answer given after new there
        (still-from answer mid after given step (from given refl)) step-ran is

-- ---- the actor is no more out

built-out : (world : Seen) (out : Actor → Bool) (entry : Event) → IsBuilt world entry
    → IsBuilt (record world { out = out }) entry
built-out world out (event.Applied t) built = built
built-out world out (event.Show t phase attempt k) built = tt
built-out world out (event.Key t k) built = tt
built-out world out (event.CheckStart t) built = tt
built-out world out (event.CheckEnd t) built = tt
built-out world out (event.CheckCopy t) built = tt
built-out world out (event.Begin t n r) built = tt
built-out world out (event.Send t n c) built = tt
built-out world out (event.Take c i t) built = tt
built-out world out (event.File c i op mode f status) built = tt
built-out world out (event.Reply c i t fault) built = tt
built-out world out (event.Again t n) built = tt
built-out world out (event.Commit t n) built = tt
built-out world out (event.Back t n) built = tt
built-out world out (event.Restart t n cause) built = tt
built-out world out (event.FailTcp p primary k) built = tt
built-out world out (event.FailServer c i k) built = tt
built-out world out (event.Takeover p) built = tt
built-out world out (event.Raise p) built = tt
built-out world out (event.End t ending) built = tt

module _ (world after new : Seen) (a : Actor) (is : new ≡ with_out a false after) where
  pushes-out : (members : ℕ → List ℕ) (entry : Event) → Pushes members world after a entry
      → Pushes members (with_out a false world) new a entry
  pushes-out members entry pushes = record {
    enabled = record {
      legal = pushes.enabled.legal;
      at_verb = pushes.enabled.at_verb;
      own = pushes.enabled.own;
    };
    built = built-out world (with_out a false world).out entry pushes.built;
    is = is ∙ ap (with_out a false) pushes.is;
  }

  fails-out : FailsOnly world after → FailsOnly (with_out a false world) new
  fails-out fails =
      let same : faults_of new ≡ faults_of after = ap faults_of is in
      record {
        rose = subst (λ n. Rose world.faults n) (sym same) fails.rose;
        rest = is ∙ (ap (with_out a false) fails.rest
            ∙ ap (λ n. with_faults true n (with_out a false world)) (sym same));
      }

module _ (members : ℕ → List ℕ) (world : Seen) (outcome : Outcome) (after new : Seen)
    (is : new ≡ with_out outcome.actor false after) where
  unmoved : (kept : Seen) → after ≡ kept → new ≡ with_out outcome.actor false kept
  unmoved kept same = is ∙ ap (with_out outcome.actor false) same

  pub leaves-out : (answer : Applied) → Advances members world outcome answer after
      → LeavesApplied members world outcome answer new
  leaves-out applied.Done leaves =
      (leaves.0, pushes-out (ran world outcome) after new outcome.actor is members leaves.0 leaves.1)
  leaves-out applied.Held leaves = unmoved (ran world outcome) leaves
  leaves-out applied.DiscFault leaves = fails-out world after new outcome.actor is leaves
  leaves-out applied.Unbuilt leaves = unmoved world leaves
  leaves-out applied.Memory leaves = unmoved world leaves
  leaves-out applied.Limit leaves = unmoved world leaves
  leaves-out (applied.Stale carried found) leaves = unmoved world leaves
  leaves-out applied.Unrun leaves = unmoved world leaves
