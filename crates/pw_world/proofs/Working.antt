-- What a task that is worked at once comes to.
use Rattle.std.proofs.Common.{◌≡◌, ◌∙◌, ℕ, List, Option, Some, None, Bool, true, false, ap, inl, inr, refl, sym}
use Rattle.std.proofs.Math.Path.{fun_ext}
use Rattle.std.proofs.lemmas.Bool.{cases_Bool}
use Rattle.std.specs.Option.{ForSome}
use Rattle.std.specs.Prelude.{if◌then◌else◌}
use Rattle.pw_actor_queue.proofs.Placing.{same-is}
use Rattle.pw_actor_queue.specs.declared.actor.Actor.{Actor}
use Rattle.pw_code.specs.declared.context.Context.{Context}
use Rattle.pw_code.specs.declared.verb.Verb.{Verb}
use Rattle.pw_code_meaning.specs.Contexts.{RunsOn}
use Rattle.pw_world.proofs.Applying.{advance-comes, advances, after-from, leaves-out, ran-nothing}
use Rattle.pw_world.proofs.PutBack.{ran-as}
use Rattle.pw_world.specs.Applying.{Advances, StepsTo}
use Rattle.pw_world.specs.Judging.{PassesJudging}
use Rattle.pw_world.specs.PutBack.{RanFrom, leaves_work, put_back_for}
use Rattle.pw_world.specs.Running.{ran_to}
use Rattle.pw_world_model.specs.Actors.{IsActor, is_same_actor}
use Rattle.pw_world_model.specs.Answers.{IsFull, ran, ran_from, with_out}
use Rattle.pw_world_model.specs.Enabled.{MayWork}
use Rattle.pw_world_model.specs.Seen.{Seen, work_of}
use Rattle.pw_world_model.specs.Tasks.{RanOn}
use Rattle.pw_world_model.specs.Working.{WorksOn}
use Rattle.pw_world_model.specs.Worlds.{Books, IsWorld}
use Rattle.pw_world_model.specs.declared.answers.Applied.{Applied}
use Rattle.pw_world_model.specs.declared.answers.Applied.TheVariants as applied
use Rattle.pw_world_model.specs.declared.task.Outcome.{Outcome}
use Rattle.pw_world_model.specs.declared.task.Task.{Task}

-- ---- an actor that is not out

still-outs : (outs : Actor → Bool) (actor : Actor) (a : Actor) → outs actor ≡ false
    → (if is_same_actor a actor then false else outs a) ≡ outs a
still-outs outs actor a inside =
    elim (cases_Bool (is_same_actor a actor)) [
      | inl same ↦
          let one : a ≡ actor = same-is a actor same in
          let own : outs a ≡ false = ap outs one ∙ inside in
          ap (λ b. if b then false else outs a) same ∙ sym own
      | inr other ↦ ap (λ b. if b then false else outs a) other
    ]

still-out : (world : Seen) (actor : Actor) → world.out actor ≡ false → world ≡ with_out actor false world
still-out world actor inside =
    sym (ap (λ outs. record world { out = outs }) (fun_ext (λ a. still-outs world.out actor a inside)))

-- an outcome that passes leaves out who was
same-outs : (members : ℕ → List ℕ) (world : Seen) (outcome : Outcome) (answer : Applied) (new : Seen)
    → Advances members world outcome answer new → new.out ≡ world.out
same-outs members world outcome applied.Done new leaves = ap (λ (w : Seen). w.out) leaves.1.is
same-outs members world outcome applied.Held new leaves = ap (λ (w : Seen). w.out) leaves
same-outs members world outcome applied.DiscFault new leaves = ap (λ (w : Seen). w.out) leaves.rest
same-outs members world outcome applied.Unbuilt new leaves = ap (λ (w : Seen). w.out) leaves
same-outs members world outcome applied.Memory new leaves = ap (λ (w : Seen). w.out) leaves
same-outs members world outcome applied.Limit new leaves = ap (λ (w : Seen). w.out) leaves
same-outs members world outcome (applied.Stale carried found) new leaves = ap (λ (w : Seen). w.out) leaves
same-outs members world outcome applied.Unrun new leaves = ap (λ (w : Seen). w.out) leaves

-- ---- its task

module _ (members : ℕ → List ℕ) (world : Seen) (books : Books) (w : IsWorld world books) (actor : Actor)
    (there : IsActor world.system actor) (inside : world.out actor ≡ false) (sound : world.failed ≡ false)
    (room : ¬ IsFull world) where
  module _ (given : Option Context) (verb : Option Verb) (work : Option Context)
      (on : ∥ RanOn world.system given verb work ∥₁) (is : work_of world actor ≡ given) where
    abbrev task : Task
    task = record { actor = actor; stamp = books.stamps actor; work = given }

    abbrev outcome : Outcome
    outcome = record {
      actor = actor;
      stamp = books.stamps actor;
      given = given;
      verb = verb;
      work = work;
      over = record { marker = record {}; value = world.system };
      ran = on;
    }

    passes : PassesJudging world outcome
    passes = record {
      accepted = record {
        sound = sound;
        room = room;
        fresh = w.books.stamps actor there;
        run = λ unrun. unrun.other (sym is ∙ unrun.work);
      };
      work = λ context own. sym is ∙ own;
    }

    works-on : (answer : Applied) (mid after new : Seen) → MayWork world actor → mid ≡ ran world outcome
        → StepsTo members mid actor answer after → ForSome given (RanFrom world mid actor)
        → new ≡ put_back_for answer actor given after → WorksOn members world answer new
    works-on answer mid after new may ran_is step back new_is = record {
      task = task;
      claimed = record {
        actor = there;
        inside = inside;
        may = may;
        stamp = w.books.stamps actor there;
        work = sym is;
      };
      outcome = outcome;
      of = record { actor = refl; stamp = refl; given = refl };
      over = refl;
      comes = advance-comes members world outcome answer mid after ran_is step passes;
      leaves = leaves-out members world outcome new new (still-out new actor stays) answer advanced;
    }
      where
        advanced : Advances members world outcome answer new
        advanced = advances members world outcome answer mid after ran_is step given new there (sym is) back new_is

        stays : new.out actor ≡ false
        stays = ap (λ (outs : Actor → Bool). outs actor) (same-outs members world outcome answer new advanced) ∙ inside

  -- an actor that has been read makes a step
  pub step-works : (answer : Applied) (new : Seen) → MayWork world actor → work_of world actor ≡ None
      → StepsTo members world actor answer new → WorksOn members world answer new
  step-works answer new may none step =
      works-on None None None ∣ tt ∣₁ none answer world new new may
      (sym (ran-nothing members world (outcome None None None ∣ tt ∣₁ none) none)) step (λ context some. absurd (cc some)) refl

  -- an actor whose program has run on makes a step
  module _ (given work : Context) (verb : Verb) (answer : Applied) (mid after : Seen)
      (on : RunsOn world.system given work verb) (is : work_of world actor ≡ Some given) (mid_is : mid ≡ ran_to actor work world)
      (step : StepsTo members mid actor answer after) where
    abbrev run-outcome : Outcome
    run-outcome = outcome (Some given) (Some verb) (Some work) ∣ on ∣₁ is

    ran_is : mid ≡ ran world run-outcome
    ran_is = mid_is ∙ sym (ap (λ o. record world { kept = ran_from o run-outcome world.kept }) is)

    back : ForSome (Some given) (RanFrom world mid actor)
    back context same = ran-as world mid books actor context work w (is ∙ same) mid_is

    pub run-back : leaves_work answer ≡ true
        → ForSome (Some given) (λ context. (before : Seen) × RanFrom before after actor context)
    run-back = after-from members world run-outcome answer mid after ran_is step (Some given) back

    pub run-works : (new : Seen) → new ≡ put_back_for answer actor (Some given) after → WorksOn members world answer new
    run-works new new_is =
        works-on (Some given) (Some verb) (Some work) ∣ on ∣₁ is answer mid after new (inr (given, is)) ran_is step back new_is
