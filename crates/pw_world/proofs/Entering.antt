-- Which entries are steps, and what `enter` leaves.
use Rattle.std.proofs.Common.{◌≡◌, ◌⊎◌, ◌∙◌, ◌↔◌, ⊎_elim, inl, inr, ℕ, ◌<◌, ◌++◌, [], ◌∷◌, Bool, true, Option, Some, None, ap, length, refl, subst, sym}
use Rattle.std.proofs.Math.Dec.{eqb}
use Rattle.std.proofs.lemmas.Bool.{eq-eqb, eqb-true}
use Rattle.std.specs.Option.{option_eq}
use Rattle.std.specs.Prelude.{IsTrue}
use Rattle.pw_base.specs.Outside.{Rose}
use Rattle.pw_event.specs.declared.event.Event.{Event}
use Rattle.pw_world_state.specs.May.{may}
use Rattle.pw_world_state.specs.Meeting.{IsStepRead}
use Rattle.pw_world_state.specs.Read.{AreValued, IsEntryRead}
use Rattle.pw_world.proofs.ReadFor.{reads}
use Rattle.pw_world.specs.Entering.{MayCome}
use Rattle.pw_world.specs.Running.{HasRunOn}
use Rattle.pw_world_model.proofs.Idle.{reply-read}
use Rattle.pw_world_model.proofs.Steps.{due-same, is-legal, passes, there}
use Rattle.pw_world_model.specs.Answers.{FailsOnly, IsSameWorld, LeavesEntered}
use Rattle.pw_world_model.specs.Pushed.{CanPush, pushed}
use Rattle.pw_world_model.specs.Seen.{Seen, at_answer, context_of, state_of, sys_of, work_of}
use Rattle.pw_world_model.specs.Stamps.{state_in}
use Rattle.pw_world_model.specs.Worlds.{Books, IsWorld}
use Rattle.pw_world_model.specs.declared.answers.Entered.TheVariants as enter
use Rattle.pw_paired.specs.State.{starting}
use Rattle.pw_paired.specs.Step.{Legal, effect}
use Rattle.pw_actor_queue.specs.declared.actor.Actor.{Actor}
use Rattle.pw_actor_queue.specs.declared.actor.Actor.TheVariants as actor
use Rattle.pw_laws.proofs.RunSteps.{after_from-append}
use Rattle.pw_world_model.specs.Between.{KeepsWork}
use Rattle.pw_world_model.proofs.KeptContext.{context-stays}
use Rattle.pw_world_model.specs.Actors.{IsActor}

-- ---- steps

pub same-option : (a b : Option ℕ) → IsTrue (option_eq eqb a b) ↔ (a ≡ b)
same-option None None = ((λ same. refl), (λ is. refl))
same-option None (Some y) = ((λ same. absurd (cc same)), (λ is. absurd (cc is)))
same-option (Some x) None = ((λ same. absurd (cc same)), (λ is. absurd (cc is)))
same-option (Some x) (Some y) = ((λ same. ap Some (eqb-true x y same)), (λ is. eq-eqb x y (cc is)))

module _ (world : Seen) (books : Books) (w : IsWorld world books) (entry : Event) where
  pub may-come : Legal (sys_of world) (state_of world) entry → MayCome world entry
  may-come legal =
      record { there = there world books w entry legal; unfinished = legal.unfinished; due = legal.due }

  pub is-step : MayCome world entry → IsEntryRead world.system world.kept entry
      → AreValued world.system world.kept entry
      → (passed : Bool)
      → (IsStepRead world.system world.kept entry
      → passed ≡ may world.system world.script world.kept entry)
      → IsTrue passed ↔ Legal (sys_of world) (state_of world) entry
  is-step come read values passed same =
      let is : passed ≡ may world.system world.script world.kept entry =
      same ((reads world.system world.kept entry).shows read) in (
        (λ yes. is-legal world books w entry come.there read values come.unfinished
            (due-same world books w entry come.there ∙ come.due) (sym is ∙ yes)),
        (λ legal. is ∙ passes world books w entry read values legal),
      )

  pub can-push : length world.log < world.limit → IsEntryRead world.system world.kept entry
      → AreValued world.system world.kept entry
      → Legal (sys_of world) (state_of world) entry → CanPush world entry
  can-push room read values legal = record {
    legal = legal;
    room = room;
    read = (reads world.system world.kept entry).shows read;
    reply = reply-read world books w entry legal;
    values = values;
  }

-- behind programs that ran on the same entries may come
pub come-on : (world new : Seen) (entry : Event) → HasRunOn world new → MayCome world entry
    → MayCome new entry
come-on world new entry ran come = subst (λ (s : Seen). MayCome s entry) (sym ran.rest)
    (record { there = come.there; unfinished = come.unfinished; due = come.due })

-- ---- what is left

pub same-on : (world new : Seen) → HasRunOn world new → IsSameWorld world new
same-on world new ran = record {
  system = ap (λ (s : Seen). s.system) ran.rest;
  script = ap (λ (s : Seen). s.script) ran.rest;
  limit = ap (λ (s : Seen). s.limit) ran.rest;
  out = λ actor. ap (λ (s : Seen). s.out actor) ran.rest;
  faults = ap (λ (s : Seen). s.faults) ran.rest;
}

both-same : (one two three : Seen) → IsSameWorld one two → IsSameWorld two three → IsSameWorld one three
both-same one two three first second = record {
  system = second.system ∙ first.system;
  script = second.script ∙ first.script;
  limit = second.limit ∙ first.limit;
  out = λ actor. second.out actor ∙ first.out actor;
  faults = second.faults ∙ first.faults;
}

abbrev pub log-on : (world new : Seen) → HasRunOn world new → new.log ≡ world.log
log-on world new ran = ap (λ (s : Seen). s.log) ran.rest

abbrev pub failed-on : (world new : Seen) → HasRunOn world new → new.failed ≡ world.failed
failed-on world new ran = ap (λ (s : Seen). s.failed) ran.rest

-- programs ran on alone
pub leaves-none : (world new : Seen) (entry : Event) → HasRunOn world new
    → LeavesEntered world entry enter.NotAStep new
leaves-none world new entry ran =
    (same-on world new ran, (log-on world new ran, failed-on world new ran))

pub leaves-memory : (world new : Seen) (entry : Event) → HasRunOn world new
    → LeavesEntered world entry enter.Memory new
leaves-memory world new entry ran =
    (same-on world new ran, (log-on world new ran, failed-on world new ran))

-- then the entry was pushed
pub leaves-done : (world mid new : Seen) (entry : Event) → HasRunOn world mid → new ≡ pushed mid entry
    → LeavesEntered world entry enter.Done new
leaves-done world mid new entry ran is = (
  both-same world mid new (same-on world mid ran)
      (record {
        system = ap (λ (s : Seen). s.system) is;
        script = ap (λ (s : Seen). s.script) is;
        limit = ap (λ (s : Seen). s.limit) is;
        out = λ actor. ap (λ (s : Seen). s.out actor) is;
        faults = ap (λ (s : Seen). s.faults) is;
      }),
  (
    ap (λ (s : Seen). s.log) is ∙ ap (λ log. log ++ entry ∷ []) (log-on world mid ran),
    ap (λ (s : Seen). s.failed) is ∙ failed-on world mid ran,
  ),
)

-- then the disc failed
pub leaves-failed : (world mid new : Seen) (entry : Event) → HasRunOn world mid → FailsOnly mid new
    → LeavesEntered world entry enter.DiscFault new
leaves-failed world mid new entry ran fails = (
  both-same world mid new (same-on world mid ran) fails-same,
  (
    ap (λ (s : Seen). s.log) fails.rest ∙ log-on world mid ran,
    (
      ap (λ (s : Seen). s.failed) fails.rest,
      subst (λ n. Rose n new.kept.disc.faults)
          (sym fails-same.faults) fails.rose,
    ),
  ),
)
  where
    fails-same : IsSameWorld mid new
    fails-same = record {
      system = ap (λ (s : Seen). s.system) fails.rest;
      script = ap (λ (s : Seen). s.script) fails.rest;
      limit = ap (λ (s : Seen). s.limit) fails.rest;
      out = λ actor. ap (λ (s : Seen). s.out actor) fails.rest;
      faults = ap (λ (s : Seen). s.faults) fails.rest;
    }

-- a world in which the disc has failed already
pub leaves-so : (world : Seen) (books : Books) (entry : Event) → IsWorld world books
    → world.failed ≡ true → LeavesEntered world entry enter.DiscFault world
leaves-so world books entry w failed = (
  record { system = refl; script = refl; limit = refl; out = λ actor. refl; faults = refl },
  (refl, (failed, w.failed failed)),
)

-- ---- the work of actors

-- where programs ran on alone each actor has its work, or none
pub works-on : (world new : Seen) → HasRunOn world new → KeepsWork world new
works-on world new ran actor of same = ran.works actor

-- work is that of terminals and jobs
work-in : (one two : Seen) → one.kept.terminals ≡ two.kept.terminals → one.kept.jobs ≡ two.kept.jobs
    → (a : Actor) → work_of one a ≡ work_of two a
work-in one two terminals jobs (actor.Terminal t) = ap (λ f. at_answer (context_of (f t))) terminals
work-in one two terminals jobs (actor.Process c i) = ap (λ f. at_answer (f c i)) jobs
work-in one two terminals jobs (actor.Pair p) = refl
work-in one two terminals jobs (actor.Class c) = refl

pub works-failed : (world mid new : Seen) → HasRunOn world mid → FailsOnly mid new → KeepsWork world new
works-failed world mid new ran fails a of same =
    let is : work_of new a ≡ work_of mid a =
    work-in new mid (ap (λ (s : Seen). s.kept.terminals) fails.rest) (ap (λ (s : Seen). s.kept.jobs) fails.rest) a in
    ⊎_elim (λ old. inl (is ∙ old)) (λ none. inr (is ∙ none)) (ran.works a)

pub works-done : (world mid new : Seen) (books : Books) (entry : Event) → HasRunOn world mid → IsWorld mid books
    → Legal (sys_of mid) (state_of mid) entry → new ≡ pushed mid entry → KeepsWork world new
works-done world mid new books entry ran w legal is a of same =
    let system : mid.system ≡ world.system = ap (λ (s : Seen). s.system) ran.rest in
    let before : state_in (sys_of mid) (state_of mid) a ≡ state_in (sys_of world) (state_of world) a =
    ap (λ (s : Seen). state_in (sys_of s) (state_of s) a) ran.rest in
    let behind : state_in (sys_of new) (state_of new) a
    ≡ state_in (sys_of mid) (effect (sys_of mid) (state_of mid) entry) a =
    ap (λ (s : Seen). state_in (sys_of s) (state_of s) a) is
    ∙ ap (λ s. state_in (sys_of mid) s a)
    (after_from-append (sys_of mid) (starting (sys_of mid)) mid.log (entry ∷ [])) in
    let work : work_of new a ≡ work_of (pushed mid entry) a = ap (λ (s : Seen). work_of s a) is in
    ⊎_elim
    (λ stays. let old = work ∙ ap at_answer stays in
    ⊎_elim (λ first. inl (old ∙ first)) (λ none. inr (old ∙ none)) (ran.works a))
    (λ gone. inr (work ∙ ap at_answer gone))
    (context-stays mid books w entry legal mid.kept a (subst (λ s. IsActor s a) (sym system) of)
    (before ∙ (same ∙ behind)))
