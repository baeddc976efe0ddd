-- A file operation that was done, and the server that goes on behind it.
use Rattle.std.proofs.Common.{◌≡◌, ℕ, ◌<◌, false, List, length, Option, Some, ◌∙◌, refl, sym, ap, subst}
use Rattle.std.specs.Prelude.{IsSome}
use Rattle.pw_entry_effects.specs.Can.{CanOperate}
use Rattle.pw_entry_effects.proofs.Answering.{takes-is}
use Rattle.pw_entry_effects.proofs.Done.{done-answered}
use Rattle.pw_entry_effects.proofs.Serving.{done-is, may}
use Rattle.pw_class.specs.Queue.{at_process}
use Rattle.pw_class.specs.declared.request.Request.{Request}
use Rattle.pw_code.specs.Valid.{IsValid}
use Rattle.pw_code.specs.declared.context.Context.{Context}
use Rattle.pw_code.specs.declared.system.System.{System}
use Rattle.pw_code.specs.declared.verb.Answer.TheVariants as answer
use Rattle.pw_code_meaning.specs.Contexts.{PutsAnswer}
use Rattle.pw_code_meaning.specs.Sound.{IsSoundContext}
use Rattle.pw_world_store.specs.Calls.{IsOperated}
use Rattle.pw_world_store.specs.Keeps.{IsChanged, JobHasVerb, KeepState, job_of, jobs_at, kept_in}
use Rattle.pw_world_state.specs.Asked.{answered_with}
use Rattle.pw_world_state.specs.Changes.{with_job}
use Rattle.pw_world_state.specs.Entered.{entered_file}
use Rattle.pw_machine.specs.Stack.{HasRoom}
use Rattle.pw_tmf.specs.Told.{Told}
use Rattle.pw_tmf.specs.declared.answer.FileAnswer.TheVariants as done

module _ {D : Type 0} (told : D → Told) (old : KeepState D) (c i : ℕ) (can : CanOperate old.system (kept_in told old) c i) (has : JobHasVerb old.system (job_of (jobs_at old.jobs c) i)) (mid : KeepState D) (status : ℕ) (content : Option (List ℕ)) (is : IsOperated told old c i (may told old c i can has) (done.Done status content) mid) (system : System) (same : system ≡ mid.system) (before : Context) (was : before ≡ can.context) where
  pub system-is : system ≡ old.system
  system-is = same ∙ ap (λ (k : KeepState D). k.system) is.rest

  pub valid-then : IsValid old.system → IsValid system
  valid-then valid = subst IsValid (sym system-is) valid

  pub sound-then : IsSoundContext system before
  sound-then =
      subst (λ (s : System). IsSoundContext s before) (sym system-is)
      (subst (IsSoundContext old.system) (sym was) can.sound)

  pub room-then : HasRoom before
  room-then = subst HasRoom (sym was) can.room

  pub class-then : c < length mid.system.classes
  class-then = subst (λ (k : KeepState D). c < length k.system.classes) (sym is.rest) can.class

  pub busy-then : IsSome (at_process ((kept_in told mid).queues c) i)
  busy-then =
      subst (λ (k : KeepState D). IsSome (at_process ((kept_in told k).queues c) i)) (sym is.rest)
      (subst (λ (o : Option Request). IsSome o) (sym can.post) refl)

  module _ (after : Context) (takes : PutsAnswer system (answer.FileDone status content) before after) where
    made : after ≡ answered_with old.system (answer.FileDone status content) can.context
    made =
        takes-is system (answer.FileDone status content) before after sound-then takes
        ∙ (ap (λ (s : System). answered_with s (answer.FileDone status content) before) system-is
        ∙ ap (answered_with old.system (answer.FileDone status content)) was)

    pub answered-then : after.at_verb ≡ false
    answered-then =
        ap (λ (x : Context). x.at_verb) made
        ∙ done-answered old.system can.context status content can.call can.asks

    pub changed-then : (new : KeepState D) → IsChanged told (with_job c i (Some after)) mid new
        → IsChanged told (entered_file old.system c i) old new
    changed-then new next = record {
      system = next.system ∙ ap (λ (k : KeepState D). k.system) is.rest;
      kept = next.kept ∙ done-is told old c i can has mid status content after is made;
    }
