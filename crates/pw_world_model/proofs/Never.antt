-- What came of a claimed task is not Unrun.
use Rattle.std.proofs.Common.{◌≡◌, List, Some, true, sym, ap, subst, ◌∙◌, ⊎_elim}
use Rattle.std.specs.Prelude.{Ok}
use Rattle.pw_world_model.specs.Answers.{AnswersApply, Claims, IsUnrun, IsWork, with_out}
use Rattle.pw_world_model.specs.Seen.{Seen, sys_of, work_of}
use Rattle.pw_world_model.specs.Stamps.{IsStamp}
use Rattle.pw_world_model.specs.declared.answers.Applied.TheVariants as applied
use Rattle.pw_world_model.specs.declared.answers.Claim.TheVariants as claim
use Rattle.pw_world_model.specs.declared.task.Outcome.{Outcome}
use Rattle.pw_world_model.specs.declared.task.Task.{Task}
use Rattle.pw_world_model.proofs.SameWork.{out-so}
use Rattle.pw_world_model.specs.Between.{AreCalls, HasBooks, IsOfTask}
use Rattle.pw_world_model.proofs.Following.{Follows, all-called}

pub never-unrun : (world claimed last : Seen) (between : List Seen) (task : Task) (outcome : Outcome) → HasBooks world → Claims world (Ok (claim.Work task)) claimed
    → AreCalls claimed between last → IsOfTask task outcome → ¬ AnswersApply last outcome applied.Unrun
never-unrun world claimed last between task outcome has claims calls made unrun = ⊎_elim
    (λ same. refused.other (made.given ∙ (was.work ∙ (sym same ∙ work))))
    (λ none. absurd (cc (none, work)))
    (follows.work task.stamp was.stamp.within fresh)
  where
    was : IsWork world task
    was = claims.1.0

    behind : Seen
    behind = with_out task.actor true world

    follows : Follows task.actor behind last
    follows = all-called task.actor behind has.0 (out-so world has.0 has.1 behind.out) was.actor between last (subst (λ x. AreCalls x between last) claims.1.1 calls)

    fresh : IsStamp (sys_of last) last.log task.actor task.stamp
    fresh = subst (λ n. IsStamp (sys_of last) last.log task.actor n) made.stamp (subst (λ x. IsStamp (sys_of last) last.log x outcome.stamp) made.actor unrun.1.1.0)

    refused : IsUnrun last outcome
    refused = unrun.1.1.1

    work : work_of last task.actor ≡ Some refused.context
    work = ap (work_of last) (sym made.actor) ∙ refused.work
