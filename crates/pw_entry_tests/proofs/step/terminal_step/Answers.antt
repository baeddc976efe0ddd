-- An entry at the verb is a step, and so is END LOST; where there is neither, what is caused is all.
use Rattle.std.proofs.Common.{subst, sym, ◌∙◌}
use Rattle.std.proofs.lemmas.Result.{IfOk-weaker}
use Rattle.pw_world_store.specs.Keeps.{kept_in}
use Rattle.pw_actor_queue.specs.declared.actor.Actor.TheVariants.{Terminal}
use Rattle.pw_entry_tests.proofs.Forced.{forced}
use Rattle.pw_entry_tests.proofs.Found.{none-if}
use Rattle.pw_entry_tests.specs.Steps.{HasNoCausedStep, IsFoundOr, IsStepFound}
use Rattle.pw_world_state.specs.NextSteps.{HasNoVerbStep}
use Rattle.pw_entry_tests.proofs.step.terminal_step.Goals as goal

pub returns : goal.returns
returns g c =
    let system = c.args.keep.now.system in
    let kept = kept_in g.D.Disc.told c.args.keep.now in
    let t = c.args.terminal in
    let none : HasNoVerbStep system kept t =
    subst (IsFoundOr system kept t (HasNoVerbStep system kept t)) (none-if c.own_step.result c.in_default.not-Some) c.own_step.ensures.found
    in
    IfOk-weaker c.caused_step.result (IsFoundOr system kept t (HasNoCausedStep system kept t)) (IsStepFound system kept (Terminal t))
    (λ entry h. forced system kept t none (sym c.may_lose.ensures ∙ c.if-may_lose.false) entry h) c.caused_step.ensures
