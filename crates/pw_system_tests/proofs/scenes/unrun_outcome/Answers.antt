use Rattle.std.proofs.Common.{◌≡◌, ◌<◌, ap, arith, length, subst, sym}
use Rattle.std.specs.Result.{IfOk}
use Rattle.pw_actor_queue.specs.declared.actor.Actor.{Actor}
use Rattle.pw_actor_queue.specs.declared.actor.Actor.TheVariants.{Terminal}
use Rattle.pw_base.specs.declared.memory.Memory.{Memory}
use Rattle.pw_code.specs.declared.system.System.{System}
use Rattle.pw_world_model.specs.Actors.{IsActor}
use Rattle.pw_world_model.specs.declared.task.Outcome.{Outcome}
use Rattle.std.specs.Prelude.{Result}
use Rattle.pw_system_tests.proofs.scenes.unrun_outcome.Goals as goal

pub apply-requires-clause-actor : goal.apply-requires-clause-actor
apply-requires-clause-actor g c κs =
    let outcome = c.expect-outcome.result in
    let own : outcome.actor ≡ Terminal 0 =
    subst (λ (r : Result Outcome Memory). IfOk r (λ (o : Outcome). o.actor ≡ Terminal 0)) c.expect-outcome.ensures c.run_task.ensures.actor in
    let same = ap (λ (s : System). length s.terminals) c.system.ensures.system in
    let count = c.len-terminals.ensures in
    let some = c.if-terminals-eq0.false in
    let there : 0 < length c.in_ok-world.world.keep.system.terminals = omega (arith, same, count, some) in
    subst (IsActor c.in_ok-world.world.keep.system) (sym own) there
