-- The copy of the work that was given is as sound as that, and what it ran on to is what that runs on to.
use Rattle.std.proofs.Common.{sym, subst}
use Rattle.pw_code_meaning.specs.Contexts.{RunsOn}
use Rattle.pw_code_meaning.specs.Sound.{IsSoundContext}
use Rattle.pw_world.proofs.task.run_task.Goals as goal

pub verb-requires-clause-sound : goal.verb-requires-clause-sound
verb-requires-clause-sound c = subst (IsSoundContext c.args.system.now) (sym c.in_ok-work.ensures) (c.requires.sound c.in-Some.given c.in-Some.is)

pub invariant_of-result-2 : goal.invariant_of-result-2
invariant_of-result-2 c =
    let verb = c.in_ok-verb.verb in
    let work = c.verb.new.context in
    let given = subst (λ g. RunsOn c.args.system.now g work verb) c.in_ok-work.ensures c.in_ok-verb.ensures.runs in
    record { ran = ∣ subst (λ s. RunsOn s c.in-Some.given work verb) (sym c.of-over.ensures) given ∣₁ }
