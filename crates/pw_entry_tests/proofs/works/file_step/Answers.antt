-- What is foreseen for the request is its step, or that it has none.
use Rattle.std.proofs.Common.{◌≡◌, Some, ap, subst, subst₂, sym, ◌∙◌}
use Rattle.pw_code.specs.Locks.{mode_of}
use Rattle.pw_code.specs.declared.system.System.{System}
use Rattle.pw_event.specs.declared.event.Event.TheVariants.{File}
use Rattle.pw_world_store.specs.Keeps.{kept_in}
use Rattle.pw_world_state.specs.Changes.{unit_at}
use Rattle.pw_actor_queue.specs.declared.actor.Actor.TheVariants.{Process}
use Rattle.pw_entry_tests.proofs.Found.{found-of-process}
use Rattle.pw_entry_tests.proofs.Working.{file-step, no-step-conflict, process-of}
use Rattle.pw_entry_tests.specs.Steps.{IsStepFound}
use Rattle.pw_tmf.specs.Answers.{Foresees}
use Rattle.pw_entry_tests.proofs.works.file_step.Goals as goal

pub foresee_for-requires-clause-runs : goal.foresee_for-requires-clause-runs
foresee_for-requires-clause-runs g c κs within =
    c.requires.known.works c.args.class c.args.process c.args.request.now c.requires.asks.works

pub foresee_for-requires-clause-call : goal.foresee_for-requires-clause-call
foresee_for-requires-clause-call g c κs within =
    let stands = c.requires.asks.stands in
    c.requires.known.calls c.args.class c.args.process stands.context c.args.call.now stands.job stands.at_verb stands.asks

pub returns-in-Conflict : goal.returns-in-Conflict
returns-in-Conflict g c =
    let kept = kept_in g.D.Disc.told c.args.keep.now in
    no-step-conflict c.args.keep.now.system kept c.args.class c.args.process c.args.request.now
    c.args.call.now c.requires.asks.works c.requires.asks.stands c.in-Conflict.field-0
    (subst (λ found. Foresees found kept.disc (unit_at kept c.args.request.now.terminal c.args.request.now.unit) c.args.call.now) c.in-Conflict.is
    c.in_ok-foreseen.ensures)

pub returns-in-Done : goal.returns-in-Done
returns-in-Done g c =
    let system = c.args.keep.now.system in
    let kept = kept_in g.D.Disc.told c.args.keep.now in
    let call = c.args.call.now in
    let status = c.in-Done.status in
    let mode_is : c.mode_of.result ≡ mode_of kept.disc.rule call.op =
    c.mode_of.ensures ∙ ap (λ rule. mode_of rule call.op) (ap (λ (s : System). s.rule) c.system.ensures ∙ sym c.requires.known.rule)
    in
    subst₂
    (λ op mode. IsStepFound system kept (Process c.args.class c.args.process) (Some (File c.args.class c.args.process op mode call.file status)))
    (sym c.plain.ensures) (sym mode_is)
    (found-of-process system kept c.args.class c.args.process _
    (file-step system kept c.args.class c.args.process c.args.request.now call c.requires.asks.works c.requires.asks.stands
    (process-of system c.args.class c.args.process c.requires.actor) status
    (subst (λ found. Foresees found kept.disc (unit_at kept c.args.request.now.terminal c.args.request.now.unit) call) c.in-Done.is
    c.in_ok-foreseen.ensures)))
