-- FILE, and REPLY with either outcome, where the server stands at such a verb, and else no step.
use Rattle.std.proofs.Common.{None, Some, ap, refl, ◌∙◌}
use Rattle.std.proofs.lemmas.Bool.{eq-eqb}
use Rattle.pw_world_store.specs.Keeps.{kept_in}
use Rattle.pw_laws.specs.legal.Verbs.{replies}
use Rattle.pw_entry_tests.proofs.Found.{found-of-process}
use Rattle.pw_entry_tests.proofs.Working.{no-step-other, process-of, reply-step}
use Rattle.pw_entry_tests.proofs.works.step_at.Goals as goal

pub returns-in-Reply : goal.returns-in-Reply
returns-in-Reply g c =
    let system = c.args.keep.now.system in
    let kept = kept_in g.D.Disc.told c.args.keep.now in
    let there = process-of system c.args.class c.args.process c.requires.actor in
    found-of-process system kept c.args.class c.args.process _
    (reply-step system kept c.args.class c.args.process c.args.request.now c.args.verb.now c.requires.works c.requires.stands there None
    (ap (λ w. replies w None) c.in-Reply.is))

pub returns-in-Fault : goal.returns-in-Fault
returns-in-Fault g c =
    let system = c.args.keep.now.system in
    let kept = kept_in g.D.Disc.told c.args.keep.now in
    let code = c.in-Fault.code in
    let there = process-of system c.args.class c.args.process c.requires.actor in
    found-of-process system kept c.args.class c.args.process _
    (reply-step system kept c.args.class c.args.process c.args.request.now c.args.verb.now c.requires.works c.requires.stands there (Some code)
    (ap (λ w. replies w (Some code)) c.in-Fault.is ∙ eq-eqb code code refl))

pub returns-in_default : goal.returns-in_default
returns-in_default g c =
    no-step-other c.args.keep.now.system (kept_in g.D.Disc.told c.args.keep.now) c.args.class c.args.process c.args.request.now
    c.args.verb.now c.requires.works c.requires.stands c.in_default.not-File c.in_default.not-Reply c.in_default.not-Fault
