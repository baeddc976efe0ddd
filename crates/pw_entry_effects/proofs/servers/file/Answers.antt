use Rattle.std.proofs.Common.{rules, subst}
use Rattle.pw_world_store.specs.Calls.{IsOperated}
use Rattle.pw_tmf.specs.declared.answer.FileAnswer.{FileAnswer}
use Rattle.pw_entry_effects.proofs.Filing.{answered-then, busy-then, changed-then, class-then, room-then, sound-then, valid-then}
use Rattle.pw_entry_effects.proofs.Serving.{barred-not, failed-is, may, short-is}
use Rattle.pw_entry_effects.proofs.servers.file.Goals as goal

pub operate-requires : goal.operate-requires
operate-requires g c =
    let h = may g.D.Disc.told c.args.keep.now c.args.class c.args.process c.requires.can c.in_ok-context.ensures.verb in
    search (rules, h)

pub answer-requires-clause-valid : goal.answer-requires-clause-valid
answer-requires-clause-valid g c =
    let may_now = may g.D.Disc.told c.args.keep.now c.args.class c.args.process c.requires.can c.in_ok-context.ensures.verb in
    let is = subst (λ (a : FileAnswer). IsOperated g.D.Disc.told c.args.keep.now c.args.class c.args.process may_now a c.operate.new.self) c.in-Done.is (c.operate.ensures may_now) in
    valid-then g.D.Disc.told c.args.keep.now c.args.class c.args.process c.requires.can c.in_ok-context.ensures.verb c.operate.new.self c.in-Done.status c.in-Done.content is c.system.result.now c.system.ensures c.in_ok-context.context (c.in_ok-context.ensures.context c.requires.can)
    c.requires.valid

pub answer-requires-clause-sound : goal.answer-requires-clause-sound
answer-requires-clause-sound g c =
    let may_now = may g.D.Disc.told c.args.keep.now c.args.class c.args.process c.requires.can c.in_ok-context.ensures.verb in
    let is = subst (λ (a : FileAnswer). IsOperated g.D.Disc.told c.args.keep.now c.args.class c.args.process may_now a c.operate.new.self) c.in-Done.is (c.operate.ensures may_now) in
    sound-then g.D.Disc.told c.args.keep.now c.args.class c.args.process c.requires.can c.in_ok-context.ensures.verb c.operate.new.self c.in-Done.status c.in-Done.content is c.system.result.now c.system.ensures c.in_ok-context.context (c.in_ok-context.ensures.context c.requires.can)

pub answer-requires-clause-room : goal.answer-requires-clause-room
answer-requires-clause-room g c =
    let may_now = may g.D.Disc.told c.args.keep.now c.args.class c.args.process c.requires.can c.in_ok-context.ensures.verb in
    let is = subst (λ (a : FileAnswer). IsOperated g.D.Disc.told c.args.keep.now c.args.class c.args.process may_now a c.operate.new.self) c.in-Done.is (c.operate.ensures may_now) in
    room-then g.D.Disc.told c.args.keep.now c.args.class c.args.process c.requires.can c.in_ok-context.ensures.verb c.operate.new.self c.in-Done.status c.in-Done.content is c.system.result.now c.system.ensures c.in_ok-context.context (c.in_ok-context.ensures.context c.requires.can)

pub answer_job-requires-clause-class : goal.answer_job-requires-clause-class
answer_job-requires-clause-class g c =
    let may_now = may g.D.Disc.told c.args.keep.now c.args.class c.args.process c.requires.can c.in_ok-context.ensures.verb in
    let is = subst (λ (a : FileAnswer). IsOperated g.D.Disc.told c.args.keep.now c.args.class c.args.process may_now a c.operate.new.self) c.in-Done.is (c.operate.ensures may_now) in
    let h =
    class-then g.D.Disc.told c.args.keep.now c.args.class c.args.process c.requires.can c.in_ok-context.ensures.verb c.operate.new.self c.in-Done.status c.in-Done.content is c.system.result.now c.system.ensures c.in_ok-context.context (c.in_ok-context.ensures.context c.requires.can) in
    search (rules, h)

pub answer_job-requires-clause-busy : goal.answer_job-requires-clause-busy
answer_job-requires-clause-busy g c =
    let may_now = may g.D.Disc.told c.args.keep.now c.args.class c.args.process c.requires.can c.in_ok-context.ensures.verb in
    let is = subst (λ (a : FileAnswer). IsOperated g.D.Disc.told c.args.keep.now c.args.class c.args.process may_now a c.operate.new.self) c.in-Done.is (c.operate.ensures may_now) in
    let h =
    busy-then g.D.Disc.told c.args.keep.now c.args.class c.args.process c.requires.can c.in_ok-context.ensures.verb c.operate.new.self c.in-Done.status c.in-Done.content is c.system.result.now c.system.ensures c.in_ok-context.context (c.in_ok-context.ensures.context c.requires.can) in
    search (rules, h)

pub answer_job-requires-clause-answered : goal.answer_job-requires-clause-answered
answer_job-requires-clause-answered g c =
    let may_now = may g.D.Disc.told c.args.keep.now c.args.class c.args.process c.requires.can c.in_ok-context.ensures.verb in
    let is = subst (λ (a : FileAnswer). IsOperated g.D.Disc.told c.args.keep.now c.args.class c.args.process may_now a c.operate.new.self) c.in-Done.is (c.operate.ensures may_now) in
    let h =
    answered-then g.D.Disc.told c.args.keep.now c.args.class c.args.process c.requires.can c.in_ok-context.ensures.verb c.operate.new.self c.in-Done.status c.in-Done.content is c.system.result.now c.system.ensures c.in_ok-context.context (c.in_ok-context.ensures.context c.requires.can)
    c.answer.new.context c.answer.ensures.takes in
    search (rules, h)

pub returns-in_ok-answer-in-Done-clause-ok : goal.returns-in_ok-answer-in-Done-clause-ok
returns-in_ok-answer-in-Done-clause-ok g c =
    let may_now = may g.D.Disc.told c.args.keep.now c.args.class c.args.process c.requires.can c.in_ok-context.ensures.verb in
    let is = subst (λ (a : FileAnswer). IsOperated g.D.Disc.told c.args.keep.now c.args.class c.args.process may_now a c.operate.new.self) c.in-Done.is (c.operate.ensures may_now) in
    changed-then g.D.Disc.told c.args.keep.now c.args.class c.args.process c.requires.can c.in_ok-context.ensures.verb c.operate.new.self c.in-Done.status c.in-Done.content is c.system.result.now c.system.ensures c.in_ok-context.context (c.in_ok-context.ensures.context c.requires.can)
    c.answer.new.context c.answer.ensures.takes c.answer_job.new.self c.answer_job.ensures

pub unreachable-requires : goal.unreachable-requires
unreachable-requires g c =
    let may_now = may g.D.Disc.told c.args.keep.now c.args.class c.args.process c.requires.can c.in_ok-context.ensures.verb in
    barred-not g.D.Disc.told c.args.keep.now c.args.class c.args.process c.requires.can c.in_ok-context.ensures.verb c.operate.new.self c.in-Conflict.field-0
    (subst (λ (a : FileAnswer). IsOperated g.D.Disc.told c.args.keep.now c.args.class c.args.process may_now a c.operate.new.self) c.in-Conflict.is (c.operate.ensures may_now))

pub returns-in-Failed-clause-err : goal.returns-in-Failed-clause-err
returns-in-Failed-clause-err g c =
    let may_now = may g.D.Disc.told c.args.keep.now c.args.class c.args.process c.requires.can c.in_ok-context.ensures.verb in
    failed-is g.D.Disc.told c.args.keep.now c.args.class c.args.process c.requires.can c.in_ok-context.ensures.verb c.operate.new.self
    (subst (λ (a : FileAnswer). IsOperated g.D.Disc.told c.args.keep.now c.args.class c.args.process may_now a c.operate.new.self) c.in-Failed.is (c.operate.ensures may_now))

pub returns-in-Memory-clause-err : goal.returns-in-Memory-clause-err
returns-in-Memory-clause-err g c =
    let may_now = may g.D.Disc.told c.args.keep.now c.args.class c.args.process c.requires.can c.in_ok-context.ensures.verb in
    short-is g.D.Disc.told c.args.keep.now c.args.class c.args.process c.requires.can c.in_ok-context.ensures.verb c.operate.new.self
    (subst (λ (a : FileAnswer). IsOperated g.D.Disc.told c.args.keep.now c.args.class c.args.process may_now a c.operate.new.self) c.in-Memory.is (c.operate.ensures may_now))
