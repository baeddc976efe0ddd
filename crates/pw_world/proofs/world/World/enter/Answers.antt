use Rattle.std.proofs.Common.{subst, sym}
use Rattle.pw_world.proofs.Entering.{leaves-done, leaves-failed, leaves-memory, leaves-none, works-done, works-failed, works-on}
use Rattle.pw_world.specs.Applying.{IsUnpushed}
use Rattle.pw_world.specs.Ledgers.{books_of}
use Rattle.pw_world.specs.Running.{HasRunOn}
use Rattle.pw_world.specs.States.{seen}
use Rattle.pw_world.proofs.world.World.enter.Goals as goal

pub returns-in-Ok-false-clause-leaves : goal.returns-in-Ok-false-clause-leaves
returns-in-Ok-false-clause-leaves g c =
    leaves-none (seen g.D.Disc.told c.args.self.now)
    (seen g.D.Disc.told c.is_step.new.self) c.args.event.now c.is_step.ensures.ran

pub returns-in-Err-clause-leaves : goal.returns-in-Err-clause-leaves
returns-in-Err-clause-leaves g c =
    leaves-memory (seen g.D.Disc.told c.args.self.now)
    (seen g.D.Disc.told c.is_step.new.self) c.args.event.now c.is_step.ensures.ran

pub returns-in-Ok-clause-leaves : goal.returns-in-Ok-clause-leaves
returns-in-Ok-clause-leaves g c =
    leaves-done (seen g.D.Disc.told c.args.self.now) (seen g.D.Disc.told c.is_step.new.self)
    (seen g.D.Disc.told c.push.new.self) c.args.event.now c.is_step.ensures.ran
    c.in-Ok.ensures.ok

pub returns-in-Err-Failed-clause-leaves : goal.returns-in-Err-Failed-clause-leaves
returns-in-Err-Failed-clause-leaves g c =
    let mid = seen g.D.Disc.told c.is_step.new.self in
    let new = seen g.D.Disc.told c.push.new.self in
    leaves-failed (seen g.D.Disc.told c.args.self.now) mid new c.args.event.now c.is_step.ensures.ran
    (subst (λ f. IsUnpushed f mid new) c.in-Err-Failed.field-0-is c.in-Err-Failed.ensures.err)

pub returns-in-Err-Memory-clause-leaves : goal.returns-in-Err-Memory-clause-leaves
returns-in-Err-Memory-clause-leaves g c =
    let old = seen g.D.Disc.told c.args.self.now in
    let mid = seen g.D.Disc.told c.is_step.new.self in
    let new = seen g.D.Disc.told c.push.new.self in
    leaves-memory old new c.args.event.now
    (subst (HasRunOn old)
    (sym (subst (λ f. IsUnpushed f mid new) c.in-Err-Memory.field-0-is c.in-Err-Memory.ensures.err))
    c.is_step.ensures.ran)

pub returns-in-Ok-false-clause-works : goal.returns-in-Ok-false-clause-works
returns-in-Ok-false-clause-works g c =
    works-on (seen g.D.Disc.told c.args.self.now) (seen g.D.Disc.told c.is_step.new.self) c.is_step.ensures.ran

pub returns-in-Err-clause-works : goal.returns-in-Err-clause-works
returns-in-Err-clause-works g c =
    works-on (seen g.D.Disc.told c.args.self.now) (seen g.D.Disc.told c.is_step.new.self) c.is_step.ensures.ran

pub returns-in-Ok-clause-works : goal.returns-in-Ok-clause-works
returns-in-Ok-clause-works g c =
    works-done (seen g.D.Disc.told c.args.self.now) (seen g.D.Disc.told c.is_step.new.self)
    (seen g.D.Disc.told c.push.new.self) (books_of c.is_step.new.self.ledger) c.args.event.now
    c.is_step.ensures.ran c.holds.ensures
    (c.in-Ok-true.ensures.can c.in-Ok-true.field-0-test).legal c.in-Ok.ensures.ok

pub returns-in-Err-Failed-clause-works : goal.returns-in-Err-Failed-clause-works
returns-in-Err-Failed-clause-works g c =
    let mid = seen g.D.Disc.told c.is_step.new.self in
    let new = seen g.D.Disc.told c.push.new.self in
    works-failed (seen g.D.Disc.told c.args.self.now) mid new c.is_step.ensures.ran
    (subst (λ f. IsUnpushed f mid new) c.in-Err-Failed.field-0-is c.in-Err-Failed.ensures.err)

pub returns-in-Err-Memory-clause-works : goal.returns-in-Err-Memory-clause-works
returns-in-Err-Memory-clause-works g c =
    let old = seen g.D.Disc.told c.args.self.now in
    let mid = seen g.D.Disc.told c.is_step.new.self in
    let new = seen g.D.Disc.told c.push.new.self in
    works-on old new
    (subst (HasRunOn old)
    (sym (subst (λ f. IsUnpushed f mid new) c.in-Err-Memory.field-0-is c.in-Err-Memory.ensures.err))
    c.is_step.ensures.ran)
