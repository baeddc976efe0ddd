use Rattle.std.proofs.Common.{◌≡◌, ◌∙◌, None, inr, subst, sym}
use Rattle.pw_base.proofs.Plain.{is_some-None}
use Rattle.pw_workers.specs.Claims.{IsClaimed}
use Rattle.pw_workers.specs.declared.turn.WorkerTurn.{WorkerTurn}
use Rattle.pw_workers.proofs.shared.Shared.has_ready.Goals as goal

pub returns : goal.returns
returns g c =
    let old = c.args.self.now in
    let told = g.D.Disc.told in
    let none : old.ready ≡ None = is_some-None old.ready (sym c.is_ready.ensures ∙ c.if-is_ready.false) in
    inr (
      none,
      record {
        task = c.in-Run.task;
        claimed = c.claim.new.self;
        claims = subst (λ (turn : WorkerTurn). IsClaimed told old turn c.claim.new.self) c.in-Run.is c.claim.ensures.claims;
        ready = c.keep_ready.ensures;
      },
    )
