use Rattle.std.proofs.Common.{◌<◌, ap, ◌∙◌, arith}
use Rattle.std.specs.Map.{values_of}
use Rattle.pw_locks.proofs.Registers.{below-last, insert_last, values-last}
use Rattle.pw_locks.proofs.storing.store.Goals as goal

pub returns-in-Err-clause-registered : goal.returns-in-Err-clause-registered
returns-in-Err-clause-registered c = record {
  ordered = c.requires.registered.ordered;
  entered = λ n held is.
      let below : n < c.args.number = below-last c.args.locks.now.entries n held c.args.number c.requires.last is in
      c.strike.ensures n held (omega arith) (c.enter.ensures.stays n held (c.requires.registered.entered n held is));
}

pub returns-in-Ok-clause-ok : goal.returns-in-Ok-clause-ok
returns-in-Ok-clause-ok c =
    ap values_of (c.in-Ok.ensures.entries ∙ insert_last c.args.locks.now.entries c.args.number c.args.lock c.requires.last)
    ∙ values-last c.args.locks.now.entries c.args.number c.args.lock
