use Rattle.std.proofs.Common.{false, refl}
use Rattle.pw_world.proofs.Starting.{monitor-first, new-first}
use Rattle.pw_world.specs.States.{WorldState}
use Rattle.pw_world.proofs.world.World.new.Goals as goal

pub invariant_of-result : goal.invariant_of-result
invariant_of-result g c =
    let w : WorldState g.row.D.Denot = record { keep = c.in_ok-keep.keep; first = c.of-first.result.value; script = c.args.script.lines; limit = c.args.limit; failed = false; ledger = c.in_ok-ledger.ledger } in
    monitor-first g.D.Disc.told w c.args.system c.args.disc c.in_ok-keep.ensures.system c.in_ok-keep.ensures.kept c.of-first.ensures refl
    c.in_ok-ledger.ensures c.requires.valid c.requires.deck c.requires.limit c.requires.lines c.requires.few c.requires.disc

pub returns : goal.returns
returns g c =
    let w : WorldState g.row.D.Denot = record { keep = c.in_ok-keep.keep; first = c.of-first.result.value; script = c.args.script.lines; limit = c.args.limit; failed = false; ledger = c.in_ok-ledger.ledger } in
    new-first g.D.Disc.told w c.args.system c.args.disc c.in_ok-keep.ensures.system c.in_ok-keep.ensures.kept c.of-first.ensures refl c.in_ok-ledger.ensures
