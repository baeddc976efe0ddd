use Rattle.std.proofs.Common.{◌∙◌, ap, sym}
use Rattle.pw_pair.specs.Pairs.{changed_at}
use Rattle.pw_pair.specs.Seats.{built}
use Rattle.pw_world.proofs.Filing.{built-monitor, built-seen, marked-monitor, marked-seen}
use Rattle.pw_world.proofs.Lending.{first-task}
use Rattle.pw_world.specs.States.{WorldState, seen}
use Rattle.pw_world_state.specs.Changes.{at_pair}
use Rattle.pw_world_model.specs.Calls.{lent}
use Rattle.pw_world.proofs.world.World.build_first.Goals as goal

pub invariant_of-self-2 : goal.invariant_of-self-2
invariant_of-self-2 g c =
    let w : WorldState g.row.D.Denot = record { keep = c.self.inside.keep; first = c.self.inside.first.value; script = c.self.inside.script.lines; limit = c.self.inside.limit; failed = c.self.inside.failed; ledger = c.self.inside.ledger } in
    let k = c.build_here.new.self in
    marked-monitor g.D.Disc.told (record w { keep = k }) c.wake.new.self
    (built-monitor g.D.Disc.told w k c.args.tcp c.in-Some.terminal c.in_ok-build_here.ensures.ok c.self.invariant)
    c.wake.ensures.rest c.wake.ensures.notes

pub returns-clause-built : goal.returns-clause-built
returns-clause-built g c =
    let w : WorldState g.row.D.Denot = record { keep = c.self.inside.keep; first = c.self.inside.first.value; script = c.self.inside.script.lines; limit = c.self.inside.limit; failed = c.self.inside.failed; ledger = c.self.inside.ledger } in
    let k = c.build_here.new.self in
    let p = c.args.tcp in
    let t = c.in-Some.terminal in
    let it = first-task c.pair.result.now.seats t c.in-Some.ensures.first in
    let lends = ap lent (sym c.pair.ensures.pair) ∙ it.1.0 in
    let is = marked-seen g.D.Disc.told (record w { keep = k }) c.wake.new.self c.wake.ensures.rest c.wake.ensures.notes
    ∙ built-seen g.D.Disc.told w k p t c.in_ok-build_here.ensures.ok
    ∙ ap (λ n. record (seen g.D.Disc.told w) { kept = at_pair p (changed_at n built) (seen g.D.Disc.told w).kept }) (sym it.1.1) in
    rw (← c.self.view_is) (it.0, (lends, is))
