use Rattle.std.proofs.Common.{◌<◌, ◌∙◌, ap, length}
use Rattle.pw_pair.specs.Called.{member_fails}
use Rattle.pw_world_store.specs.Keeps.{terminals_in}
use Rattle.pw_world_store.proofs.Pairing.{failed-terminals, keep-pair, pair-step, pair-there}
use Rattle.pw_world_store.proofs.keep.Keep.fail_member.Goals as goal

pub invariant_of-self : goal.invariant_of-self
invariant_of-self g c =
    let lt : c.args.tcp < length c.self.inside.pairs.items = pair-there c.args.tcp c.self.invariant (rw (← c.self.view_is) at c.requires.known) in
    keep-pair c.self.inside.system c.self.inside.seats.items (g.D.Disc.told c.self.inside.disc) c.self.inside.classes c.self.inside.jobs.items c.self.inside.pairs.items c.args.tcp c.index_mut.result.now c.fail.new.pair c.self.invariant lt c.index_mut.ensures.value
    (ap terminals_in c.fail.ensures ∙ failed-terminals c.args.primary c.index_mut.result.now)

pub returns : goal.returns
returns g c =
    let lt : c.args.tcp < length c.self.inside.pairs.items = pair-there c.args.tcp c.self.invariant (rw (← c.self.view_is) at c.requires.known) in
    rw (← c.self.view_is)
    (pair-step g.D.Disc.told (member_fails c.args.primary) (record { system = c.self.inside.system; seats = c.self.inside.seats.items; disc = c.self.inside.disc; book = c.self.inside.classes; jobs = c.self.inside.jobs.items; pairs = c.self.inside.pairs.items; births = c.self.inside.births }) c.args.tcp c.index_mut.result.now c.fail.new.pair lt c.index_mut.ensures.value c.fail.ensures)
