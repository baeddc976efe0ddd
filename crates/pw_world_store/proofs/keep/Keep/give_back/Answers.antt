use Rattle.std.proofs.Common.{◌<◌, length}
use Rattle.pw_pair.specs.Pairs.{changed_at}
use Rattle.pw_pair.specs.Seats.{built}
use Rattle.pw_world_store.proofs.Pairing.{filed-terminals, keep-pair, pair-step, pair-there}
use Rattle.pw_world_store.proofs.keep.Keep.give_back.Goals as goal

pub invariant_of-self : goal.invariant_of-self
invariant_of-self g c =
    let lt : c.args.tcp < length c.self.inside.pairs.items = pair-there c.args.tcp c.self.invariant (rw (← c.self.view_is) at c.requires.known) in
    keep-pair c.self.inside.system c.self.inside.seats.items (g.D.Disc.told c.self.inside.disc) c.self.inside.classes c.self.inside.jobs.items c.self.inside.pairs.items c.args.tcp c.index_mut.result.now c.give_back.new.self c.self.invariant lt c.index_mut.ensures.value
    (filed-terminals c.give_back.result c.args.done.task.terminal c.index_mut.result.now c.give_back.new.self c.give_back.ensures.filed c.give_back.ensures.late)

pub returns-clause-filed : goal.returns-clause-filed
returns-clause-filed g c files =
    let lt : c.args.tcp < length c.self.inside.pairs.items = pair-there c.args.tcp c.self.invariant (rw (← c.self.view_is) at c.requires.known) in
    rw (← c.self.view_is)
    (pair-step g.D.Disc.told (changed_at c.args.done.task.terminal built) (record { system = c.self.inside.system; seats = c.self.inside.seats.items; disc = c.self.inside.disc; book = c.self.inside.classes; jobs = c.self.inside.jobs.items; pairs = c.self.inside.pairs.items; births = c.self.inside.births }) c.args.tcp c.index_mut.result.now c.give_back.new.self lt c.index_mut.ensures.value (c.give_back.ensures.filed files))
