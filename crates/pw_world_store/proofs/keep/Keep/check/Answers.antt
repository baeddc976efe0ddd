use Rattle.std.proofs.Common.{◌<◌, ◌∙◌, ap, refl, length}
use Rattle.pw_pair.specs.Pairs.{after_send}
use Rattle.pw_pair.specs.Seats.{with_message}
use Rattle.pw_world_store.specs.Keeps.{terminals_in}
use Rattle.pw_world_store.proofs.Pairing.{keep-pair, pair-step, pair-there, terminals-at}
use Rattle.pw_world_store.proofs.keep.Keep.check.Goals as goal

pub invariant_of-self-2 : goal.invariant_of-self-2
invariant_of-self-2 g c =
    let lt : c.args.tcp < length c.self.inside.pairs.items = pair-there c.args.tcp c.self.invariant (rw (← c.self.view_is) at c.requires.known) in
    keep-pair c.self.inside.system c.self.inside.seats.items (g.D.Disc.told c.self.inside.disc) c.self.inside.classes c.self.inside.jobs.items c.self.inside.pairs.items c.args.tcp c.index_mut.result.now c.send.new.self c.self.invariant lt c.index_mut.ensures.value
    (ap terminals_in c.in_ok-send.ensures.ok ∙ terminals-at c.args.message.terminal (with_message c.args.message.kind c.args.message.unit c.args.message.image) (λ s. refl) c.index_mut.result.now)

pub returns-clause-ok : goal.returns-clause-ok
returns-clause-ok g c =
    let lt : c.args.tcp < length c.self.inside.pairs.items = pair-there c.args.tcp c.self.invariant (rw (← c.self.view_is) at c.requires.known) in
    rw (← c.self.view_is)
    (pair-step g.D.Disc.told (after_send c.args.message) (record { system = c.self.inside.system; seats = c.self.inside.seats.items; disc = c.self.inside.disc; book = c.self.inside.classes; jobs = c.self.inside.jobs.items; pairs = c.self.inside.pairs.items; births = c.self.inside.births }) c.args.tcp c.index_mut.result.now c.send.new.self lt c.index_mut.ensures.value c.in_ok-send.ensures.ok)
