use Rattle.std.proofs.Common.{◌<◌, subst, length}
use Rattle.pw_world_store.specs.Keeps.{HasVerb}
use Rattle.pw_world_store.proofs.Parts.{seat-is, seat-there}
use Rattle.pw_world_store.proofs.keep.Keep.seat.Goals as goal

pub returns-clause-verb : goal.returns-clause-verb
returns-clause-verb g c =
    let t = c.args.terminal in
    let lt : t < length c.self.inside.seats.items = seat-there t c.self.invariant (rw (← c.self.view_is) at c.requires) in
    rw (← c.self.view_is)
    (subst (HasVerb c.self.inside.system) (seat-is c.self.inside.seats.items t c.index.result.now lt c.index.ensures) (c.self.invariant.verbs t))
