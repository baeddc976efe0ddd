use Rattle.std.proofs.Common.{refl}
use Rattle.pw_actor_queue.specs.Places.{stamped}
use Rattle.pw_actor_queue.proofs.Placing.{note-changed}
use Rattle.pw_actor_queue.proofs.roster.Roster.stamp.Goals as goal

pub returns-clause-notes : goal.returns-clause-notes
returns-clause-notes c =
    rw (← c.self.view_is) (note-changed (stamped c.args.length) c.self.inside.notes.items c.args.actor c.place_of.result c.index_mut.result.now _ c.self.invariant.size c.requires
    c.place_of.ensures.place c.place_of.ensures.within c.index_mut.ensures.value refl)
