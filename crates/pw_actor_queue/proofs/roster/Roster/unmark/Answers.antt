use Rattle.std.proofs.Common.{false, refl}
use Rattle.pw_actor_queue.specs.Places.{with_mark}
use Rattle.pw_actor_queue.proofs.Placing.{fewer-wait, note-changed}
use Rattle.pw_actor_queue.proofs.roster.Roster.unmark.Goals as goal

pub returns-clause-notes : goal.returns-clause-notes
returns-clause-notes c =
    rw (← c.self.view_is) (note-changed (with_mark false) c.self.inside.notes.items c.args.actor c.place_of.result c.index_mut.result.now _ c.self.invariant.size c.requires
    c.place_of.ensures.place c.place_of.ensures.within c.index_mut.ensures.value refl)

pub returns-clause-fewer : goal.returns-clause-fewer
returns-clause-fewer c =
    rw (← c.self.view_is) (λ waits.
    fewer-wait c.self.inside.notes.items c.args.actor c.place_of.result _ c.self.invariant.size c.requires
    c.place_of.ensures.place c.place_of.ensures.within refl waits)
