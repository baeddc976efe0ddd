use Rattle.std.proofs.Common.{◌<◌, ◌≡◌, ◌∙◌, sym, subst, ap, refl}
use Rattle.std.proofs.lemmas.List.{length-set, length-map}
use Rattle.pw_class.proofs.Moves.{noted-take, room-taken}
use Rattle.pw_class.proofs.book.ClassBook.take.Goals as goal

pub set-requires : goal.set-requires
set-requires c = record { room = room-taken c.self.inside.classes.items c.self.inside.places c.args.class c.in-Got.process c.in-Got.request (sym c.take_next-taken.ensures.answer ∙ c.in-Got.is) c.self.invariant.noted }

pub invariant_of-self : goal.invariant_of-self
invariant_of-self c = record {
  few = rw (c.take_next-taken.ensures.after, length-set) c.self.invariant.few;
  noted =
      rw (c.take_next-taken.ensures.after)
      (noted-take c.self.inside.classes.items c.self.inside.places c.set.new.self c.args.class c.in-Got.process c.in-Got.request (sym c.take_next-taken.ensures.answer ∙ c.in-Got.is) c.self.invariant.noted
      c.set.ensures.others c.set.ensures.here);
}
