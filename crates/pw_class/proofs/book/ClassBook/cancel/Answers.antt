use Rattle.std.proofs.Common.{◌<◌, ◌≡◌, sym, subst, ap, refl}
use Rattle.std.proofs.lemmas.List.{length-set, length-map}
use Rattle.pw_class.proofs.Moves.{noted-cancel}
use Rattle.pw_class.proofs.book.ClassBook.cancel.Goals as goal

pub invariant_of-self : goal.invariant_of-self
invariant_of-self c = record {
  few = rw (c.cancel_all.ensures, length-map) c.self.invariant.few;
  noted =
      rw (c.cancel_all.ensures)
      (noted-cancel c.self.inside.classes.items c.self.inside.places c.clear.new.self c.args.terminal c.self.invariant.noted c.clear.ensures.others c.clear.ensures.here);
}
