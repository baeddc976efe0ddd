use Rattle.std.proofs.Common.{arith, length, take}
use Rattle.std.proofs.lemmas.List.{length-map, length-take}
use Rattle.pw_class.proofs.Noting.{first-out}
use Rattle.pw_class.proofs.book.ClassBook.new.Goals as goal

pub invariant_of-result : goal.invariant_of-result
invariant_of-result c = record {
  few = rw (c.loop-class.invariant, length-map, length-take) (grind (arith, c.requires.few.classes));
  noted = λ terminal. rw (c.loop-class.invariant, c.new-2.ensures) (first-out terminal (take c.loop-class.class-index c.args.system.now.classes));
}
