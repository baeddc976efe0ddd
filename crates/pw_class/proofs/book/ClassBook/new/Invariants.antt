use Rattle.std.proofs.Common.{◌≡◌, map, take}
use Rattle.pw_class.specs.Book.{first_queue}
use Rattle.pw_class.proofs.book.ClassBook.new.Given as goal

abbrev pub invariant-loop-class : goal.invariant-loop-class
invariant-loop-class l = l.classes.items ≡ map first_queue (take l.class-index l.system.classes)
