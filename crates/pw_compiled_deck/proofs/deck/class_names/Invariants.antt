use Rattle.std.proofs.Common.{◌≡◌, map, take}
use Rattle.pw_compiled_deck.proofs.deck.class_names.Given as goal

abbrev pub invariant-loop-class : goal.invariant-loop-class
invariant-loop-class l = l.names ≡ map (λ class. class.name) (take l.class-index l.classes)
