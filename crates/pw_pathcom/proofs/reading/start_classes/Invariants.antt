use Rattle.std.proofs.Common.{◌≡◌, ◌++◌, map, take, drop}
use Rattle.pw_pathcom.specs.Reading.{start_class}
use Rattle.pw_pathcom.proofs.reading.start_classes.Given as goal

abbrev pub invariant-loop-class : goal.invariant-loop-class
invariant-loop-class l =
    l.class-items ≡ map (start_class l.line l.name) (take l.class-index l.initial.class-items) ++ drop l.class-index l.initial.class-items
