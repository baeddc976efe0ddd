use Rattle.std.proofs.Common.{◌≡◌, drop}
use Rattle.std.specs.Prelude.{flat_map}
use Rattle.pw_base.specs.First.{least}
use Rattle.pw_pathcom.specs.Objects.{unknown_class}
use Rattle.pw_pathcom.proofs.objects.noted_classes.Given as goal

abbrev pub invariant-loop-class : goal.invariant-loop-class
invariant-loop-class l =
    least l.best (flat_map (unknown_class l.servers) (drop l.class-index l.class-items))
    ≡ least l.fn.known (flat_map (unknown_class l.servers) l.class-items)
