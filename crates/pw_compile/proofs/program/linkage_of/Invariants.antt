-- The items so far are those of the names so far.
use Rattle.std.proofs.Common.{◌≡◌, take}
use Rattle.std.specs.Prelude.{map}
use Rattle.pw_data.specs.Layouts.{place_of}
use Rattle.pw_compile.specs.Programs.{linked_by}
use Rattle.pw_compile.proofs.program.linkage_of.Given as goal

abbrev pub invariant-loop-name : goal.invariant-loop-name
invariant-loop-name l = l.linkage ≡ map (λ name. linked_by (place_of l.layout name)) (take l.name-index l.names)
