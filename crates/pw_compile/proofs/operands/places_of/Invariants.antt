-- The places so far are those of the operands so far.
use Rattle.std.proofs.Common.{◌≡◌, take}
use Rattle.std.specs.Prelude.{map}
use Rattle.pw_compile.specs.Operands.{place_in}
use Rattle.pw_compile.proofs.operands.places_of.Given as goal

abbrev pub invariant-loop-operand : goal.invariant-loop-operand
invariant-loop-operand l = l.places ≡ map (place_in l.layout) (take l.operand-index l.operands)
