-- What is left decides.
use Rattle.std.proofs.Common.{◌≡◌, map, drop}
use Rattle.std.specs.Prelude.{is_some}
use Rattle.pw_code_meaning.specs.Reading.{spots_of}
use Rattle.pw_machine.specs.Views.{registers_by}
use Rattle.pw_machine.proofs.asks.are_inside.Given as goal

abbrev pub invariant-loop-code : goal.invariant-loop-code
invariant-loop-code l =
    is_some (spots_of (registers_by l.registers) l.storage (map (λ code. code.yields) (drop l.code-index l.codes)))
    ≡ is_some (spots_of (registers_by l.registers) l.storage (map (λ code. code.yields) l.codes))
