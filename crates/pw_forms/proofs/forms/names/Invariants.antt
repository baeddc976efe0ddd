use Rattle.std.proofs.Common.{◌≡◌, ◌-◌, codes}
use Rattle.pw_forms.specs.Readers.{up_to, up_to_from}
use Rattle.pw_forms.specs.Operands.{name}
use Rattle.pw_forms.proofs.forms.names.Given as goal

abbrev pub invariant-loop-turn : goal.invariant-loop-turn
invariant-loop-turn l = up_to (codes "DEPENDING") name l.initial.rest ≡ up_to_from (codes "DEPENDING") name (l._turn-end - l._turn) l.found l.rest
