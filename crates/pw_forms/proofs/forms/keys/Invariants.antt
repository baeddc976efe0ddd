use Rattle.std.proofs.Common.{◌≡◌, ◌-◌}
use Rattle.pw_forms.specs.Readers.{some, some_from}
use Rattle.pw_forms.specs.Operands.{key}
use Rattle.pw_forms.proofs.forms.keys.Given as goal

abbrev pub invariant-loop-turn : goal.invariant-loop-turn
invariant-loop-turn l = some key l.initial.rest ≡ some_from key (l._turn-end - l._turn) l.found l.rest
