use Rattle.std.proofs.Common.{◌≡◌, ◌-◌, codes}
use Rattle.pw_forms.specs.Readers.{separated, separated_from}
use Rattle.pw_forms.specs.Conditions.{all}
use Rattle.pw_forms.proofs.conditions.any.Given as goal

abbrev pub invariant-loop-turn : goal.invariant-loop-turn
invariant-loop-turn l = separated (codes "OR") all l.initial.rest ≡ separated_from (codes "OR") all (l._turn-end - l._turn) l.found l.rest
