use Rattle.std.proofs.Common.{◌≡◌, ◌-◌, codes}
use Rattle.pw_forms.specs.Readers.{separated, separated_from}
use Rattle.pw_forms.specs.Conditions.{comparison}
use Rattle.pw_forms.proofs.conditions.all.Given as goal

abbrev pub invariant-loop-turn : goal.invariant-loop-turn
invariant-loop-turn l = separated (codes "AND") comparison l.initial.rest ≡ separated_from (codes "AND") comparison (l._turn-end - l._turn) l.found l.rest
