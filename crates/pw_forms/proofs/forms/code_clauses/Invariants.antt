use Rattle.std.proofs.Common.{◌≡◌, ◌-◌}
use Rattle.pw_forms.specs.Readers.{some, some_from}
use Rattle.pw_forms.specs.Forms.{code_clause}
use Rattle.pw_forms.proofs.forms.code_clauses.Given as goal

abbrev pub invariant-loop-turn : goal.invariant-loop-turn
invariant-loop-turn l = some code_clause l.initial.rest ≡ some_from code_clause (l._turn-end - l._turn) l.found l.rest
