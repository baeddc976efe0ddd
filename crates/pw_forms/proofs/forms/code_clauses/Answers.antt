use Rattle.std.proofs.Common.{rules, arith}
use Rattle.std.proofs.lemmas.Grind.{common_steps}
use Rattle.pw_forms.specs.Readers.{some_from}
use Rattle.pw_forms.specs.Forms.{code_clause}
use Rattle.pw_forms.proofs.Turns.{one_more, no_more}
use Rattle.pw_forms.proofs.forms.code_clauses.Goals as goal

pub returns-in_err-code_clause : goal.returns-in_err-code_clause
unfolding some_from
returns-in_err-code_clause c =
    let e = one_more (λ n. some_from code_clause n c.loop-turn.found c.loop-turn.rest) _ c.loop-turn._turn c.loop-turn-test.true c.loop-turn.invariant in
    first_of (search rules, grind (arith, common_steps))

pub returns-then-is_done : goal.returns-then-is_done
unfolding some_from
returns-then-is_done c =
    let e = one_more (λ n. some_from code_clause n c.loop-turn.found c.loop-turn.rest) _ c.loop-turn._turn c.loop-turn-test.true c.loop-turn.invariant in
    first_of (search rules, grind (arith, common_steps))

pub loop-turn-preserved : goal.loop-turn-preserved
unfolding some_from
loop-turn-preserved c =
    let e = one_more (λ n. some_from code_clause n c.loop-turn.found c.loop-turn.rest) _ c.loop-turn._turn c.loop-turn-test.true c.loop-turn.invariant in
    first_of (search rules, grind (arith, common_steps))

pub returns : goal.returns
unfolding some_from
returns c =
    let e = no_more (λ n. some_from code_clause n c.loop-turn.found c.loop-turn.rest) _ c.loop-turn._turn c.loop-turn-test.false c.loop-turn.invariant in
    first_of (search rules, grind (arith, common_steps))
