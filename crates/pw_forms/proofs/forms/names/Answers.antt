use Rattle.std.proofs.Common.{rules, codes, arith}
use Rattle.std.proofs.lemmas.Grind.{common_steps}
use Rattle.pw_forms.specs.Readers.{up_to_from}
use Rattle.pw_forms.specs.Operands.{name}
use Rattle.pw_forms.proofs.Turns.{one_more, no_more}
use Rattle.pw_forms.proofs.forms.names.Goals as goal

pub returns-in_err-name : goal.returns-in_err-name
unfolding up_to_from
returns-in_err-name c =
    let e = one_more (λ n. up_to_from (codes "DEPENDING") name n c.loop-turn.found c.loop-turn.rest) _ c.loop-turn._turn c.loop-turn-test.true c.loop-turn.invariant in
    first_of (search rules, grind (arith, common_steps))

pub returns-then-eats : goal.returns-then-eats
unfolding up_to_from
returns-then-eats c =
    let e = one_more (λ n. up_to_from (codes "DEPENDING") name n c.loop-turn.found c.loop-turn.rest) _ c.loop-turn._turn c.loop-turn-test.true c.loop-turn.invariant in
    first_of (search rules, grind (arith, common_steps))

pub loop-turn-preserved : goal.loop-turn-preserved
unfolding up_to_from
loop-turn-preserved c =
    let e = one_more (λ n. up_to_from (codes "DEPENDING") name n c.loop-turn.found c.loop-turn.rest) _ c.loop-turn._turn c.loop-turn-test.true c.loop-turn.invariant in
    first_of (search rules, grind (arith, common_steps))

pub returns : goal.returns
unfolding up_to_from
returns c =
    let e = no_more (λ n. up_to_from (codes "DEPENDING") name n c.loop-turn.found c.loop-turn.rest) _ c.loop-turn._turn c.loop-turn-test.false c.loop-turn.invariant in
    first_of (search rules, grind (arith, common_steps))
