use Rattle.std.proofs.Common.{rules, codes, arith}
use Rattle.std.proofs.lemmas.Grind.{common_steps}
use Rattle.pw_forms.specs.Readers.{separated_from}
use Rattle.pw_forms.specs.Conditions.{all}
use Rattle.pw_forms.proofs.Turns.{one_more, no_more}
use Rattle.pw_forms.proofs.conditions.any.Goals as goal

pub returns-in_err-all : goal.returns-in_err-all
unfolding separated_from
returns-in_err-all c =
    let e = one_more (λ n. separated_from (codes "OR") all n c.loop-turn.found c.loop-turn.rest) _ c.loop-turn._turn c.loop-turn-test.true c.loop-turn.invariant in
    first_of (search rules, grind (arith, common_steps))

pub returns-then-not-eats : goal.returns-then-not-eats
unfolding separated_from
returns-then-not-eats c =
    let e = one_more (λ n. separated_from (codes "OR") all n c.loop-turn.found c.loop-turn.rest) _ c.loop-turn._turn c.loop-turn-test.true c.loop-turn.invariant in
    first_of (search rules, grind (arith, common_steps))

pub loop-turn-preserved : goal.loop-turn-preserved
unfolding separated_from
loop-turn-preserved c =
    let e = one_more (λ n. separated_from (codes "OR") all n c.loop-turn.found c.loop-turn.rest) _ c.loop-turn._turn c.loop-turn-test.true c.loop-turn.invariant in
    first_of (search rules, grind (arith, common_steps))

pub returns : goal.returns
unfolding separated_from
returns c =
    let e = no_more (λ n. separated_from (codes "OR") all n c.loop-turn.found c.loop-turn.rest) _ c.loop-turn._turn c.loop-turn-test.false c.loop-turn.invariant in
    first_of (search rules, grind (arith, common_steps))
