use Rattle.std.proofs.Common.{rules, codes, arith}
use Rattle.std.proofs.lemmas.Grind.{common_steps}
use Rattle.pw_forms.specs.Readers.{separated_from}
use Rattle.pw_forms.specs.Conditions.{comparison, all}
use Rattle.pw_forms.proofs.Turns.{one_more, no_more}
use Rattle.pw_forms.proofs.conditions.all.Goals as goal

pub returns-in_err-comparison : goal.returns-in_err-comparison
unfolding separated_from all
returns-in_err-comparison c =
    let e = one_more (λ n. separated_from (codes "AND") comparison n c.loop-turn.found c.loop-turn.rest) _ c.loop-turn._turn c.loop-turn-test.true c.loop-turn.invariant in
    first_of (search rules, grind (arith, common_steps))

pub returns-then-not-eats : goal.returns-then-not-eats
unfolding separated_from all
returns-then-not-eats c =
    let e = one_more (λ n. separated_from (codes "AND") comparison n c.loop-turn.found c.loop-turn.rest) _ c.loop-turn._turn c.loop-turn-test.true c.loop-turn.invariant in
    first_of (search rules, grind (arith, common_steps))

pub loop-turn-preserved : goal.loop-turn-preserved
unfolding separated_from all
loop-turn-preserved c =
    let e = one_more (λ n. separated_from (codes "AND") comparison n c.loop-turn.found c.loop-turn.rest) _ c.loop-turn._turn c.loop-turn-test.true c.loop-turn.invariant in
    first_of (search rules, grind (arith, common_steps))

pub returns : goal.returns
unfolding separated_from all
returns c =
    let e = no_more (λ n. separated_from (codes "AND") comparison n c.loop-turn.found c.loop-turn.rest) _ c.loop-turn._turn c.loop-turn-test.false c.loop-turn.invariant in
    first_of (search rules, grind (arith, common_steps))
