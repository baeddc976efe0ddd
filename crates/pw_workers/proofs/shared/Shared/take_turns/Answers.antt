use Rattle.std.proofs.Common.{ℕ, zero, suc, refl, rules, arith}
use Rattle.pw_workers.proofs.shared.Shared.take_turns.Goals as goal

pub loop-init : goal.loop-init
loop-init g c = record { on = c.requires; turns = (zero, (omega arith, refl)) }

pub returns-then-not-turn_in_place : goal.returns-then-not-turn_in_place
returns-then-not-turn_in_place g c =
    let before = c.loop.invariant.turns in
    let few = before.1.0 in
    let more = c.loop-test.true in
    (suc before.0, (omega arith, (c.loop.self, (before.1.1, c.turn_in_place.ensures.turn))))

pub loop-preserved : goal.loop-preserved
loop-preserved g c =
    let before = c.loop.invariant.turns in
    let few = before.1.0 in
    record {
      on = c.turn_in_place.ensures.goes_on (search rules);
      turns = (suc before.0, (omega arith, (c.loop.self, (before.1.1, c.turn_in_place.ensures.turn))));
    }
