use Rattle.std.proofs.Common.{ℕ, zero, suc, refl, rules}
use Rattle.pw_workers.proofs.shared.Shared.go_on_alone.Goals as goal

pub loop-init : goal.loop-init
loop-init g c = record { on = c.requires; turns = (zero, refl) }

pub returns-then-not-turn_in_place-clause-turns : goal.returns-then-not-turn_in_place-clause-turns
returns-then-not-turn_in_place-clause-turns g c =
    let before = c.loop.invariant.turns in (suc before.0, (c.loop.self, (before.1, c.turn_in_place.ensures.turn)))

pub loop-preserved : goal.loop-preserved
loop-preserved g c =
    let before = c.loop.invariant.turns in
    record {
      on = c.turn_in_place.ensures.goes_on (search rules);
      turns = (suc before.0, (c.loop.self, (before.1, c.turn_in_place.ensures.turn)));
    }
