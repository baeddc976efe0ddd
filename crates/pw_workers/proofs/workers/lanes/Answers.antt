use Rattle.std.proofs.Common.{◌≡◌, ◌+◌, ◌++◌, ◌∷◌, [], List, Option, Some, ap, arith, length, length-append, refl, subst, sym}
use Rattle.std.specs.Prelude.{All}
use Rattle.std.proofs.lemmas.List.Elements.{All-push}
use Rattle.pw_workers.specs.Places.{IsFreeAt}
use Rattle.pw_workers.specs.declared.lane.LinkLane.{LinkLane}
use Rattle.pw_workers.proofs.workers.lanes.Goals as goal

pub loop-preserved : goal.loop-preserved
loop-preserved c =
    let old = c.loop.lanes.items in
    let lane = c.in_ok-new.field-0 in
    let items : c.push.new.self.items ≡ old ++ Some lane ∷ [] = c.in_ok-push.ensures.items in
    let as_many : length c.push.new.self.items ≡ length (old ++ Some lane ∷ []) = ap length items in
    let one_more : length (old ++ Some lane ∷ []) ≡ length old + 1 = length-append old (Some lane ∷ []) in
    let each : length old ≡ c.loop.counter = c.loop.invariant.each in
    record {
      each = omega arith;
      free =
          subst (λ (l : List (Option LinkLane)). All IsFreeAt l) (sym items)
          (All-push IsFreeAt old (Some lane) c.loop.invariant.free (lane, (refl, c.in_ok-new.ensures)));
    }
