use Rattle.std.proofs.Common.{subst, sym}
use Rattle.pw_actor_queue.specs.Line.{IsPlaceLine}
use Rattle.pw_actor_queue.proofs.Lining.{line-first}
use Rattle.pw_actor_queue.proofs.line.PlaceLine.new.Goals as goal

pub invariant_of-result : goal.invariant_of-result
invariant_of-result c =
    subst (IsPlaceLine _ c.in_ok-vec.field-0.items) (sym c.in_ok-with_capacity.ensures.items)
    (line-first _ c.in_ok-vec.field-0.items c.in_ok-with_capacity.ensures.capacity (c.in_ok-vec.ensures.items_if_clones_equal (λ y is. is)))
