use Rattle.std.proofs.Common.{◌<◌, arith, subst}
use Rattle.pw_actor_queue.specs.Line.{IsPlaceLine}
use Rattle.pw_actor_queue.proofs.Lining.{first-low, line-less}
use Rattle.std.specs.VecDeque.{deque_capacity}
use Rattle.pw_actor_queue.proofs.line.PlaceLine.leave.Goals as goal

pub index_mut-requires : goal.index_mut-requires
index_mut-requires c =
    let is = subst (IsPlaceLine (deque_capacity c.self.inside.waiting) c.self.inside.stands.items) c.in_ok-place.ensures.items c.self.invariant in
    let low : c.in_ok-place.field-0 < 408 = first-low _ _ c.in_ok-place.field-0 _ is in
    let size = c.self.invariant.size in
    let long = c.self.inside.stands.ok in
    omega (arith, low, size, long)

pub invariant_of-self-2 : goal.invariant_of-self-2
invariant_of-self-2 c =
    let is = subst (IsPlaceLine (deque_capacity c.self.inside.waiting) c.self.inside.stands.items) c.in_ok-place.ensures.items c.self.invariant in
    line-less _ _ c.in_ok-place.field-0 _ is _ c.in_ok-place.ensures.capacity

pub returns-clause-low : goal.returns-clause-low
returns-clause-low c =
    let is = subst (IsPlaceLine (deque_capacity c.self.inside.waiting) c.self.inside.stands.items) c.in_ok-place.ensures.items c.self.invariant in
    first-low _ _ c.in_ok-place.field-0 _ is
