use Rattle.std.proofs.Common.{◌≡◌, ◌∙◌, ◌<◌, arith, false, length, subst, sym, true}
use Rattle.std.specs.Prelude.{slice_index_or, slice_set}
use Rattle.std.specs.VecDeque.{deque_capacity}
use Rattle.std.proofs.lemmas.List.{get_or_default}
use Rattle.pw_actor_queue.specs.Line.{IsPlaceLine}
use Rattle.pw_actor_queue.proofs.Lining.{line-more, room-more}
use Rattle.pw_actor_queue.proofs.line.PlaceLine.call.Goals as goal

pub unreachable-requires : goal.unreachable-requires
unreachable-requires c =
    let stands = c.self.inside.stands.items in
    let line = c.self.inside.waiting.items in
    let full = c.in-Err.ensures.full in
    let long = c.self.inside.waiting.ok.0 in
    let room = c.self.invariant.room in
    let within : c.args.place < length stands = omega (arith, c.requires, c.self.invariant.size) in
    let absent : slice_index_or stands c.args.place false ≡ false =
    sym (get_or_default stands c.args.place c.index.result.now false within) ∙ (sym c.index.ensures ∙ c.if-index.false) in
    let less : length line < 408 = room-more (deque_capacity c.self.inside.waiting) stands line c.self.invariant c.args.place c.requires absent in
    omega (arith, full, long, room, less)

pub invariant_of-self : goal.invariant_of-self
invariant_of-self c =
    let stands = c.self.inside.stands.items in
    let line = c.self.inside.waiting.items in
    let within : c.args.place < length stands = omega (arith, c.requires, c.self.invariant.size) in
    let absent : slice_index_or stands c.args.place false ≡ false =
    sym (get_or_default stands c.args.place c.index.result.now false within) ∙ (sym c.index.ensures ∙ c.if-index.false) in
    subst (IsPlaceLine (deque_capacity c.push_back.new.self) (slice_set stands c.args.place true)) (sym c.in-Ok.ensures.items)
    (line-more (deque_capacity c.self.inside.waiting) stands line c.self.invariant c.args.place c.requires absent
    (deque_capacity c.push_back.new.self) c.in-Ok.ensures.capacity)
