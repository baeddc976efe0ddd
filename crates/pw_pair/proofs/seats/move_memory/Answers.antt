-- The next seat's memory stands behind the others.
use Rattle.std.proofs.Common.{ℕ, ◌++◌, append_assoc, take, cond, sym, ap, ◌∙◌, arith}
use Rattle.pw_pair.specs.Pairs.{memory_of}
use Rattle.std.specs.Prelude.{option_to_list}
use Rattle.std.proofs.lemmas.List.Edits.{map_over_more}
use Rattle.pw_pair.specs.Rooms.{is_used}
use Rattle.pw_pair.specs.Seats.{without_backup}
use Rattle.pw_pair.proofs.Moving.{count-from, next-item, next-memory}
use Rattle.pw_pair.proofs.seats.move_memory.Goals as goal

pub loop-seat-preserved : goal.loop-seat-preserved
loop-seat-preserved c =
    let xs = c.deref_mut-seat-items.result.now in
    let i = c.loop-seat.seat-index in
    let seat = c.seat-item.result in
    let is = next-item without_backup xs c.loop-seat.seat-items i seat c.loop-seat-test.true c.loop-seat.invariant.seats c.seat-item.is in
    record {
      seats = rw (c.move_one.ensures.after, ← c.seat-item.is)
          (map_over_more without_backup xs c.loop-seat.seat-items i seat c.loop-seat-test.true c.loop-seat.invariant.seats c.seat-item.is);
      images =
          c.move_one.ensures.images ∙ ap (λ s. c.loop-seat.images.items ++ option_to_list s.memory) (sym c.seat-item.is)
          ∙ ap (λ l. l ++ option_to_list seat.memory) c.loop-seat.invariant.images
          ∙ append_assoc c.args.images.now.items (memory_of (take i xs)) (option_to_list seat.memory)
          ∙ ap (λ l. c.args.images.now.items ++ l) (next-memory xs i seat c.loop-seat-test.true is);
      room =
          let rest = count-from is_used xs i seat c.loop-seat-test.true is in
          let r = c.loop-seat.invariant.room in
          let l = c.move_one.ensures.len in
          let k = c.move_one.ensures.capacity in
          let same = ap {B = ℕ} (λ s. cond (is_used s) 1 0) c.seat-item.is in
          omega (arith, rest, r, l, k, same);
    }
