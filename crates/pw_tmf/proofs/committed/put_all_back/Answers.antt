use Rattle.std.proofs.Common.{◌≡◌, ◌∙◌, ◌+◌, ◌<◌, ◌++◌, suc, ap, sym, length, arith}
use Rattle.pw_blocks.specs.Blocks.{records_of}
use Rattle.pw_tmf.specs.Committed.{all_put_back, images_below, images_of}
use Rattle.pw_tmf.specs.Slots.{SlotState}
use Rattle.pw_tmf.specs.Tmf.{slot_at, unit_at}
use Rattle.pw_tmf.proofs.Kept.{slot-is}
use Rattle.pw_tmf.proofs.PutBack.{all_put_back-append}
use Rattle.pw_tmf.proofs.committed.put_all_back.Goals as goal

pub loop-slot-preserved : goal.loop-slot-preserved
loop-slot-preserved c =
    let n = c.args.file.now.key in
    let number = c.args.number in
    let slots = c.args.slots.now in
    let i = c.loop-slot.slot-index in
    let slot = c.slot-item.result in
    let first = records_of c.args.file.now.blocks in
    let lt : i < length slots = c.loop-slot-test.true in
    let here : slot_at slots i ≡ slot = slot-is slots i slot lt c.slot-item.is in
    let next : suc i ≡ i + 1 = omega arith in
    record {
      key_is = c.put_back_in.ensures.key ∙ c.loop-slot.invariant.key_is;
      same = c.in_ok-put_back_in.ensures.ok
          ∙ (ap (λ k. all_put_back k number (images_of slot.open_unit) (records_of c.loop-slot.file.blocks)) c.loop-slot.invariant.key_is
          ∙ (ap (all_put_back n number (images_of slot.open_unit)) c.loop-slot.invariant.same
          ∙ (sym (all_put_back-append n number (images_below (unit_at slots) i) (images_of slot.open_unit) first)
          ∙ (ap (λ (x : SlotState). all_put_back n number (images_below (unit_at slots) i ++ images_of x.open_unit) first) (sym here)
          ∙ ap (λ k. all_put_back n number (images_below (unit_at slots) k) first) next))));
    }
