use Rattle.std.proofs.Common.{◌∙◌, ◌-◌, ◌<◌, ap, sym, subst, length, take, arith}
use Rattle.std.specs.Prelude.{All, reverse}
use Rattle.pw_blocks.specs.Blocks.{records_of}
use Rattle.pw_tmf.specs.Committed.{FitsFile, all_put_back, put_back_if}
use Rattle.pw_tmf.proofs.PutBack.{fits-at, put-last}
use Rattle.pw_tmf.proofs.images.Images.put_back_in.Goals as goal

pub put_back_if-requires : goal.put_back_if-requires
put_back_if-requires c =
    let images = c.self.inside.images.items in
    let lt : c.loop-left.left - 1 < length images = omega (arith, c.loop-left.invariant.within, c.loop-left-test.true) in
    let fit : All (FitsFile c.args.number c.args.file.now.key) (reverse images) = subst (All (FitsFile c.args.number c.args.file.now.key)) (sym c.self.view_is) c.requires in
    subst (λ n. FitsFile c.args.number n c.index.result.now) (sym c.loop-left.invariant.key_is)
    (fits-at (FitsFile c.args.number c.args.file.now.key) images (c.loop-left.left - 1) c.index.result.now lt c.index.ensures fit)

pub loop-left-preserved : goal.loop-left-preserved
loop-left-preserved c =
    let images = c.self.inside.images.items in
    let n = c.args.file.now.key in
    let left = c.loop-left.left in
    let image = c.index.result.now in
    let some : 0 < left = c.loop-left-test.true in
    record {
      key_is = c.put_back_if.ensures.key ∙ c.loop-left.invariant.key_is;
      within = omega (arith, c.loop-left.invariant.within);
      same = ap (all_put_back n c.args.number (reverse (take (left - 1) images)))
          (c.in_ok-put_back_if.ensures.ok ∙ ap (λ k. put_back_if k c.args.number image (records_of c.loop-left.file.blocks)) c.loop-left.invariant.key_is)
          ∙ (sym (put-last n c.args.number images left image (records_of c.loop-left.file.blocks) some c.loop-left.invariant.within c.index.ensures) ∙ c.loop-left.invariant.same);
    }
