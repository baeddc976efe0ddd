-- Each record lies in the image so far, which keeps its length.
use Rattle.std.proofs.Common.{◌≡◌, ◌+◌, ◌<◌, length, drop, get_or, true, sym, subst, ap, ◌∙◌, arith}
use Rattle.std.specs.List.{list_all}
use Rattle.std.specs.Prelude.{List, ℕ}
use Rattle.pw_image.specs.Records.{lies_in, patched}
use Rattle.pw_image.specs.declared.changed.Changed.{Changed}
use Rattle.pw_image.proofs.Patching.{each-passes, lies-same, patched-next, with-record-length}
use Rattle.pw_image.proofs.changes.patch.Goals as goal

lies-at : (old image : List ℕ) (given items : List Changed) (i : ℕ) (x : Changed) → list_all (lies_in old) given ≡ true → items ≡ given
    → i < length items → x ≡ get_or items i x → length image ≡ length old → lies_in image x ≡ true
lies-at old image given items i x h e lt is same =
    let P : List Changed → Type 0 = λ xs. list_all (lies_in old) xs ≡ true in
    lies-same image old x same (ap (lies_in old) is ∙ each-passes (lies_in old) items i x (subst P (sym e) h) lt)

pub put-requires : goal.put-requires
put-requires c =
    lies-at c.args.old.now c.loop-changed.image c.args.changes.now c.as_slice-changed-items.result.now c.loop-changed.changed-index c.changed-item.result
    c.requires c.as_slice-changed-items.ensures c.loop-changed-test.true c.changed-item.is c.loop-changed.invariant.same_length

pub loop-changed-preserved : goal.loop-changed-preserved
loop-changed-preserved c =
    let items = c.as_slice-changed-items.result.now in
    let x = c.changed-item.result in
    let lies = lies-at c.args.old.now c.loop-changed.image c.args.changes.now items c.loop-changed.changed-index x
    c.requires c.as_slice-changed-items.ensures c.loop-changed-test.true c.changed-item.is c.loop-changed.invariant.same_length in
    record {
      same_length = ap length c.put.ensures ∙ with-record-length c.loop-changed.image x lies ∙ c.loop-changed.invariant.same_length;
      leads =
          ap (λ i. patched i (drop (c.loop-changed.changed-index + 1) items)) c.put.ensures
          ∙ sym (patched-next c.loop-changed.image items c.loop-changed.changed-index x c.loop-changed-test.true c.changed-item.is)
          ∙ c.loop-changed.invariant.leads;
    }
