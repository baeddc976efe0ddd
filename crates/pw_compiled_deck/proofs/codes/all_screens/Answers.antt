use Rattle.std.proofs.Common.{◌≡◌, List, [], ◌∷◌, ◌++◌, length, map, sym, ap, ◌∙◌, append_assoc, arith}
use Rattle.std.specs.Vec.Iter.{into_iter_items}
use Rattle.pw_code.specs.declared.field.ScreenTable.{ScreenTable}
use Rattle.pw_compiled_deck.proofs.Coding.{screens-more}
use Rattle.pw_compiled_deck.proofs.codes.all_screens.Goals as goal

pub loop-requester-preserved : goal.loop-requester-preserved
loop-requester-preserved c =
    let at = c.loop-requester in
    let r = c.in-Some.requester in
    let steps : into_iter_items at.requester-iterator ≡ r ∷ into_iter_items c.next.new.self = c.in-Some.ensures.steps.0 in
    record {
      all = append_assoc at.yielded (r ∷ []) _ ∙ rw (← steps) at.invariant.all;
      taken = c.in_ok-take_screens.ensures ∙ ap (λ (ys : List ScreenTable). ys ++ r.screens) at.invariant.taken ∙ sym (screens-more at.yielded r);
      left = let was = at.invariant.left in
          let gone = c.in-Some.ensures.steps.1 in
          let short = ap length steps in
          omega arith;
    }
