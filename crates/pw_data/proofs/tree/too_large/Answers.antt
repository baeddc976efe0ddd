use Rattle.std.proofs.Common.{Some, sym, ap, ◌∙◌, arith}
use Rattle.pw_data.specs.Laid.{too_large}
use Rattle.pw_data.proofs.Forests.{forest-none}
use Rattle.pw_data.proofs.Loops.{Cut, too_large-further, too_large-stops}
use Rattle.pw_data.proofs.tree.too_large.Goals as goal

pub returns-then-size-gt-MAX_STORAGE : goal.returns-then-size-gt-MAX_STORAGE
returns-then-size-gt-MAX_STORAGE c =
    let cut : Cut c.loop-entry.rest.now c.in-Some.entry.now c.in-Some.behind.now c.split_at.result.0.now c.split_at.result.1.now c.member_count.result =
    record { rest_is = c.in-Some.ensures.cases.0; count_is = c.member_count.ensures.count; members_is = c.split_at.ensures.front; next_is = c.split_at.ensures.back } in
    ap Some c.fault.ensures
    ∙ too_large-stops _ _ _ _ _ _ cut c.loop-entry.size c.extent-size.result c.size_of.result _ c.size_of.ensures.size c.extent-size.ensures c.loop-entry.invariant.bound c.if-size-gt-MAX_STORAGE.true c.loop-entry.invariant.so_far

pub loop-entry-preserved : goal.loop-entry-preserved
loop-entry-preserved c =
    let cut : Cut c.loop-entry.rest.now c.in-Some.entry.now c.in-Some.behind.now c.split_at.result.0.now c.split_at.result.1.now c.member_count.result =
    record { rest_is = c.in-Some.ensures.cases.0; count_is = c.member_count.ensures.count; members_is = c.split_at.ensures.front; next_is = c.split_at.ensures.back } in
    record {
      bound = omega arith;
      so_far = too_large-further _ _ _ _ _ _ cut c.loop-entry.size c.extent-size.result c.size_of.result _ c.size_of.ensures.size c.extent-size.ensures (omega arith) c.loop-entry.invariant.so_far;
    }

pub returns : goal.returns
returns c = ap (too_large c.loop-entry.size) (sym (forest-none c.loop-entry.rest.now c.in_default.ensures.cases)) ∙ c.loop-entry.invariant.so_far
