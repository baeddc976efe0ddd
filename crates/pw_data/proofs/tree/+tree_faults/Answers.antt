use Rattle.std.proofs.Common.{length, not, false, sym, ap, ◌∙◌, arith}
use Rattle.pw_base.specs.First.{least, fault_noted}
use Rattle.pw_data.specs.Tree.{forest, is_top, in_table, tree_faults, is_misplaced}
use Rattle.pw_data.proofs.Forests.{forest-none}
use Rattle.pw_data.proofs.Loops.{Cut, faults-further}
use Rattle.pw_data.proofs.tree.+tree_faults.Goals as goal

pub loop-entry-preserved : goal.loop-entry-preserved
loop-entry-preserved t c =
    let cut : Cut c.loop-entry.rest.now c.in-Some.entry.now c.in-Some.behind.now c.split_at.result.0.now c.split_at.result.1.now c.member_count.result =
    record { rest_is = c.in-Some.ensures.cases.0; count_is = c.member_count.ensures.count; members_is = c.split_at.ensures.front; next_is = c.split_at.ensures.back } in
    record {
      shorter = omega (arith, c.split_at.ensures.back_len, ap length c.in-Some.ensures.cases.0, c.loop-entry.invariant.shorter);
      so_far = faults-further _ _ _ _ _ _ cut (is_top c.args.within) (in_table c.args.within) c.is_misplaced-misplaced.result c.loop-entry.known c.noted-known.result c.tree_faults-known.result _
          (c.is_misplaced-misplaced.ensures ∙ ap (λ none. is_misplaced (is_top c.args.within) (in_table c.args.within) (not none) c.in-Some.entry.now) c.is_empty.ensures)
          (c.noted-known.ensures ∙ ap (fault_noted c.loop-entry.known c.is_misplaced-misplaced.result) c.fault.ensures)
          (c.tree_faults-known.ensures ∙ ap (λ top. least c.noted-known.result (tree_faults top (in_table c.members_of.result) (forest c.split_at.result.0.now))) c.members_of.ensures.top
          ∙ ap (λ table. least c.noted-known.result (tree_faults false table (forest c.split_at.result.0.now))) c.members_of.ensures.table)
          c.loop-entry.invariant.so_far;
    }

pub returns : goal.returns
returns t c =
    ap (λ f. least c.loop-entry.known (tree_faults (is_top c.args.within) (in_table c.args.within) f)) (sym (forest-none c.loop-entry.rest.now c.in_default.ensures.cases)) ∙ c.loop-entry.invariant.so_far
