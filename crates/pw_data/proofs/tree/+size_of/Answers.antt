use Rattle.std.proofs.Common.{length, ap, arith}
use Rattle.pw_data.specs.Laid.{size_in}
use Rattle.pw_data.proofs.Forests.{forest-none}
use Rattle.pw_data.proofs.Loops.{Cut, size-further}
use Rattle.pw_data.proofs.tree.+size_of.Goals as goal

pub loop-entry-preserved : goal.loop-entry-preserved
loop-entry-preserved t c =
    let cut : Cut c.loop-entry.rest.now c.in-Some.entry.now c.in-Some.behind.now c.split_at.result.0.now c.split_at.result.1.now c.member_count.result =
    record { rest_is = c.in-Some.ensures.cases.0; count_is = c.member_count.ensures.count; members_is = c.split_at.ensures.front; next_is = c.split_at.ensures.back } in
    record {
      shorter = omega (arith, c.split_at.ensures.back_len, ap length c.in-Some.ensures.cases.0, c.loop-entry.invariant.shorter);
      bound = omega arith;
      so_far = rw c.min-size.ensures (size-further _ _ _ _ _ _ cut c.loop-entry.size c.extent.result c.size_of.result _ c.size_of.ensures.size c.extent.ensures c.loop-entry.invariant.so_far);
    }

pub returns-clause-size : goal.returns-clause-size
returns-clause-size t c = omega (arith, ap size_in (forest-none c.loop-entry.rest.now c.in_default.ensures.cases))
