use Rattle.std.proofs.Common.{◌+◌, ◌≤◌, vec_len}
use Rattle.std.specs.Prelude.{vec_capacity}
use Rattle.pw_blocks.proofs.PutLemmas.{IsPut}
use Rattle.pw_blocks.proofs.splice.put_in_place.Given as goal

-- the last items are put behind the place, and there is room for the others
abbrev pub invariant-loop-items : goal.invariant-loop-items
invariant-loop-items g l = record {
  put : IsPut l.fn.list.items l.place l.fn.items.items l.items.items l.list.items;
  room : vec_len l.list + vec_len l.items ≤ vec_capacity l.list;
}

abbrev pub decreases-loop-items : goal.decreases-loop-items
decreases-loop-items g l = vec_len l.items
