-- What is left to go on leads to all.
use Rattle.std.proofs.Common.{◌≡◌, ◌<◌, length}
use Rattle.std.specs.Prelude.{All, vec_len}
use Rattle.pw_world_store.specs.Each.{gone_each}
use Rattle.pw_pair.specs.declared.resumed.Resumed.{Resumed}
use Rattle.pw_world_store.proofs.each.go_on_each.Given as goal

abbrev pub invariant-loop-one : goal.invariant-loop-one
invariant-loop-one l = record {
  leads : gone_each l.tcp l.resumed.items l.seats.items ≡ gone_each l.tcp l.initial.resumed.items l.initial.seats.items;
  low : All (λ (one : Resumed). one.terminal < length l.seats.items) l.resumed.items;
}

abbrev pub decreases-loop-one : goal.decreases-loop-one
decreases-loop-one l = vec_len l.resumed
