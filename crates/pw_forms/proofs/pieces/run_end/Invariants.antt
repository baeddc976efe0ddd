use Rattle.std.proofs.Common.{◌≡◌, ◌+◌, length, drop}
use Rattle.pw_forms.specs.Pieces.{run_size}
use Rattle.pw_forms.proofs.pieces.run_end.Given as goal

abbrev pub invariant-loop-token : goal.invariant-loop-token
invariant-loop-token l = record {
  so_far : l.size + run_size l.server l.text l.rest ≡ run_size l.server l.text l.tokens;
  at : l.rest ≡ drop l.size l.tokens;
  within : l.size + length l.rest ≡ length l.tokens;
}

abbrev pub decreases-loop-token : goal.decreases-loop-token
decreases-loop-token l = length l.rest
