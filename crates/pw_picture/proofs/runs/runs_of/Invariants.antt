-- The runs so far, with those of the text that is left behind them, are those of the whole text.
use Rattle.std.proofs.Common.{◌≡◌, ◌+◌, length}
use Rattle.pw_picture.specs.Symbols.{symbols_behind, with_front, longest}
use Rattle.pw_picture.specs.Runs.{spread}
use Rattle.pw_picture.proofs.runs.runs_of.Given as goal

abbrev pub invariant-loop-rest : goal.invariant-loop-rest
invariant-loop-rest l = record {
  known : symbols_behind 0 l.text ≡ with_front (spread l.runs) (symbols_behind 0 l.rest);
  room_left : length (spread l.runs) + l.room ≡ longest;
}

abbrev pub decreases-loop-rest : goal.decreases-loop-rest
decreases-loop-rest l = length l.rest
