-- The piece stands behind the characters as often as the loop has turned.
use Rattle.std.proofs.Common.{◌≡◌, ◌++◌}
use Rattle.std.specs.List.{repeat}
use Rattle.pw_data.proofs.storage.repeat.Given as goal

abbrev pub invariant-loop : goal.invariant-loop
invariant-loop l = l.chars ≡ l.initial.chars ++ repeat l.counter l.piece
