use Rattle.std.proofs.Common.{◌≡◌, take, length}
use Rattle.pw_code.proofs.same.ListSame.is_same.Given as goal

abbrev pub invariant-loop-place : goal.invariant-loop-place
invariant-loop-place g l = record { sizes : length l.one ≡ length l.two; front : take l.place l.one ≡ take l.place l.two }
