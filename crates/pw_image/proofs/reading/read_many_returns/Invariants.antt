-- What was read so far, and what is still read, is all that is read.
use Rattle.std.proofs.Common.{◌≡◌, ◌-◌}
use Rattle.pw_image.specs.Reading.{many_at, return_at}
use Rattle.pw_image.proofs.Loop.{with_front}
use Rattle.pw_image.proofs.reading.read_many_returns.Given as goal

abbrev pub invariant-loop : goal.invariant-loop
invariant-loop l =
    with_front return_at l.returns.items (many_at return_at (l.count - l.counter) l.rest) ≡ many_at return_at l.count l.bytes
