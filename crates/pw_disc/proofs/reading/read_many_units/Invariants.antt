-- What was read so far, and what is still read, is all that is read.
use Rattle.std.proofs.Common.{◌≡◌, ◌-◌}
use Rattle.pw_image.specs.Reading.{many_at}
use Rattle.pw_image.proofs.Loop.{with_front}
use Rattle.pw_disc.specs.Reading.{unit_at}
use Rattle.pw_disc.proofs.reading.read_many_units.Given as goal

abbrev pub invariant-loop : goal.invariant-loop
invariant-loop l =
    with_front unit_at l.units.items (many_at unit_at (l.count - l.counter) l.rest) ≡ many_at unit_at l.count l.bytes
