-- What was read so far, and what is still read, is all that is read.
use Rattle.std.proofs.Common.{◌≡◌, ◌-◌}
use Rattle.pw_image.specs.Reading.{many_at}
use Rattle.pw_image.proofs.Loop.{with_front}
use Rattle.pw_trail.specs.Body.{change_at}
use Rattle.pw_trail.proofs.read.read_many_changes.Given as goal

abbrev pub invariant-loop : goal.invariant-loop
invariant-loop l =
    with_front (change_at l.files) l.changes.items (many_at (change_at l.files) (l.count - l.counter) l.rest) ≡ many_at (change_at l.files) l.count l.bytes
