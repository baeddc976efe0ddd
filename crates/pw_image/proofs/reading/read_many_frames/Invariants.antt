-- What was read so far, and what is still read, is all that is read.
use Rattle.std.proofs.Common.{◌≡◌, ◌-◌}
use Rattle.pw_image.specs.Reading.{many_at, frame_at}
use Rattle.pw_image.proofs.Loop.{with_front}
use Rattle.pw_image.proofs.reading.read_many_frames.Given as goal

abbrev pub invariant-loop : goal.invariant-loop
invariant-loop l =
    with_front frame_at l.frames.items (many_at frame_at (l.count - l.counter) l.rest) ≡ many_at frame_at l.count l.bytes
