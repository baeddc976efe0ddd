-- The digits from that of the highest weight on.
use Rattle.std.proofs.Common.{◌≡◌, ◌-◌, ◌/◌, ◌%◌, ◌^◌}
use Rattle.pw_picture.specs.Stored.{size_at}
use Rattle.pw_code.specs.Spelling.{number_in}
use Rattle.pw_machine.proofs.keyed.low_digits.Given as goal

abbrev pub invariant-loop-place : goal.invariant-loop-place
invariant-loop-place l = l.size ≡ size_at l.places (number_in l.value) / 10 ^ (l.digits - l.place) % 10 ^ l.place
