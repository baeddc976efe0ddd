-- The digits up to the place are written.
use Rattle.std.proofs.Common.{◌≡◌, take}
use Rattle.pw_picture.specs.Stored.{digits_of}
use Rattle.pw_machine.proofs.chars.digits_text.Given as goal

abbrev pub invariant-loop-place : goal.invariant-loop-place
invariant-loop-place l = l.text ≡ take l.place (digits_of l.digits l.value)
