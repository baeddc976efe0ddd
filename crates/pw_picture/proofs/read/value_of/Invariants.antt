-- The characters that are left, behind the value so far, give the value, which has as many digits as were read.
use Rattle.std.proofs.Common.{◌≡◌, ◌<◌, ◌^◌, drop}
use Rattle.pw_picture.specs.Stored.{value_of}
use Rattle.pw_picture.proofs.read.value_of.Given as goal

abbrev pub invariant-loop-char : goal.invariant-loop-char
invariant-loop-char l = (value_of l.value (drop l.char-index l.chars) ≡ value_of 0 l.chars) × (l.value < 10 ^ l.char-index)
