use Rattle.std.proofs.Common.{◌≡◌, false, drop}
use Rattle.pw_text.specs.Items.{quoted}
use Rattle.pw_text.proofs.Quotes.{plus}
use Rattle.pw_text.proofs.quoted.quoted.Given as goal

abbrev pub invariant-loop-i : goal.invariant-loop-i
invariant-loop-i l = plus l.i (quoted l.closed (drop l.i l.bytes)) ≡ quoted false l.bytes
