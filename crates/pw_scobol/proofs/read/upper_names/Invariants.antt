-- The names so far are those of the tokens so far.
use Rattle.std.proofs.Common.{◌≡◌, take}
use Rattle.std.specs.Prelude.{map}
use Rattle.pw_divisions.specs.Names.{upper_name}
use Rattle.pw_scobol.proofs.read.upper_names.Given as goal

abbrev pub invariant-loop-token : goal.invariant-loop-token
invariant-loop-token l = l.names ≡ map (upper_name l.text) (take l.token-index l.tokens)
