use Rattle.std.proofs.Common.{refl}
use Rattle.pw_onecopy.proofs.examples.operation_examples.Goals as goal

pub returns : goal.returns
returns c = record { found = refl; none_found = refl; at_end = refl; duplicate = refl; missing = refl; written = refl }
