use Rattle.std.proofs.Common.{refl}
use Rattle.pw_onecopy.proofs.examples.number_examples.Goals as goal

pub returns : goal.returns
returns c = record { start = refl; second = refl; inside = refl; behind = refl; dropped = refl; sent = refl }
