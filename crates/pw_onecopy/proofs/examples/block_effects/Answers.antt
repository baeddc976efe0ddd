use Rattle.std.proofs.Common.{refl}
use Rattle.pw_onecopy.proofs.examples.block_effects.Goals as goal

pub returns : goal.returns
returns c = record {
  committed = λ sys machine t n j. refl;
  aborted = λ sys machine t n j. refl;
  restarted = λ sys machine t n j. refl;
  left = λ sys machine t n j. refl;
}
