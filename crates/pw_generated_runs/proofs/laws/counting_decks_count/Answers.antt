use Rattle.std.proofs.Common.{refl}
use Rattle.pw_generated_runs.proofs.Paths.{runs-in-rounds}
use Rattle.pw_generated_runs.proofs.Server.{counts-requests}
use Rattle.pw_generated_runs.proofs.laws.counting_decks_count.Goals as goal

pub returns : goal.returns
returns c = λ rule parts digits have are few. record {
  terminals = runs-in-rounds rule parts digits have;
  are_digits = are;
  server = counts-requests rule parts;
  records = refl;
  few = few;
}
