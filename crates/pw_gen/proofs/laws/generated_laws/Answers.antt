use Rattle.pw_gen.proofs.Law.{all_faultless}
use Rattle.pw_gen.proofs.laws.generated_laws.Goals as goal

pub returns : goal.returns
returns c = record { faultless = all_faultless }
