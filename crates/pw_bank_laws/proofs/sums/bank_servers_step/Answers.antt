use Rattle.pw_bank_laws.proofs.Steps.{bank-steps}
use Rattle.pw_bank_laws.proofs.sums.bank_servers_step.Goals as goal

pub returns : goal.returns
returns c = λ rule bank. bank-steps bank rule
