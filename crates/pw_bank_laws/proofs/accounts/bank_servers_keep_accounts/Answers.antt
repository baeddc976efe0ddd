use Rattle.pw_bank_laws.proofs.Steps.{bank-forms}
use Rattle.pw_bank_laws.proofs.accounts.bank_servers_keep_accounts.Goals as goal

pub returns : goal.returns
returns c = λ rule bank. bank-forms bank rule
