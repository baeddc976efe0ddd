use Rattle.pw_bank_laws.proofs.Units.{units-balance}
use Rattle.pw_bank_laws.proofs.sums.bank_units_balance.Goals as goal
use Rattle.pw_bank_laws.specs.Teller.{teller_bank}

pub returns : goal.returns
returns c = λ rule screens bank sound. units-balance screens bank rule sound (c.deck_laws.ensures rule (teller_bank screens bank) sound)
