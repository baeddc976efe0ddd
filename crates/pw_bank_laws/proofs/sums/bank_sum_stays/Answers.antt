use Rattle.std.proofs.Common.{List, [], ◌∷◌, sym, ◌∙◌}
use Rattle.pw_bank_laws.proofs.sums.bank_sum_stays.Goals as goal
use Rattle.pw_bank_laws.specs.Servers.{BankChoices}
use Rattle.pw_bank_laws.specs.Teller.{teller}
use Rattle.pw_code.specs.declared.field.ScreenTable.{ScreenTable}

-- the choices of a bank whose terminals run TELLER
abbrev with_teller : List ScreenTable → BankChoices → BankChoices
with_teller screens bank = record bank { rest = record bank.rest { programs = teller screens ∷ [] } }

pub returns-clause-committed : goal.returns-clause-committed
returns-clause-committed c = λ rule screens bank sound log run.
    c.bank_sums_are_as_posted.ensures.balanced rule (with_teller screens bank) sound (c.bank_units_balance.ensures rule screens bank sound) log run

pub returns-clause-reported : goal.returns-clause-reported
returns-clause-reported c = λ rule screens bank sound log run.
    c.bank_sums_are_as_posted.ensures.reported rule (with_teller screens bank) sound log run
    ∙ sym (c.bank_sums_are_as_posted.ensures.committed rule (with_teller screens bank) sound log run)
    ∙ c.bank_sums_are_as_posted.ensures.balanced rule (with_teller screens bank) sound (c.bank_units_balance.ensures rule screens bank sound) log run
