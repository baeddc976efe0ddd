use Rattle.pw_bank_laws.proofs.sums.bank_sums_are_as_posted.Goals as goal
use Rattle.pw_bank_laws.specs.Balances.{posted, sum_of_balances}
use Rattle.pw_bank_laws.specs.Servers.{whole_bank}
use Rattle.pw_invariants.specs.Invariants.{stepped}
use Rattle.pw_invariants.specs.Requests.{requests_of}
use Rattle.pw_tree_meaning.specs.OfDeck.{behaviour}

pub returns-clause-committed : goal.returns-clause-committed
returns-clause-committed c = λ rule bank sound.
    let sys = behaviour rule (whole_bank bank) in
    let is = c.deck_laws.ensures rule (whole_bank bank) sound in
    c.measures_step_by_units.ensures.committed sys is tt (λ unit records left alone now. tt) sum_of_balances (λ sum unit. stepped posted sum (requests_of sys unit))
    (c.measures_step_by_requests.ensures.units sys is (λ n message reply records left known are served now. tt) sum_of_balances posted (c.bank_servers_step.ensures rule bank))

pub returns-clause-reported : goal.returns-clause-reported
returns-clause-reported c = λ rule bank sound.
    let sys = behaviour rule (whole_bank bank) in
    let is = c.deck_laws.ensures rule (whole_bank bank) sound in
    c.measures_step_by_units.ensures.reported sys is tt (λ unit records left alone now. tt) sum_of_balances (λ sum unit. stepped posted sum (requests_of sys unit))
    (c.measures_step_by_requests.ensures.units sys is (λ n message reply records left known are served now. tt) sum_of_balances posted (c.bank_servers_step.ensures rule bank))

pub returns-clause-balanced : goal.returns-clause-balanced
returns-clause-balanced c = λ rule bank sound balance.
    c.measures_step_by_requests.ensures.balanced (behaviour rule (whole_bank bank)) (c.deck_laws.ensures rule (whole_bank bank) sound) tt
    (λ n message reply records left known are served now. tt) sum_of_balances posted (c.bank_servers_step.ensures rule bank) balance
