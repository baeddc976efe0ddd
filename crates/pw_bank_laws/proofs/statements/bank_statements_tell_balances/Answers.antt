use Rattle.pw_bank_laws.proofs.Steps.{bank-tells, stays}
use Rattle.pw_bank_laws.proofs.statements.bank_statements_tell_balances.Goals as goal
use Rattle.pw_bank_laws.specs.Servers.{whole_bank}
use Rattle.pw_bank_laws.specs.Statements.{untold}
use Rattle.pw_invariants.specs.Requests.{requests_of}
use Rattle.pw_tree_meaning.specs.OfDeck.{behaviour}

pub returns : goal.returns
returns c = λ rule bank sound account.
    let sys = behaviour rule (whole_bank bank) in
    c.measures_step_by_requests.ensures.balanced sys (c.deck_laws.ensures rule (whole_bank bank) sound) tt
    (λ n message reply records left known are served now. tt) (untold account) (λ value request. value) (bank-tells bank account rule)
    (λ unit records left alone now value. stays value (requests_of sys unit))
