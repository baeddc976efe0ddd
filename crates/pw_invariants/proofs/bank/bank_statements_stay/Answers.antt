use Rattle.pw_invariants.proofs.bank.bank_statements_stay.Goals as goal
use Rattle.pw_invariants.specs.Bank.{bank_deck}
use Rattle.pw_invariants.specs.Operations.{only_adds, takes_none}
use Rattle.pw_tree_meaning.specs.OfDeck.{behaviour}

pub returns-clause-statements : goal.returns-clause-statements
returns-clause-statements c = λ rule bank sound log more run key line now.
    c.files_are_as_servers_use_them.ensures.added (behaviour rule (bank_deck bank)) (c.deck_laws.ensures rule (bank_deck bank) sound) 1
    (c.servers_use_files_as_their_statements_say.ensures rule (bank_deck bank) sound 1 only_adds (c.bank_servers_use_its_files_so.ensures.statements bank))
    log more run key line now

pub returns-clause-accounts : goal.returns-clause-accounts
returns-clause-accounts c = λ rule bank sound log more run key now.
    c.files_are_as_servers_use_them.ensures.kept (behaviour rule (bank_deck bank)) (c.deck_laws.ensures rule (bank_deck bank) sound) 0
    (c.servers_use_files_as_their_statements_say.ensures rule (bank_deck bank) sound 0 takes_none (c.bank_servers_use_its_files_so.ensures.accounts bank))
    log more run key now
