use Rattle.pw_bank_laws.proofs.accounts.bank_accounts_keep_their_form.Goals as goal
use Rattle.pw_bank_laws.specs.Servers.{whole_bank}
use Rattle.pw_tree_meaning.specs.OfDeck.{behaviour}

pub returns : goal.returns
returns c = λ rule bank sound first log run.
    let sys = behaviour rule (whole_bank bank) in
    let is = c.deck_laws.ensures rule (whole_bank bank) sound in
    c.invariants_hold_in_every_run.ensures.committed sys is first
    (c.servers_keep_invariants.ensures.units sys is (c.bank_servers_keep_accounts.ensures rule bank)) log run
