use Rattle.pw_order_laws.proofs.orders.orders_are_numbered_without_a_gap.Goals as goal
use Rattle.pw_order_laws.specs.Servers.{order_deck}
use Rattle.pw_tree_meaning.specs.OfDeck.{behaviour}

pub returns : goal.returns
returns c = λ rule choices sound first log run.
    let sys = behaviour rule (order_deck choices) in
    let is = c.deck_laws.ensures rule (order_deck choices) sound in
    c.invariants_hold_in_every_run.ensures.committed sys is first
    (c.servers_keep_invariants.ensures.units sys is (c.order_servers_keep_numbers.ensures rule choices)) log run
