use Rattle.pw_invariants.specs.Invariants.{stepped}
use Rattle.pw_invariants.specs.Requests.{requests_of}
use Rattle.pw_order_laws.proofs.Supply.{taken-ordered}
use Rattle.pw_order_laws.proofs.taken.supply_is_as_requested.Goals as goal
use Rattle.pw_order_laws.specs.Servers.{order_deck}
use Rattle.pw_order_laws.specs.Stock.{supply, supply_behind}
use Rattle.pw_paired.specs.Step.{after}
use Rattle.pw_paired.specs.Units.{committed_files}
use Rattle.pw_tree_meaning.specs.OfDeck.{behaviour}

pub returns-clause-committed : goal.returns-clause-committed
returns-clause-committed c = λ items rule choices sound.
    let sys = behaviour rule (order_deck choices) in
    let is = c.deck_laws.ensures rule (order_deck choices) sound in
    c.measures_step_by_units.ensures.committed sys is tt (λ unit records left alone now. tt) (supply items) (λ value unit. stepped (supply_behind items) value (requests_of sys unit))
    (c.measures_step_by_requests.ensures.units sys is (λ n message reply records left known are served now. tt) (supply items) (supply_behind items) (c.order_servers_supply.ensures items rule choices))

pub returns-clause-reported : goal.returns-clause-reported
returns-clause-reported c = λ items rule choices sound.
    let sys = behaviour rule (order_deck choices) in
    let is = c.deck_laws.ensures rule (order_deck choices) sound in
    c.measures_step_by_units.ensures.reported sys is tt (λ unit records left alone now. tt) (supply items) (λ value unit. stepped (supply_behind items) value (requests_of sys unit))
    (c.measures_step_by_requests.ensures.units sys is (λ n message reply records left known are served now. tt) (supply items) (supply_behind items) (c.order_servers_supply.ensures items rule choices))

pub returns-clause-balanced : goal.returns-clause-balanced
returns-clause-balanced c = λ items rule choices sound balance log run.
    let sys = behaviour rule (order_deck choices) in
    taken-ordered items sys.records (committed_files sys (after sys log))
    (c.measures_step_by_requests.ensures.balanced sys (c.deck_laws.ensures rule (order_deck choices) sound) tt
    (λ n message reply records left known are served now. tt) (supply items) (supply_behind items) (c.order_servers_supply.ensures items rule choices) balance log run)
