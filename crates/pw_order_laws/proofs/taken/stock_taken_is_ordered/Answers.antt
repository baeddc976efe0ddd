use Rattle.std.proofs.Common.{List, [], ◌∷◌, sym, ◌∙◌}
use Rattle.pw_code.specs.declared.field.ScreenTable.{ScreenTable}
use Rattle.pw_onecopy.specs.OneCopy.{one_copy}
use Rattle.pw_order_laws.proofs.Supply.{ordered-supply, taken-ordered}
use Rattle.pw_order_laws.proofs.taken.stock_taken_is_ordered.Goals as goal
use Rattle.pw_order_laws.specs.Clerk.{clerk, clerk_deck}
use Rattle.pw_order_laws.specs.Servers.{OrderChoices}
use Rattle.pw_paired.specs.Serial.{blocks}
use Rattle.pw_paired.specs.Step.{after}
use Rattle.pw_paired.specs.Units.{committed_files}
use Rattle.pw_tree_meaning.specs.OfDeck.{behaviour}

-- the choices of an order entry whose terminals run ORDERS
abbrev with_clerk : List ScreenTable → OrderChoices → OrderChoices
with_clerk screens choices = record choices { rest = record choices.rest { programs = clerk screens ∷ [] } }

pub returns-clause-committed : goal.returns-clause-committed
returns-clause-committed c = λ items rule screens choices sound log run.
    c.supply_is_as_requested.ensures.balanced items rule (with_clerk screens choices) sound (c.order_units_balance.ensures items rule screens choices sound) log run

pub returns-clause-reported : goal.returns-clause-reported
returns-clause-reported c = λ items rule screens choices sound log run.
    let sys = behaviour rule (clerk_deck screens choices) in
    let now = committed_files sys (after sys log) in
    taken-ordered items sys.records (one_copy sys (blocks sys log)).files
    (c.supply_is_as_requested.ensures.reported items rule (with_clerk screens choices) sound log run
    ∙ sym (c.supply_is_as_requested.ensures.committed items rule (with_clerk screens choices) sound log run)
    ∙ ordered-supply items sys.records now
    (c.supply_is_as_requested.ensures.balanced items rule (with_clerk screens choices) sound (c.order_units_balance.ensures items rule screens choices sound) log run))
