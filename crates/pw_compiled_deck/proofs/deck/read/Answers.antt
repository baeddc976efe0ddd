-- The system of a deck that was read is valid, and behaves as its trees do.
use Rattle.std.proofs.Common.{◌≡◌, Ok, sym, ap, ◌∙◌, subst}
use Rattle.pw_compiled_deck.proofs.Read.{read-valid, read-behaves, read-same, read-few, read-lines}
use Rattle.pw_compiled_deck.proofs.deck.read.Goals as goal

pub returns-clause-valid : goal.returns-clause-valid
returns-clause-valid c = read-valid c.args.bytes.now c.in_ok-deck.deck c.in_ok-compiled.field-0 c.in_ok-deck.ensures.gives c.in_ok-compiled.ensures.deck c.in_ok-compiled.ensures.small

pub returns-clause-behaves : goal.returns-clause-behaves
returns-clause-behaves c = read-behaves c.args.bytes.now c.in_ok-deck.deck c.in_ok-compiled.field-0 c.in_ok-deck.ensures.gives c.in_ok-compiled.ensures.deck c.in_ok-compiled.ensures.small

pub returns-clause-same : goal.returns-clause-same
returns-clause-same c =
    λ deck is. read-same c.args.bytes.now c.in_ok-deck.deck deck c.in_ok-compiled.field-0 c.in_ok-deck.ensures.gives is c.in_ok-compiled.ensures.deck c.in_ok-compiled.ensures.small

pub returns-clause-few : goal.returns-clause-few
returns-clause-few c = read-few c.args.bytes.now c.in_ok-deck.deck c.in_ok-compiled.field-0 c.in_ok-deck.ensures.gives c.in_ok-compiled.ensures.deck

pub returns-clause-lines : goal.returns-clause-lines
returns-clause-lines c = read-lines c.args.bytes.now c.in_ok-deck.deck c.in_ok-compiled.field-0 c.in_ok-deck.ensures.gives c.in_ok-compiled.ensures.deck
