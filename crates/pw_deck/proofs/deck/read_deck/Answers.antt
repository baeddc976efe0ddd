use Rattle.pw_base.specs.First.{Gives}
use Rattle.pw_base.specs.declared.fault.Fault.{Fault}
use Rattle.std.proofs.Common.{Result, sym, subst, arith}
use Rattle.pw_deck.specs.declared.deck.ParsedDeck.{ParsedDeck}
use Rattle.pw_deck.proofs.Decks.{read_rest, read_tables}
use Rattle.pw_deck.proofs.deck.read_deck.Goals as goal

pub returns-clause-tables : goal.returns-clause-tables
returns-clause-tables c =
    let whole = read_rest c.args.bytes.now c.in_ok-parts.parts (omega arith) c.in_ok-parts.ensures in
    read_tables c.args.bytes.now c.finish.result (subst (λ (r : Result ParsedDeck Fault). Gives (λ (deck : ParsedDeck). deck) c.finish.result r) (sym whole) c.finish.ensures)
