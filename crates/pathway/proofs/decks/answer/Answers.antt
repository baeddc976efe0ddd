use Rattle.pw_deck.specs.Deck.{deck_of}
use Rattle.pathway.specs.Decks.{DefinesBy}
use Rattle.pathway.proofs.Inputs.{deck-fault, refuses}
use Rattle.pathway.proofs.decks.answer.Goals as goal

pub returns-in-Err-At : goal.returns-in-Err-At
returns-in-Err-At c =
    let fault = rw c.in-Err-At.field-0-is at c.in-Err-At.ensures.fault in
    let bytes = c.args.bytes.now in
    refuses (λ status text. DefinesBy c.args.command status bytes text) (deck_of bytes) _ c.refused.result (deck-fault c.args.command bytes) fault c.refused.ensures
