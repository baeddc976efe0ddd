-- Decks without a fault.
use Rattle.std.specs.Prelude.{◌≡◌, ℕ, List, Ok}
use Rattle.pw_deck.specs.Deck.{deck_of}
use Rattle.pw_deck.specs.declared.deck.ParsedDeck.{ParsedDeck}

-- the bytes are a deck, and it has no fault
abbrev pub IsFaultless : List ℕ → Type 0
IsFaultless bytes = (deck : ParsedDeck) × (deck_of bytes ≡ Ok deck)
