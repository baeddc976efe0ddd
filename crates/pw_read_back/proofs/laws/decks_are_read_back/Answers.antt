use Rattle.pw_read_back.proofs.Decks.{deck-read}
use Rattle.pw_read_back.proofs.laws.decks_are_read_back.Goals as goal

pub returns : goal.returns
returns c = deck-read
