use Rattle.pw_deck_bounds.proofs.laws.tested_decks_end.Goals as goal
use Rattle.pw_deck_bounds.proofs.Paths.{tested-end}

pub returns : goal.returns
returns c = tested-end
