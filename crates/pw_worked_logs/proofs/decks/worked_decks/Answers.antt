use Rattle.pw_worked_logs.proofs.decks.worked_decks.Goals as goal
use Rattle.pw_worked_logs.proofs.DeckLaws.{behaves}

pub returns : goal.returns
returns c = behaves
