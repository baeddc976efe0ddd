use Rattle.pw_tree_meaning.proofs.Behaviours.{sound-behaviour}
use Rattle.pw_tree_meaning.proofs.laws.deck_laws.Goals as goal

pub returns : goal.returns
returns c = sound-behaviour
