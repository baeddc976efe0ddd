use Rattle.pw_tree_meaning.proofs.sides.Pieces.{procedure-forms}
use Rattle.pw_tree_meaning.proofs.laws.form_laws.Goals as goal

pub returns : goal.returns
returns c = procedure-forms
