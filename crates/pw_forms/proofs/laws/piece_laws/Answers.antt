use Rattle.pw_forms.proofs.Cuts.{cut-joined}
use Rattle.pw_forms.proofs.laws.piece_laws.Goals as goal

pub returns : goal.returns
returns c = cut-joined
