use Rattle.pw_deck_bounds.proofs.laws.servers_end.Goals as goal
use Rattle.pw_deck_bounds.proofs.ServerRuns.{served-few}

pub returns : goal.returns
returns c = λ rule deck k message done call served asks. served-few rule deck k message done call served asks
