use Rattle.pw_expand.proofs.Texts.{outputs-agree}
use Rattle.pw_expand.proofs.laws.expand_laws.Goals as goal

pub returns : goal.returns
returns c = outputs-agree
