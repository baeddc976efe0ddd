use Rattle.std.proofs.Common.{length}
use Rattle.pw_disc.specs.Lines.{acting}
use Rattle.pw_disc.proofs.LineLemmas.{not_lost, some_less}
use Rattle.pw_disc.proofs.laws.never_lost_laws.Goals as goal

pub returns-clause-next : goal.returns-clause-next
returns-clause-next c = not_lost

pub returns-clause-behind : goal.returns-clause-behind
returns-clause-behind c = λ done lines never. some_less (length (acting done lines)) lines never

pub returns-clause-one_less : goal.returns-clause-one_less
returns-clause-one_less c = λ lines never. some_less 1 lines never
