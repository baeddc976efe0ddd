use Rattle.std.proofs.Common.{refl}
use Rattle.pw_world_model.proofs.Idle.{idle}
use Rattle.pw_world_model.proofs.claiming.claim_laws.Goals as goal

pub returns-clause-work : goal.returns-clause-work
returns-clause-work c world books actor w of inside may = record { actor = of; inside = inside; may = may; stamp = w.books.stamps actor of; work = refl }

pub returns-clause-idle : goal.returns-clause-idle
returns-clause-idle c world books w unfinished out = record {
  unfinished = unfinished;
  each = λ actor of may. out actor of (w.books.marked actor of may);
  one = idle world books w unfinished;
}
