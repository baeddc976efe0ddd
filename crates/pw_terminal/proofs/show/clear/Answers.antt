-- All cells are written over.
use Rattle.std.proofs.Common.{ℕ, ◌∙◌, replicate, arith}
use Rattle.std.proofs.lemmas.List.{length-replicate}
use Rattle.pw_terminal.proofs.Written.{written-end}
use Rattle.pw_terminal.proofs.show.clear.Goals as goal

pub returns-then-base : goal.returns-then-base
returns-then-base c = rw c.if-base.true (c.put.ensures.cells ∙ written-end 0 (replicate 1920 32) c.args.image.now (omega (arith, length-replicate {A = ℕ} 1920 32, c.put.ensures.whole)))
