use Rattle.std.proofs.Common.{arith, ◌-◌, length, ◌∙◌}
use Rattle.pw_terminal.proofs.Trimmed.{trimmed-front}
use Rattle.pw_terminal.proofs.printing.trim_runs.Goals as goal

pub loop-kept-preserved : goal.loop-kept-preserved
loop-kept-preserved c =
    let kept = c.loop-kept.kept.now in
    let end = length kept - 16 in
    let blank = rw c.split_at.ensures.back at (c.is_blank.ensures.0 c.if-is_blank.true) in
    record {
      within = omega (arith, c.loop-kept.invariant.within);
      same = rw c.split_at.ensures.front (trimmed-front kept end blank ∙ c.loop-kept.invariant.same);
    }
