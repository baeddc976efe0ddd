use Rattle.std.proofs.Common.{sym, ◌∙◌, arith}
use Rattle.pw_screen.proofs.Marks.{any-marked, any-unmarked}
use Rattle.pw_screen.proofs.cells.has_mark.Goals as goal

pub returns-then-marks-place : goal.returns-then-marks-place
returns-then-marks-place c =
    sym (any-marked c.args.marks.now c.loop-left.place c.loop-left.left c.loop-left-test.true c.if-marks-place.true) ∙ c.loop-left.invariant.so_far

pub loop-left-preserved : goal.loop-left-preserved
loop-left-preserved c = record {
  within = omega arith;
  so_far = any-unmarked c.args.marks.now c.loop-left.place c.loop-left.left c.loop-left-test.true c.if-marks-place.false ∙ c.loop-left.invariant.so_far;
}
