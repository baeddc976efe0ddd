use Rattle.std.proofs.Common.{length, sym}
use Rattle.pw_sections.specs.Parts.{cut, starts}
use Rattle.pw_sections.proofs.Cuts.{turn_here, turn_over, turn_end}
use Rattle.pw_sections.proofs.part.front_size.Goals as goal

pub loop-at-preserved : goal.loop-at-preserved
loop-at-preserved c =
    let passed = c.in-Some.ensures in
    record {
      within = passed.1;
      value = turn_over c.in-Some.count c.args.text.now c.loop-at.at (length (cut c.args.at_start c.args.text.now).front) c.args.at_start passed.1 passed.2 c.loop-at.invariant.value;
    }

pub returns-in-None-clause-value : goal.returns-in-None-clause-value
returns-in-None-clause-value c =
    turn_here c.args.text.now c.loop-at.at (length (cut c.args.at_start c.args.text.now).front) (starts c.args.at_start c.args.text.now c.loop-at.at) c.loop-at-test.true (sym c.in-None.ensures) c.loop-at.invariant.value

pub returns-clause-value : goal.returns-clause-value
returns-clause-value c =
    turn_end c.args.text.now c.loop-at.at (length (cut c.args.at_start c.args.text.now).front) (starts c.args.at_start c.args.text.now c.loop-at.at) c.loop-at-test.false c.loop-at.invariant.value
