use Rattle.std.proofs.Common.{◌≡◌, [], length}
use Rattle.pw_sections.specs.Lines.{lines}
use Rattle.pw_sections.specs.Steps.{each_line}
use Rattle.pw_disc.specs.Script.{disc_line_read}
use Rattle.pw_disc.proofs.read_script.lines_of.Given as goal

abbrev pub invariant-loop-line : goal.invariant-loop-line
invariant-loop-line l = each_line disc_line_read l.number l.own (lines l.rest) ≡ each_line disc_line_read l.first_line [] (lines l.text)

abbrev pub decreases-loop-line : goal.decreases-loop-line
decreases-loop-line l = length l.rest
