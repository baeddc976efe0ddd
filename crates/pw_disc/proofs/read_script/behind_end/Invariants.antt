use Rattle.std.proofs.Common.{◌≡◌, length}
use Rattle.pw_sections.specs.Lines.{lines}
use Rattle.pw_disc.specs.Script.{behind_end}
use Rattle.pw_disc.proofs.read_script.behind_end.Given as goal

abbrev pub invariant-loop-line : goal.invariant-loop-line
invariant-loop-line l = behind_end l.number (lines l.rest) ≡ behind_end 1 (lines l.text)

abbrev pub decreases-loop-line : goal.decreases-loop-line
decreases-loop-line l = length l.rest
