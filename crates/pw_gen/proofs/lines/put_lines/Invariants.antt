use Rattle.std.proofs.Common.{◌≡◌, ◌++◌, drop}
use Rattle.pw_gen.specs.Generated.{text_of}
use Rattle.pw_gen.proofs.Texts.{lines_at}
use Rattle.pw_gen.proofs.lines.put_lines.Given as goal

abbrev pub invariant-loop-line : goal.invariant-loop-line
invariant-loop-line l = l.text ++ text_of (lines_at (drop l.line-index l.lines)) ≡ l.initial.text ++ text_of (lines_at l.lines)
