-- The code so far, with what is left, is all.
use Rattle.std.proofs.Common.{◌≡◌, ◌++◌, drop}
use Rattle.pw_compile.specs.Emitted.{procedure_code}
use Rattle.pw_compile.proofs.plan.Plan.emit_all.Given as goal

abbrev pub invariant-loop-paragraph : goal.invariant-loop-paragraph
invariant-loop-paragraph l = l.code ++ procedure_code l.self l.at (drop l.paragraph-index l.paragraphs) ≡ l.fn.code ++ procedure_code l.self 0 l.paragraphs
