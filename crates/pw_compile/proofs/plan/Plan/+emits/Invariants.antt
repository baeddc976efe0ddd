-- The code so far, with what is left, is all.
use Rattle.std.proofs.Common.{◌≡◌, ◌++◌, drop}
use Rattle.pw_compile.specs.Emitted.{body_code}
use Rattle.pw_compile.proofs.plan.Plan.+emits.Given as goal

abbrev pub invariant-emit_body-loop-statement : goal.invariant-emit_body-loop-statement
invariant-emit_body-loop-statement l = l.code ++ body_code l.self (drop l.statement-index l.body) ≡ l.fn.code ++ body_code l.self l.body
