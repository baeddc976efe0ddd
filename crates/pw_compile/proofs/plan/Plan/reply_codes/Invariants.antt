-- The codes so far are those of the codes so far.
use Rattle.std.proofs.Common.{◌≡◌, take}
use Rattle.std.specs.Prelude.{map}
use Rattle.pw_compile.specs.Emitted.{reply_code}
use Rattle.pw_compile.proofs.plan.Plan.reply_codes.Given as goal

abbrev pub invariant-loop-code : goal.invariant-loop-code
invariant-loop-code l = l.found ≡ map (reply_code l.self) (take l.code-index l.codes)
