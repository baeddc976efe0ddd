-- The failure lines of a deck.
use Rattle.std.specs.Prelude.{ℕ, ◌+◌, List, [], ◌∷◌, ◌++◌, nat_le, Result, Ok, if◌then◌else◌}
use Rattle.pw_base.specs.declared.fault.Fault.{Fault}
use Rattle.pw_base.specs.declared.fault_code.FaultCode.TheVariants.{BadFailureLine, TooMany}
use Rattle.pw_code.specs.Limits.{most_fail_lines}
use Rattle.pw_code.specs.declared.lock.LockRule.TheVariants.{ReadersShare}
use Rattle.pw_code.specs.declared.system.System.{System}
use Rattle.pw_event.specs.Parsing.{failure_in}
use Rattle.pw_event.specs.declared.script.FailLine.{FailLine}
use Rattle.pw_sections.specs.Lines.{lines}
use Rattle.pw_sections.specs.Steps.{◌>>=◌, refused, each_line}
use Rattle.pw_log_lines.specs.Grammar.{nobody, is_bad, or_unknown}

-- a failure line is of the grammar, and stands behind not too many others
abbrev pub failure_counted : ℕ → ℕ → List ℕ → Result ℕ Fault
failure_counted number count line =
    if is_bad (failure_in (nobody ReadersShare) line) then refused number BadFailureLine
    else (if nat_le most_fail_lines count then refused number TooMany else Ok (count + 1))

-- how many failure lines a text has, whose first line has a number
abbrev pub failures_counted : List ℕ → ℕ → Result ℕ Fault
failures_counted text first_line = each_line failure_counted first_line 0 (lines text)

-- a failure line of the system is read behind the others
abbrev pub failure_read : System → ℕ → List FailLine → List ℕ → Result (List FailLine) Fault
failure_read system number fails line =
    or_unknown number (failure_in system line) >>= (λ fail. Ok (fails ++ fail ∷ []))

-- the failure lines of a text whose first line has a number
abbrev pub failures_of : System → List ℕ → ℕ → Result (List FailLine) Fault
failures_of system text first_line = each_line (failure_read system) first_line [] (lines text)
