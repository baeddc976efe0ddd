-- A failure line of a system.
use Rattle.pw_code.specs.declared.system.System.{System}
use Rattle.pw_event.specs.Fails.{IsFailInRange, IsFailThere}
use Rattle.pw_event.specs.declared.script.FailLine.{FailLine}

-- the pair or process that it names is there, and its numbers are in range
abbrev pub IsFailNamed : System → FailLine → Type 0
IsFailNamed system line = IsFailThere system line × IsFailInRange line
