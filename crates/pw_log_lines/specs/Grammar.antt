-- Lines of the grammar, and lines whose names the system has.
use Rattle.std.specs.Prelude.{ℕ, [], Bool, true, false, Result, Ok, Err}
use Rattle.pw_base.specs.declared.fault.Fault.{Fault}
use Rattle.pw_base.specs.declared.fault_code.FaultCode.TheVariants.{UnknownObject}
use Rattle.pw_code.specs.declared.lock.LockRule.{LockRule}
use Rattle.pw_code.specs.declared.system.System.{System}
use Rattle.pw_event.specs.declared.fault.EventFault.{EventFault}
use Rattle.pw_event.specs.declared.fault.EventFault.TheVariants.{Bad, Unknown, Memory}
use Rattle.pw_sections.specs.Steps.{refused}

-- a system in which nothing has a name, under a rule of locking
abbrev pub nobody : LockRule → System
nobody rule = record {
  programs = [];
  servers = [];
  screens = [];
  classes = [];
  files = [];
  tcps = [];
  terminals = [];
  rule = rule;
}

-- what was read is outside the grammar
abbrev pub is_bad : {A : Type 0} → Result A EventFault → Bool
is_bad (Ok value) = false
is_bad (Err Bad) = true
is_bad (Err Unknown) = false
is_bad (Err Memory) = false

-- what was read of a line, where the system has all that the line names
abbrev pub or_unknown : {A : Type 0} → ℕ → Result A EventFault → Result A Fault
or_unknown line (Ok value) = Ok value
or_unknown line (Err fault) = refused line UnknownObject
