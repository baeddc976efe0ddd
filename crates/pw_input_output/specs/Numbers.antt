-- The exit statuses.
use Rattle.std.specs.Prelude.{ℕ}
use Rattle.pw_input_output.specs.declared.status.Status.{Status}
use Rattle.pw_input_output.specs.declared.status.Status.TheVariants.{DiscFault, Finished, Irregular, Limit, Memory, NotAStep, ReadFault, Refused, Usage, WriteFault}

-- the number of each status
abbrev pub status_number : Status → ℕ
status_number Finished = 0
status_number Irregular = 1
status_number Refused = 2
status_number Limit = 3
status_number ReadFault = 4
status_number WriteFault = 5
status_number Memory = 6
status_number Usage = 7
status_number NotAStep = 8
status_number DiscFault = 9
