-- Code and screens whose numbers fit a `u32`.
use Rattle.std.specs.Prelude.{◌<◌, ◌^◌, length, All}
use Rattle.pw_code.specs.declared.code.Code.{Code}
use Rattle.pw_code.specs.declared.system.System.{System}

-- the places of a code's instructions do
abbrev pub IsShort : Code → Type 0
IsShort code = length code.instrs < 2 ^ 32

-- those of each code of a system do, and the numbers of its screens
pub record IsSmall (system : System) : Type 0 where
  pub programs : All IsShort system.programs
  pub servers : All IsShort system.servers
  pub screens : length system.screens < 2 ^ 32
