-- A system and its failure lines, and what is known of them.
use Rattle.std.specs.Prelude.{◌-◌, ◌<◌, ◌^◌, All, List, length}
use Rattle.pw_code.specs.Valid.{IsValid}
use Rattle.pw_code.specs.declared.system.System.{System}
use Rattle.pw_code_meaning.specs.OfSystem.{behaviour}
use Rattle.pw_event.specs.declared.script.FailLine.{FailLine}
use Rattle.pw_onecopy.specs.IsBehaviour.{IsBehaviour}
use Rattle.pw_world_state.specs.May.{IsLineThere}

-- what contracts see of a setup
pub record SetupState : Type 0 where
  pub system : System
  pub script : List FailLine

-- the paired system may run it: the system is valid and behaves as that of a deck, and has what its failure lines name
pub record IsSetup (system : System) (script : List FailLine) : Type 0 where
  pub valid : IsValid system
  pub deck : IsBehaviour (behaviour script system)
  pub lines : All (IsLineThere system) script
  pub few : length script < 2 ^ 32 - 1
