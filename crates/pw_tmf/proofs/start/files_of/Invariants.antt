use Rattle.std.proofs.Common.{◌≡◌, List, map, take}
use Rattle.pw_blocks.specs.Blocks.{BlocksState}
use Rattle.pw_code.specs.declared.file.FileInfo.{FileInfo}
use Rattle.pw_tmf.specs.Starting.{key_in, key_in_system, records_in, records_in_system}
use Rattle.pw_tmf.proofs.start.files_of.Given as goal

-- the files so far are those of the system
pub record AreMade (files : List FileInfo) (made : List BlocksState) : Type 0 where
  pub keys : map key_in made ≡ map key_in_system files
  pub records : map records_in made ≡ map records_in_system files

abbrev pub invariant-loop-file : goal.invariant-loop-file
invariant-loop-file l = AreMade (take l.file-index l.files) l.made.items
