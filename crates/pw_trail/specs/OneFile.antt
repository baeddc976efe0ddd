-- The files of a deck with one file, as the tests have them.
use Rattle.std.specs.Prelude.{List, [], ◌∷◌, codes}
use Rattle.pw_code.specs.declared.file.FileInfo.{FileInfo}
use Rattle.pw_code.specs.declared.lock.LockRule.TheVariants.{ReadersShare}
use Rattle.pw_code.specs.declared.system.System.{System}

-- its keys have 2 characters, and it has no record
abbrev pub one_file : List FileInfo
one_file = record { name = codes "STOCK"; key = 2; records = [] } ∷ []

-- a system of it
abbrev pub one_file_system : System
one_file_system = record {
  programs = [];
  servers = [];
  screens = [];
  classes = [];
  files = one_file;
  tcps = [];
  terminals = [];
  rule = ReadersShare;
}
