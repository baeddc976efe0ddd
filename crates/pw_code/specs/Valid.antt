-- A system whose numbers name what is there, and which keeps the limits.
use Rattle.std.specs.Prelude.{ℕ, ◌+◌, ◌<◌, ◌≤◌, ◌^◌, Bool, true, false, length, map, take, All}
use Rattle.std.specs.List.{IsDistinct}
use Rattle.std.specs.Str.{bytes_eq}
use Rattle.pw_base.specs.Lengths.{IsKeyLength, IsContent}
use Rattle.pw_base.specs.Limits.{most_storage}
use Rattle.pw_code.specs.Entry.{EntryLineModel}
use Rattle.pw_code.specs.Instrs.{AreInstrs}
use Rattle.pw_code.specs.Limits.{most_programs, most_servers, most_classes, most_processes, most_files, most_tcps, most_terminals, most_restarts, most_entry_lines, last_key}
use Rattle.pw_code.specs.Names.{AreNames}
use Rattle.pw_code.specs.declared.code.Code.{Code}
use Rattle.pw_code.specs.declared.file.FileInfo.{FileInfo}
use Rattle.pw_code.specs.declared.system.ClassInfo.{ClassInfo}
use Rattle.pw_code.specs.declared.system.System.{System}
use Rattle.pw_code.specs.declared.system.TermInfo.{TermInfo}

-- an item of a program's linkage lies in its storage
abbrev pub IsLinked : ℕ → ℕ × ℕ → Type 0
IsLinked storage item = item.0 + item.1 ≤ storage

-- The code of a server or of a terminal's program. Its places, and the one behind its last instruction, fit a `u32`.
pub record IsCode (server : Bool) (system : System) (code : Code) : Type 0 where
  pub places : length code.instrs < 2 ^ 32
  pub instrs : AreInstrs server system code code.instrs
  pub storage : length code.storage ≤ most_storage
  pub linkage : All (IsLinked (length code.storage)) code.linkage

-- the key of an entry line is F1 to F16 or SF1 to SF16
abbrev pub HasFunctionKey : EntryLineModel → Type 0
HasFunctionKey entry = (1 ≤ entry.key) × (entry.key ≤ last_key)

-- a terminal's pair and program are the system's, and it keeps its limits
pub record IsTerminal (system : System) (terminal : TermInfo) : Type 0 where
  pub pair : terminal.tcp < length system.tcps
  pub program : terminal.program < length system.programs
  pub restarts : terminal.max_restarts ≤ most_restarts
  pub few : length terminal.entries ≤ most_entry_lines
  pub keys : All HasFunctionKey terminal.entries

-- a class's server is the system's, and it has a process and not too many
pub record IsClass (system : System) (class : ClassInfo) : Type 0 where
  pub server : class.server < length system.servers
  pub some : 1 ≤ class.processes
  pub few : class.processes ≤ most_processes

-- a file's keys and records have lengths that they may have, and no key stands twice
pub record IsDeckFile (file : FileInfo) : Type 0 where
  pub key : IsKeyLength file.key
  pub contents : All (IsContent file.key) file.records
  pub distinct : IsDistinct bytes_eq (map (λ content. take file.key content) file.records)

-- pairs, terminals, classes and files have names
pub record HasNames (system : System) : Type 0 where
  pub tcps : AreNames system.tcps
  pub terminals : AreNames (map (λ terminal. terminal.name) system.terminals)
  pub classes : AreNames (map (λ class. class.name) system.classes)
  pub files : AreNames (map (λ file. file.name) system.files)

-- there are not too many of each kind
pub record HasFew (system : System) : Type 0 where
  pub programs : length system.programs ≤ most_programs
  pub servers : length system.servers ≤ most_servers
  pub screens : length system.screens < 2 ^ 32
  pub classes : length system.classes ≤ most_classes
  pub files : length system.files ≤ most_files
  pub tcps : length system.tcps ≤ most_tcps
  pub terminals : length system.terminals ≤ most_terminals

-- the system is one that a deck may say
pub record IsValid (system : System) : Type 0 where
  pub programs : All (IsCode false system) system.programs
  pub servers : All (IsCode true system) system.servers
  pub terminals : All (IsTerminal system) system.terminals
  pub classes : All (IsClass system) system.classes
  pub files : All IsDeckFile system.files
  pub names : HasNames system
  pub few : HasFew system
