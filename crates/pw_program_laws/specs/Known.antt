-- What is known of a server at a moment of its run by itself.
use Rattle.std.specs.Prelude.{◌≡◌, ℕ, List}
use Rattle.pw_program_laws.specs.Texts.{HaveSizes, texts_in}
use Rattle.pw_tree_meaning.specs.Program.{Program}
use Rattle.pw_tree_meaning.specs.State.{ProgramState, Registers, no_registers}
use Rattle.pw_tree_meaning.specs.Store.{initial_store}

-- the records of each file, by its number
abbrev pub RecordsByFile : Type 0
RecordsByFile = ℕ → List (List ℕ)

-- the texts of its elementary items, the registers, and the files
pub record KnownMoment : Type 0 where
  pub texts : List (List ℕ)
  pub registers : Registers
  pub files : RecordsByFile

-- a state of items of these sizes of which this is known
pub record IsKnownAt (sizes : List ℕ) (k : KnownMoment) (s : ProgramState) : Type 0 where
  pub texts : texts_in s.store ≡ k.texts
  pub sized : HaveSizes sizes k.texts
  pub registers : s.registers ≡ k.registers
  pub files : s.files ≡ k.files

-- the start of a program on these files
abbrev pub known_start : Program → RecordsByFile → KnownMoment
known_start program files =
    record { texts = texts_in (initial_store program); registers = no_registers; files = files }

-- behind an operation on a file: FILE-STATUS is its status
abbrev pub with_status : ℕ → KnownMoment → KnownMoment
with_status status k = record k { registers = record k.registers { file_status = status } }
