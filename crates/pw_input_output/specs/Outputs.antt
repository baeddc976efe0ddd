-- The text of a call, and what becomes of it at the sink.
use Rattle.std.specs.Prelude.{◌≡◌, ◌⊎◌, ℕ, ◌<◌, List, length, take, Option}
use Rattle.std.specs.Io.KnownBytes.{Appends}
use Rattle.pw_base.specs.Outside.{Rose}
use Rattle.pw_input_output.specs.declared.status.Status.{Status}
use Rattle.pw_input_output.specs.declared.status.Status.TheVariants.{WriteFault}

-- the whole text was written, and the sink's count of faults is as it was
pub record IsWrittenWhole (text : List ℕ) (before now : Option (List ℕ)) (faults faults_then : ℕ) : Type 0 where
  pub all : Appends before now text
  pub count : faults_then ≡ faults

-- the sink failed behind a beginning of the text, which is not all, and has counted that
pub record IsOutputCut (text : List ℕ) (before now : Option (List ℕ)) (faults faults_then : ℕ) : Type 0 where
  pub taken : ℕ
  pub some : taken < length text
  pub begun : Appends before now (take taken text)
  pub rose : Rose faults faults_then

-- a text is written whole, and the status is the one that was given; or it is cut, and the status says so
abbrev pub EndsWriting : Status → Status → List ℕ → Option (List ℕ) → Option (List ℕ) → ℕ → ℕ → Type 0
EndsWriting given status text before now faults faults_then =
    ((status ≡ given) × IsWrittenWhole text before now faults faults_then)
    ⊎ ((status ≡ WriteFault) × IsOutputCut text before now faults faults_then)
