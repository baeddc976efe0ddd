-- Steps of a reading, of which the first that is refused is the fault.
pub use Rattle.pw_base.specs.Steps.{◌>>=◌}
use Rattle.std.specs.Prelude.{ℕ, ◌+◌, Bool, true, false, List, [], ◌∷◌, Option, None, Some, Result, Ok, Err, if◌then◌else◌}
use Rattle.pw_base.specs.declared.fault.Fault.{Fault}
use Rattle.pw_sections.specs.Words.{words}
use Rattle.pw_base.specs.declared.fault_code.FaultCode.{FaultCode}

-- the fault of a code on a line
abbrev pub fault_at : ℕ → FaultCode → Fault
fault_at line code = record { line = line; code = code }

-- a line is refused for a code
abbrev pub refused : {A : Type 0} → ℕ → FaultCode → Result A Fault
refused line code = Err (fault_at line code)

-- what is there; where there is nothing, the line is refused for a code
abbrev pub or_refused : {A : Type 0} → ℕ → FaultCode → Option A → Result A Fault
or_refused line code None = refused line code
or_refused line code (Some value) = Ok value

-- the fault, where it is one
abbrev pub only_if : Bool → Fault → List Fault
only_if is_fault fault = if is_fault then fault ∷ [] else []

-- no word is there
abbrev pub is_empty : List (List ℕ) → Bool
is_empty [] = true
is_empty (word ∷ rest) = false

-- no word is on the line
abbrev pub is_blank : List ℕ → Bool
is_blank line = is_empty (words line)

-- a line is taken by a step, where a word is on it
abbrev pub line_taken : {S : Type 0} → (ℕ → S → List ℕ → Result S Fault) → ℕ → S → List ℕ → Result S Fault
line_taken step number state line = if is_blank line then Ok state else step number state line

-- The lines that are not blank are taken one after the other. The first line has a number.
unfoldable pub each_line : {S : Type 0} → (ℕ → S → List ℕ → Result S Fault) → ℕ → S → List (List ℕ) → Result S Fault
each_line step number state [] = Ok state
each_line step number state (line ∷ rest) = line_taken step number state line >>= (λ next. each_line step (number + 1) next rest)
