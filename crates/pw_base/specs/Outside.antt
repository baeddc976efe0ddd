-- What a source and a sink tell of themselves.
use Rattle.std.specs.Prelude.{◌≡◌, ℕ, ◌+◌, ◌-◌, ◌^◌, ◌≤◌, ◌<◌, ◌==◌, min, Bool, List, length, take, Option, Result, Ok, Err}
use Rattle.std.specs.List.{list_any}
use Rattle.std.specs.Io.KnownBytes.{Consumes, Appends, Keeps, IsAtEnd}
use Rattle.pw_base.specs.declared.source.Got.{Got}
use Rattle.pw_base.specs.declared.source.Got.TheVariants as got
use Rattle.pw_base.specs.declared.sink.Took.{Took}
use Rattle.pw_base.specs.declared.sink.Took.TheVariants as took

-- one more, or the end of the type where the count stands there
abbrev pub counted : ℕ → ℕ
counted count = min (count + 1) (2 ^ 64 - 1)

-- a count of faults has risen, or stands at its type's end
abbrev pub Rose : ℕ → ℕ → Type 0
Rose before now = counted before ≤ now

-- how the count of faults goes on at a read: it rises where the read fails, and else it stays
abbrev pub CountsRead : Got → ℕ → ℕ → Type 0
CountsRead (got.Got count) before now = now ≡ before
CountsRead got.End before now = now ≡ before
CountsRead got.Failed before now = Rose before now

-- how the count of faults goes on at a write: it rises where the write fails, and else it stays
abbrev pub CountsWrite : Took → ℕ → ℕ → Type 0
CountsWrite (took.Took count) before now = now ≡ before
CountsWrite took.Failed before now = Rose before now

-- the count of faults after a read
abbrev pub faults_after_read : Got → ℕ → ℕ
faults_after_read (got.Got count) faults = faults
faults_after_read got.End faults = faults
faults_after_read got.Failed faults = counted faults

-- the count of faults after a write
abbrev pub faults_after_write : Took → ℕ → ℕ
faults_after_write (took.Took count) faults = faults
faults_after_write took.Failed faults = counted faults

-- after this many calls the next one, by its number from 1, is listed
abbrev pub is_listed : List ℕ → ℕ → Bool
is_listed numbers calls = list_any (λ number. number == counted calls) numbers

-- What a read does to the bytes that are left, where they are told: those that it gave are left no more,
-- the end comes only where none is left, and a failure leaves them as they were.
abbrev pub Reads : Got → List ℕ → Option (List ℕ) → Option (List ℕ) → Type 0
Reads (got.Got count) buffer before now = (1 ≤ count) × (count ≤ length buffer) × Consumes before now (take count buffer)
Reads got.End buffer before now = Keeps before now × IsAtEnd now
Reads got.Failed buffer before now = Keeps before now

-- what a write does to the bytes that were written, where they are told: it appends what it took of the piece
abbrev pub Writes : Took → List ℕ → Option (List ℕ) → Option (List ℕ) → Type 0
Writes (took.Took count) piece before now = (1 ≤ count) × (count ≤ length piece) × Appends before now (take count piece)
Writes took.Failed piece before now = Keeps before now

-- all of the piece was appended, or at `Err(n)` its first n bytes, which are not all
abbrev pub WritesAll : Result Unit ℕ → List ℕ → Option (List ℕ) → Option (List ℕ) → Type 0
WritesAll (Ok done) piece before now = Appends before now piece
WritesAll (Err count) piece before now = (count < length piece) × Appends before now (take count piece)

-- how the count of faults goes on at a writing of all: it rises at an Err, and else it stays
abbrev pub CountsWriteAll : Result Unit ℕ → ℕ → ℕ → Type 0
CountsWriteAll (Ok done) before now = now ≡ before
CountsWriteAll (Err count) before now = Rose before now
