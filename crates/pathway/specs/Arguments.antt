-- The arguments of a process as the host gives them, and the words that they tell.
use Rattle.std.specs.Prelude.{◌≡◌, ℕ, List, [], Result, Ok, Err, String, drop, map, string_bytes}
use Rattle.std.specs.IoError.{error_kind}
use Rattle.std.specs.Vec.Iter.{into_iter_items}
use Rattle.std.specs.declared.io.Error.{Error}
use Rattle.std.specs.declared.io.ErrorKind.TheVariants.{OutOfMemory}
use Rattle.std.specs.declared.vec.IntoIter.{IntoIter}

-- what the host gives: the program's name and the words behind it, or an error
abbrev pub Arguments : Type 0 → Type 0
Arguments A = Result (IntoIter (String A) A) Error

-- the words of the command line: those behind the program's name, and none where the host gives an error
abbrev pub words_told : {A : Type 0} → Arguments A → List (List ℕ)
words_told (Ok arguments) = map string_bytes (drop 1 (into_iter_items arguments))
words_told (Err error) = []

-- the host's error is that memory ran out
abbrev pub IsOutOfMemory : {A : Type 0} → Arguments A → Type 0
IsOutOfMemory (Ok arguments) = ⊥
IsOutOfMemory (Err error) = error_kind error ≡ OutOfMemory
