-- The line of an entry that is no step.
use Rattle.std.specs.Prelude.{ℕ, List, [], ◌∷◌, ◌++◌, codes}
use Rattle.std.specs.Fmt.{decimal}

-- the words, the number and the end of the line
abbrev pub no_step_line : ℕ → List ℕ
no_step_line n = codes "NOT A STEP " ++ (decimal n ++ 10 ∷ [])
