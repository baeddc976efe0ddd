-- Runs of symbols, by their counts.
use Rattle.std.specs.Prelude.{ℕ, ◌+◌, min, List, [], ◌∷◌, ◌++◌, replicate}
use Rattle.pw_picture.specs.Symbols.{longest}
use Rattle.pw_picture.specs.declared.run.SymbolRun.{SymbolRun}

-- the symbols of runs, one run after another
abbrev pub spread : List SymbolRun → List ℕ
spread [] = []
spread (run ∷ runs) = replicate run.count run.symbol ++ spread runs

-- a count with what belongs to it: one that is longer than every picture is cut to one more than
-- the longest
abbrev pub capped : ℕ × ℕ → ℕ × ℕ
capped found = (min found.0 (longest + 1), found.1)
