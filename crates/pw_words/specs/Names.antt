-- Names that were put together, each once.
use Rattle.std.specs.Prelude.{List, [], ◌∷◌, ◌++◌, Bool, bytes_eq, if◌then◌else◌}
use Rattle.std.specs.List.{list_any}
use Rattle.pw_words.specs.Words.{Word}

-- one of the names is this word, as it is written
abbrev pub has_name : List Word → Word → Bool
has_name names word = list_any (bytes_eq word) names

-- the names with one more behind them, unless it is there
abbrev pub with_name : List Word → Word → List Word
with_name names name = if has_name names name then names else names ++ name ∷ []
