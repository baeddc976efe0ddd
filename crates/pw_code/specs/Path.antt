-- The path of a terminal: the answers that its program has had so far.
use Rattle.std.specs.Prelude.{ℕ, ◌+◌, List, [], ◌∷◌}
use Rattle.pw_code.specs.declared.verb.Answer.{Answer}
use Rattle.pw_code.specs.declared.verb.Answer.TheVariants.{Shown}

-- how often the screen was shown on a path
abbrev pub refreshes_on : List Answer → ℕ
refreshes_on [] = 0
refreshes_on (Shown ∷ path) = refreshes_on path + 1
refreshes_on (_ ∷ path) = refreshes_on path
