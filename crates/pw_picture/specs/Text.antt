-- Texts in fields.
use Rattle.std.specs.Prelude.{ℕ, ◌-◌, List, ◌++◌, length, take, replicate}
use Rattle.pw_base.specs.Characters.{space}

-- a text as it stands in a field of this size: cut at its end, or with spaces behind it
abbrev pub fitted : ℕ → List ℕ → List ℕ
fitted size text = take size text ++ replicate (size - length text) space
