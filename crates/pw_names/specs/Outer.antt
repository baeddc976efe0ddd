-- What the programs of a deck may name besides what is theirs.
use Rattle.std.specs.Prelude.{List}
use Rattle.pw_code.specs.declared.links.Links.{Links}
use Rattle.pw_names.specs.Calls.{Lengths}

-- programs, classes and files, and how long the USING items of each program are, by its number
pub record Outer : Type 0 where
  pub links : Links
  pub usings : List Lengths
