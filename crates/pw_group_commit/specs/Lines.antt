-- The lines in which a run is told, and how far they are written.
use Rattle.std.specs.Prelude.{◌≡◌, ℕ, List, [], ◌++◌, codes, get_or, Option}
use Rattle.std.specs.Fmt.{decimal}
use Rattle.std.specs.Io.KnownBytes.{Appends}
use Rattle.std.specs.List.{flat_map}
use Rattle.pw_group_commit.specs.declared.follower.UnitName.{UnitName}
use Rattle.pw_group_commit.specs.declared.lines.LineFault.{LineFault}

-- the line of a unit, with the names of the terminals
abbrev pub line_of : List (List ℕ) → UnitName → List ℕ
line_of names unit = codes "COMMIT " ++ (get_or names unit.terminal [] ++ (codes " " ++ (decimal unit.number ++ codes "\n")))

-- the lines of units, in their order
abbrev pub lines_of : List (List ℕ) → List UnitName → List ℕ
lines_of names units = flat_map (line_of names) units

-- A beginning of the lines was appended to what the sink had got, where it tells that: all of them if they are whole.
pub record WritesLines (are_whole : Type 0) (lines : List ℕ) (before now : Option (List ℕ)) : Type 0 where
  pub own : List ℕ
  pub rest : List ℕ
  pub are : lines ≡ own ++ rest
  pub whole : are_whole → rest ≡ []
  pub wrote : Appends before now own

-- a follower that writes lines: its sink, the names of the terminals, and why it writes no more
pub record LineState (K : Type 0) : Type 0 where
  pub sink : K
  pub names : List (List ℕ)
  pub fault : Option LineFault
