-- How a pair is lost.
use Rattle.std.specs.Prelude.{◌≡◌, ◌⊎◌, Bool, true, false}
use Rattle.pw_paired.specs.State.{Alone, Down, PairMode, Raising}

-- the failure of this member, the primary or the backup, makes a pair of the mode Gone
abbrev pub Breaks : Bool → PairMode → Type 0
Breaks true mode = (mode ≡ Raising) ⊎ (mode ≡ Alone)
Breaks false mode = mode ≡ Down
