-- Where a reply goes.
use Rattle.std.specs.Prelude.{ℕ, List}
use Rattle.pw_code_meaning.specs.Config.{Config, over, with_storage}
use Rattle.pw_code_meaning.specs.Moves.{move_text}
use Rattle.pw_code_meaning.specs.Reading.{Spot}
use Rattle.pw_machine.specs.Views.{spot_by}
use Rattle.pw_machine.specs.declared.spot.MachineSpot as spots

-- a place with the spot to which a reply goes
abbrev pub seen_at : ℕ × spots.MachineSpot → ℕ × Spot
seen_at found = (found.0, spot_by found.1)

-- a reply is moved to a spot, TERMINATION-STATUS is a position, and the `NoCode` is passed
abbrev pub yielded_at : ℕ → Spot → List ℕ → Config → Config
yielded_at position spot reply c =
    over 1 (record (with_storage (move_text reply spot c.top.storage) c) { rest = record c.rest { termination = position } })
