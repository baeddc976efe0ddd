-- What a takeover goes on with.
use Rattle.std.specs.Prelude.{◌≡◌, ℕ, ◌==◌, List, [], ◌∷◌, map, Option, Some, None, option_map, unwrap_or, if◌then◌else◌}
use Rattle.pw_code.specs.declared.context.Context.{Context}
use Rattle.pw_image.specs.Reading.{context_in}
use Rattle.pw_pair.specs.declared.backup.Held.{Held}
use Rattle.pw_pair.specs.declared.resumed.Resumed.{Resumed}
use Rattle.pw_pair.specs.declared.seat.BackupSeat.{BackupSeat}

-- the number of TMF's last ended unit of a terminal, 0 where it is not named
abbrev pub last_ended : List (ℕ × ℕ) → ℕ → ℕ
last_ended [] terminal = 0
last_ended ((named, number) ∷ ended) terminal =
    if named == terminal then number else last_ended ended terminal

-- Where TMF's last ended unit is the memory's and the end image is there, the image is that;
-- otherwise it is the start image.
abbrev pub resumed_image : Held → ℕ → List ℕ
resumed_image held last = if last == held.unit then unwrap_or held.end held.start else held.start

-- the terminal, the unit and the context with which it goes on
abbrev pub Resumption : Type 0
Resumption = ℕ × (ℕ × Option Context)

-- what was resumed
abbrev pub resumption_of : Resumed → Resumption
resumption_of resumed = (resumed.terminal, (resumed.unit, Some resumed.context))

-- what is to be resumed of what is held, where this is TMF's last ended unit
abbrev pub resumption_at : Held → ℕ → Resumption
resumption_at held last =
    (held.terminal, (held.unit, context_in (resumed_image held last)))

-- each terminal goes on where its memory and TMF's last ended unit say
abbrev pub AreResumed : List Held → List (ℕ × ℕ) → List Resumed → Type 0
AreResumed images ended resumed =
    map resumption_of resumed
    ≡ map (λ held. resumption_at held (last_ended ended held.terminal)) images

-- the same of the terminal of a seat: none where nothing is held of it
abbrev pub resumption_in : Option BackupSeat → ℕ → Option Resumption
resumption_in None last = None
resumption_in (Some seat) last = option_map (λ held. resumption_at held last) seat.memory
