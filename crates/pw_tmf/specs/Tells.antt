-- What a disc tells, as part of a state of the paired system.
use Rattle.std.specs.Prelude.{◌≡◌, ℕ, List, [], filter, None, is_some}
use Rattle.std.specs.Option.{option_map}
use Rattle.pw_code.specs.declared.unit.Unit as unit
use Rattle.pw_onecopy.specs.Behaviour.{Behaviour}
use Rattle.pw_paired.specs.State.{BeforeImage, OpenUnit, State}
use Rattle.pw_paired.specs.Terminal.{path_of, unit_with_attempt}
use Rattle.pw_paired.specs.Units.{attempt_of, only}
use Rattle.pw_tmf.specs.Told.{ToldUnit, Told}

-- the before-images of a terminal's unit
abbrev pub images_by : ℕ → List BeforeImage → List BeforeImage
images_by t before = filter (λ image. only t image.terminal) before

-- an open unit of the paired system as a disc tells it, with these before-images
abbrev pub as_told : List BeforeImage → OpenUnit → ToldUnit
as_told before unit = record {
  number = unit.number;
  birth = unit.birth;
  running = is_some unit.running;
  before = before;
}

-- The disc tells the files, locks, units and before-images of the state. A terminal has before-images only while an
-- attempt of its unit runs.
pub record Tells (sys : Behaviour) (state : State) (told : Told) : Type 0 where
  pub rule : told.rule ≡ sys.rule
  pub keys : told.key_length ≡ sys.key_length
  pub files : told.files ≡ state.files
  pub locks : told.locks ≡ state.locks
  pub units : (t : ℕ) → told.units t ≡ option_map (as_told (images_by t state.before)) (state.units t)
  pub ended : told.ended ≡ state.ended
  pub idle : (t : ℕ) → attempt_of (state.units t) ≡ None → images_by t state.before ≡ []

-- the unit that a terminal begins, or begins again
abbrev pub unit_begun : State → ℕ → ℕ → OpenUnit
unit_begun state t n = unit_with_attempt n state.births (path_of state t) (state.units t)

-- the same as a disc is asked for it
abbrev pub begun_as : State → ℕ → ℕ → unit.Unit
begun_as state t n = record { terminal = t; number = n; birth = (unit_begun state t n).birth }
