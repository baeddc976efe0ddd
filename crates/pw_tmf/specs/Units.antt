-- How units begin, end and are backed out.
use Rattle.std.specs.Prelude.{◌≡◌, ◌≢◌, ℕ, ◌≤◌, ◌<◌, Bool, true, false, List, [], ◌∷◌, All, Option, Some, None}
use Rattle.std.specs.Option.{option_map}
use Rattle.pw_base.specs.Outside.{counted}
use Rattle.pw_code.specs.declared.unit.Unit as unit
use Rattle.pw_onecopy.specs.Update.{upd}
use Rattle.pw_paired.specs.Units.{only, restored_files, without_locks}
use Rattle.pw_tmf.specs.Committed.{images_of}
use Rattle.pw_tmf.specs.Told.{ToldUnit, Told}

-- the unit is the open one of its terminal
pub record IsOpen (told : Told) (unit : unit.Unit) : Type 0 where
  pub terminal : unit.terminal < told.terminals
  pub open_unit : ToldUnit
  pub here : told.units unit.terminal ≡ Some open_unit
  pub number : open_unit.number ≡ unit.number
  pub birth : open_unit.birth ≡ unit.birth

-- an attempt of it runs
pub record IsRunning (told : Told) (unit : unit.Unit) : Type 0 where
  pub is_open : IsOpen told unit
  pub runs : is_open.open_unit.running ≡ true

-- a terminal's open unit, if any, is this one, and no attempt of it runs
abbrev pub MayBegin : unit.Unit → Option ToldUnit → Type 0
MayBegin unit None = Unit {0}
MayBegin unit (Some own) = (own.number ≡ unit.number) × (own.birth ≡ unit.birth) × (own.running ≡ false)

-- The unit has not ended, no attempt of it runs, no other unit of its terminal is open, and its birth
-- is that of no other open unit and the same at each attempt.
pub record CanBegin (told : Told) (unit : unit.Unit) : Type 0 where
  pub terminal : unit.terminal < told.terminals
  pub number : 1 ≤ unit.number
  pub not_ended : (told.ended unit.terminal).number ≢ unit.number
  pub free : MayBegin unit (told.units unit.terminal)
  pub births : (t : ℕ) (other : ToldUnit) → told.units t ≡ Some other → other.birth ≡ unit.birth → t ≡ unit.terminal

-- a unit at the beginning of an attempt
abbrev pub opened : unit.Unit → ToldUnit
opened unit = record { number = unit.number; birth = unit.birth; running = true; before = [] }

-- an attempt of the unit runs
abbrev pub begun : Told → unit.Unit → Told
begun told unit = record told { units = upd told.units unit.terminal (Some (opened unit)) }

-- a unit ends: its locks are released, and it is the last ended one of its terminal
abbrev pub ended : Told → unit.Unit → Option (List ℕ) → Told
ended told unit reply = record told {
  locks = without_locks (only unit.terminal) told.locks;
  units = upd told.units unit.terminal None;
  ended = upd told.ended unit.terminal (record { number = unit.number; reply = reply });
}

-- a unit commits: it ends, and is counted
abbrev pub after_commit : Told → unit.Unit → Option (List ℕ) → Told
after_commit told unit reply = record (ended told unit reply) { commits = counted told.commits }

-- a unit between two attempts
abbrev pub stopped : ToldUnit → ToldUnit
stopped unit = record unit { running = false; before = [] }

-- the attempt of a unit is over: its locks are released
abbrev pub attempt_over : Told → unit.Unit → Told
attempt_over told unit = record told {
  locks = without_locks (only unit.terminal) told.locks;
  units = upd told.units unit.terminal (option_map stopped (told.units unit.terminal));
}

-- the changes of a unit are put back
abbrev pub undone : Told → unit.Unit → Told
undone told unit = record told { files = restored_files told.key_length (images_of (told.units unit.terminal)) told.files }

-- a unit is backed out: it ends, or stays open without an attempt
abbrev pub backed_out : Bool → Told → unit.Unit → Told
backed_out true told unit = ended (undone told unit) unit None
backed_out false told unit = attempt_over (undone told unit) unit

-- units are backed out, one after the other
abbrev pub all_backed_out : Bool → Told → List unit.Unit → Told
all_backed_out ends told [] = told
all_backed_out ends told (unit ∷ units) = all_backed_out ends (backed_out ends told unit) units

-- a unit may be backed out: it is open, and where it stays open an attempt of it runs
abbrev pub CanBackOut : Bool → Told → unit.Unit → Type 0
CanBackOut true told unit = IsOpen told unit
CanBackOut false told unit = IsRunning told unit

-- the units are of different terminals
abbrev pub HaveDistinctTerminals : List unit.Unit → Type 0
HaveDistinctTerminals [] = Unit {0}
HaveDistinctTerminals (unit ∷ units) = All (λ other. other.terminal ≢ unit.terminal) units × HaveDistinctTerminals units
