-- When two contexts are equal, field by field.
use Rattle.std.specs.Prelude.{◌≡◌}
use Rattle.pw_code.specs.declared.context.Context.{Context}

-- the registers are equal
pub record HasSameRegisters (a b : Context) : Type 0 where
  pub termination : a.termination ≡ b.termination
  pub restarts : a.restarts ≡ b.restarts
  pub file_status : a.file_status ≡ b.file_status

-- what was counted along the path is equal
pub record HasSameCounts (a b : Context) : Type 0 where
  pub phase : a.phase ≡ b.phase
  pub attempt : a.attempt ≡ b.attempt
  pub shown : a.shown ≡ b.shown
  pub entries : a.entries ≡ b.entries
  pub units : a.units ≡ b.units

-- the two stand alike
pub record StandsSame (a b : Context) : Type 0 where
  pub in_unit : a.in_unit ≡ b.in_unit
  pub course : a.course ≡ b.course
  pub at_verb : a.at_verb ≡ b.at_verb
  pub count : a.count ≡ b.count
