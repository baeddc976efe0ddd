-- A disc that fails at calls which it is told.
use Rattle.std.specs.Prelude.{ℕ, ◌+◌, Bool, if◌then◌else◌}
use Rattle.pw_base.specs.Outside.{counted, is_listed}
use Rattle.pw_tmf.specs.declared.faulty.Calls.{Calls}
use Rattle.pw_tmf.specs.declared.faulty.Faulty.{Faulty}
use Rattle.pw_tmf.specs.Told.{Told}

-- one more where a call failed
abbrev pub counted_if : Bool → ℕ → ℕ
counted_if fails count = if fails then counted count else count

-- the next call is one that fails
abbrev pub fails_next : Calls → Bool
fails_next calls = is_listed calls.fail_at.items calls.made

-- the counts behind one more call
abbrev pub call_counted : Calls → Calls
call_counted calls = record calls { made = counted calls.made; faults = counted_if (fails_next calls) calls.faults }

-- so many faults more than the disc inside tells
abbrev pub with_faults : ℕ → Told → Told
with_faults faults told = record told { faults = told.faults + faults }

-- what a disc tells over the one inside
abbrev pub told_by : {D : Type 0} → (D → Told) → Faulty D → Told
told_by told faulty = with_faults faulty.calls.faults (told faulty.inner)
