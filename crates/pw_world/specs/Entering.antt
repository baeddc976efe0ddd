-- Which entries may come, and of which programs they speak.
use Rattle.std.specs.Prelude.{◌≡◌, ℕ, false, Option, Some, None}
use Rattle.pw_event.specs.declared.event.Cause.{Cause}
use Rattle.pw_event.specs.declared.event.Cause.TheVariants.{Older}
use Rattle.pw_event.specs.declared.event.Ending.TheVariants.{Suspended}
use Rattle.pw_event.specs.declared.event.Event.{Event}
use Rattle.pw_event.specs.declared.event.Event.TheVariants.{Restart, End}
use Rattle.pw_world_state.specs.May.{IsThere}
use Rattle.pw_world_model.specs.Seen.{Seen, finished, state_of, sys_of}
use Rattle.pw_paired.specs.Step.{line_due, line_wanted}

-- the terminals of the two units of which a cause OLDER speaks, the first that of the entry
abbrev pub older_by : ℕ → Cause → Option (ℕ × ℕ)
older_by t (Older o m) = Some (t, o)
older_by t _ = None

-- the terminals of the two units of which the cause OLDER of an entry speaks
abbrev pub older_in : Event → Option (ℕ × ℕ)
older_in (Restart t n cause) = older_by t cause
older_in (End t (Suspended cause)) = older_by t cause
older_in _ = None

-- The entry names what is there, the log is not finished, and the failure line that is due is the
-- entry's own.
pub record MayCome (world : Seen) (entry : Event) : Type 0 where
  pub there : IsThere world.system entry
  pub unfinished : finished world ≡ false
  pub due : line_due (sys_of world) (state_of world) entry ≡ line_wanted entry
