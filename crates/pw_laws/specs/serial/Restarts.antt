-- How often a unit restarts, by cause.
use Rattle.std.specs.Prelude.{ℕ, ◌==◌, ◌&&◌, Bool, false, List, length, filter}
use Rattle.pw_event.specs.declared.event.Cause.TheVariants.{Older}
use Rattle.pw_event.specs.declared.event.Event.{Event}
use Rattle.pw_event.specs.declared.event.Event.TheVariants.{Restart}

-- the entry is a restart of unit n of the terminal as the younger one
abbrev pub is_older_restart_of : ℕ → ℕ → Event → Bool
is_older_restart_of t n (Restart own number (Older o m)) = own == t && number == n
is_older_restart_of t n _ = false

-- how many such restarts the log has
abbrev pub older_restarts_in : ℕ → ℕ → List Event → ℕ
older_restarts_in t n log = length (filter (is_older_restart_of t n) log)
