-- Which attempts begin and are over at an entry.
use Rattle.std.specs.Prelude.{ℕ, ◌==◌, ◌&&◌, Bool, true, false, is_none, Option, Some, None, if◌then◌else◌}
use Rattle.pw_status.specs.declared.over.Over.{Over}
use Rattle.pw_status.specs.declared.over.Whose.{Whose}
use Rattle.pw_status.specs.declared.over.Whose.TheVariants.{One, Pair}
use Rattle.pw_event.specs.declared.event.Event.{Event}
use Rattle.pw_event.specs.declared.event.Event.TheVariants.{Begin, Reply, Commit, Back, Restart, FailTcp, End}
use Rattle.pw_onecopy.specs.Behaviour.{Behaviour}
use Rattle.pw_onecopy.specs.Path.{is_outside}
use Rattle.pw_serial_order.specs.Entries.{leaves}
use Rattle.pw_serial_order.specs.declared.block.How as order
use Rattle.pw_serial_order.specs.declared.block.How.TheVariants as how
use Rattle.pw_paired.specs.Serial.{makes_gone}
use Rattle.pw_paired.specs.State.{State}
use Rattle.pw_paired.specs.Terminal.{path_of}

-- the terminal is one of these, by the pair of each
abbrev pub theirs_by : (ℕ → ℕ) → Whose → ℕ → Bool
theirs_by pair_of (One own) t = t == own
theirs_by pair_of (Pair p) t = pair_of t == p

-- the terminal of which an entry begins an attempt
abbrev pub begun_terminal : Event → Option ℕ
begun_terminal (Begin t n r) = Some t
begun_terminal _ = None

-- a REPLY commits a unit that is one SEND, and a FAIL TCP makes its pair Gone
abbrev pub ends_at : Behaviour → State → Event → Bool
ends_at sys state (Reply c i t fault) = is_outside (path_of state t)
ends_at sys state (FailTcp p primary k) = makes_gone sys state (FailTcp p primary k) p
ends_at sys state _ = true

-- these attempts are over so, or none
abbrev pub over_if : Bool → Whose → order.How → Option Over
over_if ends whose how = if ends then Some (record { whose = whose; how = how }) else None

-- the attempts that are over at an entry; a REPLY and a FAIL TCP end some or none
abbrev pub over_at : Bool → Event → Option Over
over_at ends (Commit t n) = over_if true (One t) how.Commit
over_at ends (Back t n) = over_if true (One t) how.Dropped
over_at ends (Restart t n cause) = over_if true (One t) how.Restart
over_at ends (Reply c i t fault) = over_if (ends && is_none fault) (One t) how.Commit
over_at ends (End t ending) = over_if (leaves ending) (One t) how.Left
over_at ends (FailTcp p primary k) = over_if ends (Pair p) how.Left
over_at ends _ = None

-- the terminals whose attempts, so far as they run, are left at an entry
abbrev pub left_at : Bool → Event → Option Whose
left_at ends (End t ending) = Some (One t)
left_at ends (FailTcp p primary k) = if ends then Some (Pair p) else None
left_at ends _ = None

-- an attempt of the terminal is over
abbrev pub is_over : (ℕ → ℕ) → Option Over → ℕ → Bool
is_over pair_of None t = false
is_over pair_of (Some over) t = theirs_by pair_of over.whose t
