-- What is kept beyond the terminals and classes of a system.
use Rattle.std.specs.Prelude.{◌≡◌, ℕ, ◌≤◌, false, length, None}
use Rattle.pw_class.specs.Queue.{at_process, has_request}
use Rattle.pw_code.specs.declared.system.System.{System}
use Rattle.pw_world_state.specs.Kept.{Kept}

-- beyond them nothing is kept
pub record IsBare (system : System) (kept : Kept) : Type 0 where
  pub awaits : (t : ℕ) → length system.terminals ≤ t → (kept.terminals t).awaits ≡ None
  pub ready : (t : ℕ) → length system.terminals ≤ t → (kept.terminals t).ready ≡ None
  pub requests : (c t : ℕ) → length system.classes ≤ c → has_request t (kept.queues c) ≡ false
  pub busy : (c i : ℕ) → length system.classes ≤ c → at_process (kept.queues c) i ≡ None
  pub jobs : (c i : ℕ) → length system.classes ≤ c → kept.jobs c i ≡ None
