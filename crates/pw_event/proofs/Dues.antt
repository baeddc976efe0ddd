-- The first open failure line is found one line after the other.
use Rattle.std.proofs.Common.{◌≡◌, ℕ, ◌≤◌, List, length, find, Option, sym, ap}
use Rattle.std.proofs.lemmas.List.{get_or_past}
use Rattle.pw_code.specs.declared.system.System.{System}
use Rattle.pw_event.specs.declared.event.Event.{Event}
use Rattle.pw_event.specs.declared.script.FailLine.{FailLine}
use Rattle.pw_event.specs.declared.script.Owner.{Owner}
use Rattle.pw_event.specs.Due.{Numbered, numbered, pair_of, is_open}
use Rattle.pw_event.specs.Line.{no_terminal}

-- the pair of a terminal that is not there
pub no_pair : (system : System) (t : ℕ) → length system.terminals ≤ t → 0 ≡ pair_of system t
no_pair system t past = sym (ap (λ t. t.tcp) (get_or_past system.terminals t no_terminal past))

-- the first open line of some, of which the first has this number
abbrev pub first_open : List Event → Owner → ℕ → List FailLine → Option Numbered
first_open log owner number lines = find (is_open log owner) (numbered number lines)
