-- Whether an entry is legal by its kind, computed from what is kept.
use Rattle.std.specs.Prelude.{ℕ, ◌<◌, ◌≤◌, Bool, List, length, slice_get}
use Rattle.pw_code.specs.declared.system.System.{System}
use Rattle.pw_event.specs.declared.event.Ending.TheVariants.{Fault, Lost, NoEntries, Stopped, Suspended}
use Rattle.pw_event.specs.declared.event.Event.{Event}
use Rattle.pw_event.specs.declared.event.Event.TheVariants.{Show, Key, CheckStart, CheckEnd, CheckCopy, Applied, Begin, Send, Take, File, Reply, Again, Commit, Back, Restart, FailTcp, FailServer, Takeover, Raise, End}
use Rattle.pw_event.specs.declared.script.FailLine.{FailLine}
use Rattle.pw_event.specs.declared.script.FailLine.TheVariants as line
use Rattle.pw_code_meaning.specs.OfSystem.{behaviour, processes_by}
use Rattle.pw_world_state.specs.CauseTests.{may_restart, may_suspend}
use Rattle.pw_world_state.specs.ClassTests.{may_file, may_reply, may_take}
use Rattle.pw_world_state.specs.Kept.{Kept}
use Rattle.pw_world_state.specs.PairTests.{may_apply, may_copy, may_lose, may_raise, may_take_over}
use Rattle.pw_world_state.specs.TerminalTests.{may_again, may_back, may_begin, may_check_end, may_check_start, may_commit, may_end_entries, may_fault, may_key, may_send, may_show, may_stop}
use Rattle.pw_laws.specs.legal.Pairs.{is_legal_fail_server, is_legal_fail_tcp}

-- a FAIL entry is one of the script; the test of any other looks at what is kept
abbrev pub may : System → List FailLine → Kept → Event → Bool
may system script kept (Show t phase attempt k) = may_show system kept t phase attempt k
may system script kept (Key t k) = may_key system kept t k
may system script kept (CheckStart t) = may_check_start system kept t
may system script kept (CheckEnd t) = may_check_end system kept t
may system script kept (CheckCopy t) = may_copy system kept t
may system script kept (Applied t) = may_apply system kept t
may system script kept (Begin t n r) = may_begin system kept t n r
may system script kept (Send t n c) = may_send system kept t n c
may system script kept (Take c i t) = may_take kept c i t
may system script kept (File c i op mode f status) = may_file system kept c i op mode f status
may system script kept (Reply c i t fault) = may_reply system kept c i t fault
may system script kept (Again t n) = may_again system kept t n
may system script kept (Commit t n) = may_commit system kept t n
may system script kept (Back t n) = may_back system kept t n
may system script kept (Restart t n cause) = may_restart system kept t n cause
may system script kept (FailTcp p primary k) =
    is_legal_fail_tcp (behaviour script system) p primary k
may system script kept (FailServer c i k) = is_legal_fail_server (behaviour script system) c i k
may system script kept (Takeover p) = may_take_over kept p
may system script kept (Raise p) = may_raise system kept p
may system script kept (End t Stopped) = may_stop system kept t
may system script kept (End t NoEntries) = may_end_entries system kept t
may system script kept (End t (Fault x)) = may_fault system kept t x
may system script kept (End t (Suspended cause)) = may_suspend system kept t cause
may system script kept (End t Lost) = may_lose system kept t

-- a process of a class of the system
pub record IsProcessOf (system : System) (c i : ℕ) : Type 0 where
  pub class : c < length system.classes
  pub low : 1 ≤ i
  pub high : i ≤ processes_by (slice_get system.classes c)

-- the terminal, pair, class or process that an entry names is one of the system
abbrev pub IsThere : System → Event → Type 0
IsThere system (Show t phase attempt k) = t < length system.terminals
IsThere system (Key t k) = t < length system.terminals
IsThere system (CheckStart t) = t < length system.terminals
IsThere system (CheckEnd t) = t < length system.terminals
IsThere system (CheckCopy t) = t < length system.terminals
IsThere system (Applied t) = t < length system.terminals
IsThere system (Begin t n r) = t < length system.terminals
IsThere system (Send t n c) = t < length system.terminals
IsThere system (Take c i t) = c < length system.classes
IsThere system (File c i op mode f status) = IsProcessOf system c i
IsThere system (Reply c i t fault) = IsProcessOf system c i
IsThere system (Again t n) = t < length system.terminals
IsThere system (Commit t n) = t < length system.terminals
IsThere system (Back t n) = t < length system.terminals
IsThere system (Restart t n cause) = t < length system.terminals
IsThere system (FailTcp p primary k) = p < length system.tcps
IsThere system (FailServer c i k) = IsProcessOf system c i
IsThere system (Takeover p) = p < length system.tcps
IsThere system (Raise p) = p < length system.tcps
IsThere system (End t ending) = t < length system.terminals

-- the pair or process that a failure line names is one of the system
abbrev pub IsLineThere : System → FailLine → Type 0
IsLineThere system (line.Tcp p primary after) = p < length system.tcps
IsLineThere system (line.Server c i after) = IsProcessOf system c i
