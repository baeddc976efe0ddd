-- Whether an entry is legal and a log is a run, as tests that compute.
use Rattle.std.specs.Prelude.{◌&&◌, Bool, true, false, not, List, [], ◌∷◌}
use Rattle.pw_event.specs.declared.event.Ending.TheVariants.{Suspended}
use Rattle.pw_event.specs.declared.event.Event.{Event}
use Rattle.pw_event.specs.declared.event.Event.TheVariants.{Show, Key, CheckStart, CheckEnd, CheckCopy, Applied, Begin, Send, Take, File, Reply, Again, Commit, Back, Restart, FailTcp, FailServer, Takeover, Raise, End}
use Rattle.pw_paired.specs.State.{State, starting}
use Rattle.pw_paired.specs.Step.{effect, is_finished, line_due, line_wanted}
use Rattle.pw_onecopy.specs.Behaviour.{Behaviour}
use Rattle.pw_laws.specs.legal.Causes.{is_conflict, is_legal_restart}
use Rattle.pw_laws.specs.legal.Classes.{is_legal_file, is_legal_reply, is_legal_take}
use Rattle.pw_laws.specs.legal.Pairs.{is_legal_applied, is_legal_check_copy, is_legal_end, is_legal_fail_server, is_legal_fail_tcp, is_legal_raise, is_legal_takeover}
use Rattle.pw_laws.specs.legal.Terminals.{is_legal_again, is_legal_back, is_legal_begin, is_legal_check_end, is_legal_check_start, is_legal_commit, is_legal_key, is_legal_send, is_legal_show}
use Rattle.pw_laws.specs.legal.Values.{is_same_number}

-- what an entry of each kind asks for holds
abbrev pub fits : Behaviour → State → Event → Bool
fits sys state (Show t phase attempt k) = is_legal_show sys state t phase attempt k
fits sys state (Key t k) = is_legal_key sys state t k
fits sys state (CheckStart t) = is_legal_check_start sys state t
fits sys state (CheckEnd t) = is_legal_check_end sys state t
fits sys state (CheckCopy t) = is_legal_check_copy sys state t
fits sys state (Applied t) = is_legal_applied sys state t
fits sys state (Begin t n r) = is_legal_begin sys state t n r
fits sys state (Send t n c) = is_legal_send sys state t n c
fits sys state (Take c i t) = is_legal_take sys state c i t
fits sys state (File c i op mode f status) = is_legal_file sys state c i op mode f status
fits sys state (Reply c i t fault) = is_legal_reply sys state c i t fault
fits sys state (Again t n) = is_legal_again sys state t n
fits sys state (Commit t n) = is_legal_commit sys state t n
fits sys state (Back t n) = is_legal_back sys state t n
fits sys state (Restart t n cause) = is_legal_restart sys state t n cause
fits sys state (FailTcp p primary k) = is_legal_fail_tcp sys p primary k
fits sys state (FailServer c i k) = is_legal_fail_server sys c i k
fits sys state (Takeover p) = is_legal_takeover state p
fits sys state (Raise p) = is_legal_raise sys state p
fits sys state (End t ending) = is_legal_end sys state t ending

-- The entry is legal: the log is not finished, the kind fits, and the failure line that is due is
-- the entry's own.
unfoldable pub is_legal : Behaviour → State → Event → Bool
is_legal sys state entry =
    not (is_finished sys state)
    && (is_same_number (line_due sys state entry) (line_wanted entry) && fits sys state entry)

-- the entry is a restart or a suspension by a conflict of locks
abbrev pub is_by_conflict : Event → Bool
is_by_conflict (Restart t n cause) = is_conflict cause
is_by_conflict (End t (Suspended cause)) = is_conflict cause
is_by_conflict _ = false

-- each entry of the log is legal behind those before it
abbrev pub is_run_from : Behaviour → State → List Event → Bool
is_run_from sys state [] = true
is_run_from sys state (entry ∷ log) =
    is_legal sys state entry && is_run_from sys (effect sys state entry) log

-- the log is a run
abbrev pub is_run : Behaviour → List Event → Bool
is_run sys log = is_run_from sys (starting sys) log
