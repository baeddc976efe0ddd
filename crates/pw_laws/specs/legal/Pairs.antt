-- Whether the entries of a pair, FAIL entries and END are legal, as tests that compute.
use Rattle.std.specs.Prelude.{ℕ, ◌==◌, ◌&&◌, ◌||◌, Bool, not, is_none, is_some}
use Rattle.pw_event.specs.declared.event.Ending.{Ending}
use Rattle.pw_event.specs.declared.event.Ending.TheVariants.{Stopped, NoEntries, Fault, Suspended, Lost}
use Rattle.pw_paired.specs.Failure.{fail_line, is_live_of, is_of_pair}
use Rattle.pw_onecopy.specs.Path.{entries_on}
use Rattle.pw_paired.specs.Raising.{is_takeover}
use Rattle.pw_paired.specs.Serial.{is_gone}
use Rattle.pw_paired.specs.State.{State}
use Rattle.pw_onecopy.specs.Behaviour.{Behaviour}
use Rattle.pw_paired.specs.Terminal.{next_verb, path_of}
use Rattle.pw_paired.specs.Units.{any_below}
use Rattle.pw_laws.specs.legal.Causes.{is_legal_suspended}
use Rattle.pw_laws.specs.legal.Terminals.{can_step, is_live}
use Rattle.pw_laws.specs.legal.Values.{is_alone, is_down, is_line_of_member, is_line_of_process, is_paired, is_raising, some_with}
use Rattle.pw_laws.specs.legal.Verbs.{asks_accept, asks_fault, asks_stop}

-- CHECK t COPY is legal by its kind
abbrev pub is_legal_check_copy : Behaviour → State → ℕ → Bool
is_legal_check_copy sys state t =
    is_live sys state t && (is_raising (state.modes (sys.pair_of t))
    && (is_none (state.memory t) && is_none (state.flight t)))

-- APPLIED t is legal by its kind
abbrev pub is_legal_applied : Behaviour → State → ℕ → Bool
is_legal_applied sys state t =
    is_some (state.flight t)
    && (is_raising (state.modes (sys.pair_of t)) || is_paired (state.modes (sys.pair_of t)))

-- RAISE p is legal by its kind
abbrev pub is_legal_raise : Behaviour → State → ℕ → Bool
is_legal_raise sys state p =
    is_alone (state.modes p) && (any_below sys.terminals (is_live_of sys p state)
    && not (any_below sys.terminals
    (λ t. is_of_pair sys p t && is_takeover (state.terms t).pending)))

-- TAKEOVER p is legal by its kind
abbrev pub is_legal_takeover : State → ℕ → Bool
is_legal_takeover state p = is_down (state.modes p)

-- FAIL TCP p PRIMARY k, and FAIL TCP p BACKUP k, are legal by their kind
abbrev pub is_legal_fail_tcp : Behaviour → ℕ → Bool → ℕ → Bool
is_legal_fail_tcp sys p primary k = some_with (is_line_of_member p primary) (fail_line sys.script k)

-- FAIL SERVER c i k is legal by its kind
abbrev pub is_legal_fail_server : Behaviour → ℕ → ℕ → ℕ → Bool
is_legal_fail_server sys c i k = some_with (is_line_of_process c i) (fail_line sys.script k)

-- END t is legal by its kind, with each ending
abbrev pub is_legal_end : Behaviour → State → ℕ → Ending → Bool
is_legal_end sys state t Stopped = can_step sys state t && asks_stop (next_verb sys state t)
is_legal_end sys state t NoEntries =
    can_step sys state t && (asks_accept (next_verb sys state t)
    && entries_on (path_of state t) == sys.entries t)
is_legal_end sys state t (Fault x) = can_step sys state t && asks_fault x (next_verb sys state t)
is_legal_end sys state t (Suspended cause) = is_legal_suspended sys state t cause
is_legal_end sys state t Lost = is_live sys state t && is_gone (state.modes (sys.pair_of t))
