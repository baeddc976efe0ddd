-- Whether the entries of a terminal at its own verb are legal, as tests that compute.
use Rattle.std.specs.Prelude.{ℕ, ◌+◌, ◌==◌, ◌&&◌, nat_lt, nat_le, Bool, true, not, List, [], ◌∷◌, ◌++◌, Option, Some, None, is_none, is_some}
use Rattle.pw_onecopy.specs.Path.{PathAnswer, Ended, Dropped, entries_on, is_outside, next_number, unit_number}
use Rattle.pw_paired.specs.Failure.{runs_unit}
use Rattle.pw_paired.specs.State.{Awaited, LastEnded, BackupCopy, State}
use Rattle.pw_onecopy.specs.Behaviour.{Behaviour}
use Rattle.pw_paired.specs.Terminal.{awaited_of, closed_path, closing_answer, next_verb, path_of}
use Rattle.pw_paired.specs.Units.{attempt_of, is_out, restarts_of}
use Rattle.pw_laws.specs.legal.Values.{is_paired, is_same_path, is_same_refresh, some_with}
use Rattle.pw_laws.specs.legal.Verbs.{asks_accept, asks_drop, asks_end, asks_send, asks_send_to, asks_show, begins_unit}

-- the terminal is started and has no ending
abbrev pub is_live : Behaviour → State → ℕ → Bool
is_live sys state t = nat_lt t sys.terminals && is_none (state.terms t).ending

-- t can step: it is live, its pair is Paired and no cause is pending for it
abbrev pub can_step : Behaviour → State → ℕ → Bool
can_step sys state t =
    is_live sys state t
    && (is_paired (state.modes (sys.pair_of t)) && is_none (state.terms t).pending)

-- what the backup holds is of this unit number and start path
abbrev pub is_start : ℕ → List PathAnswer → BackupCopy → Bool
is_start n path held = held.unit == n && is_same_path held.start path

-- the backup holds this unit number and start path of the terminal
abbrev pub holds_start : Option BackupCopy → ℕ → List PathAnswer → Bool
holds_start memory n path = some_with (is_start n path) memory

-- what the backup holds has this end path
abbrev pub is_held_end_path : List PathAnswer → BackupCopy → Bool
is_held_end_path path held = some_with (λ own. is_same_path own path) held.end

-- the backup holds this end path of the terminal
abbrev pub holds_end : Option BackupCopy → List PathAnswer → Bool
holds_end memory path = some_with (is_held_end_path path) memory

-- the awaited unit, if any, has ended
abbrev pub is_over : (ℕ → LastEnded) → Option Awaited → Bool
is_over ended None = true
is_over ended (Some awaited) = nat_le awaited.number (ended awaited.terminal).number

-- SHOW t phase.attempt.k is legal by its kind
abbrev pub is_legal_show : Behaviour → State → ℕ → ℕ → ℕ → ℕ → Bool
is_legal_show sys state t phase attempt k =
    can_step sys state t && (asks_show (next_verb sys state t)
    && is_same_refresh (next_number (path_of state t))
    (record { phase = phase; attempt = attempt; k = k }))

-- KEY t k is legal by its kind
abbrev pub is_legal_key : Behaviour → State → ℕ → ℕ → Bool
is_legal_key sys state t k =
    can_step sys state t && (asks_accept (next_verb sys state t)
    && (k == entries_on (path_of state t) + 1 && nat_le k (sys.entries t)))

-- CHECK t START is legal by its kind
abbrev pub is_legal_check_start : Behaviour → State → ℕ → Bool
is_legal_check_start sys state t =
    let path : List PathAnswer = path_of state t in
    can_step sys state t && (is_none (attempt_of (state.units t))
    && (begins_unit (next_verb sys state t) path
    && (not ((state.ended t).number == unit_number path)
    && (not (holds_start (state.memory t) (unit_number path) path)
    && is_none (state.flight t)))))

-- CHECK t END is legal by its kind
abbrev pub is_legal_check_end : Behaviour → State → ℕ → Bool
is_legal_check_end sys state t =
    can_step sys state t && (is_some (closing_answer (next_verb sys state t))
    && (not (holds_end (state.memory t) (closed_path sys state t)) && is_none (state.flight t)))

-- BEGIN t n r is legal by its kind
abbrev pub is_legal_begin : Behaviour → State → ℕ → ℕ → ℕ → Bool
is_legal_begin sys state t n r =
    let path : List PathAnswer = path_of state t in
    can_step sys state t && (is_none (attempt_of (state.units t))
    && (begins_unit (next_verb sys state t) path
    && (n == unit_number path
    && (not ((state.ended t).number == n)
    && (is_over state.ended (awaited_of (state.units t))
    && (holds_start (state.memory t) (unit_number path) path
    && r == restarts_of (state.units t)))))))

-- SEND t n c is legal by its kind
abbrev pub is_legal_send : Behaviour → State → ℕ → ℕ → ℕ → Bool
is_legal_send sys state t n c =
    can_step sys state t && (runs_unit n (state.units t)
    && (asks_send_to c (next_verb sys state t) && not (is_out sys state t)))

-- AGAIN t n is legal by its kind
abbrev pub is_legal_again : Behaviour → State → ℕ → ℕ → Bool
is_legal_again sys state t n =
    can_step sys state t && (asks_send (next_verb sys state t)
    && (is_outside (path_of state t)
    && (n == unit_number (path_of state t) && (state.ended t).number == n)))

-- COMMIT t n is legal by its kind
abbrev pub is_legal_commit : Behaviour → State → ℕ → ℕ → Bool
is_legal_commit sys state t n =
    can_step sys state t && (asks_end (next_verb sys state t)
    && (n == unit_number (path_of state t)
    && holds_end (state.memory t) (path_of state t ++ Ended ∷ [])))

-- BACK t n is legal by its kind
abbrev pub is_legal_back : Behaviour → State → ℕ → ℕ → Bool
is_legal_back sys state t n =
    can_step sys state t && (asks_drop (next_verb sys state t)
    && (n == unit_number (path_of state t)
    && holds_end (state.memory t) (path_of state t ++ Dropped ∷ [])))
