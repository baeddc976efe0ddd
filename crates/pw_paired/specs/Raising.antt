-- The entries that make a backup and keep it up to date: RAISE, CHECK COPY and APPLIED.
use Rattle.std.specs.Prelude.{◌≡◌, ◌⊎◌, ℕ, ◌&&◌, Bool, true, false, not, List, Option, Some, None, is_some, unwrap_or, if◌then◌else◌}
use Rattle.pw_event.specs.declared.event.Cause.{Cause}
use Rattle.pw_event.specs.declared.event.Cause.TheVariants.{Takeover}
use Rattle.pw_onecopy.specs.Behaviour.{Behaviour}
use Rattle.pw_onecopy.specs.Path.{PathAnswer, unit_number}
use Rattle.pw_onecopy.specs.Update.{upd}
use Rattle.pw_paired.specs.Failure.{is_live_of, is_of_pair}
use Rattle.pw_paired.specs.State.{PairMode, Alone, Raising, Paired, Down, Gone, BackupCopy, Message, Start, End, Copy, State}
use Rattle.pw_paired.specs.Terminal.{IsLive, path_of}
use Rattle.pw_paired.specs.Units.{any_below, attempt_of}

-- a TAKEOVER cause is pending
abbrev pub is_takeover : Option Cause → Bool
is_takeover None = false
is_takeover (Some (Takeover p)) = true
is_takeover (Some _) = false

-- RAISE p: Alone, a terminal of p is live, and no TAKEOVER cause is pending in p
pub record LegalRaise (sys : Behaviour) (state : State) (p : ℕ) : Type 0 where
  pub alone : state.modes p ≡ Alone
  pub wanted : any_below sys.terminals (is_live_of sys p state) ≡ true
  pub calm : any_below sys.terminals
      (λ t. is_of_pair sys p t && is_takeover (state.terms t).pending) ≡ false

-- Raising, with an empty memory
abbrev pub do_raise : Behaviour → ℕ → State → State
do_raise sys p state = record state {
  modes = upd state.modes p Raising;
  memory = λ t. if is_of_pair sys p t then None else state.memory t;
}

-- CHECK t COPY: the pair is Raising, t is live, memory lacks t, and nothing is in flight
pub record LegalCheckCopy (sys : Behaviour) (state : State) (t : ℕ) : Type 0 where
  pub live : IsLive sys state t
  pub raising : state.modes (sys.pair_of t) ≡ Raising
  pub lacking : state.memory t ≡ None
  pub free : state.flight t ≡ None

-- the start path if an attempt runs, else the path
abbrev pub copied_path : State → ℕ → List PathAnswer
copied_path state t = unwrap_or (attempt_of (state.units t)) (path_of state t)

-- that path is in flight, with its u
abbrev pub do_check_copy : ℕ → State → State
do_check_copy t state =
    let path : List PathAnswer = copied_path state t in
    record state { flight = upd state.flight t (Some (Copy (unit_number path) path)) }

-- APPLIED t: a message of t is in flight, and the pair is Raising or Paired
pub record LegalApplied (sys : Behaviour) (state : State) (t : ℕ) : Type 0 where
  pub message : Message
  pub flies : state.flight t ≡ Some message
  pub mode : (state.modes (sys.pair_of t) ≡ Raising) ⊎ (state.modes (sys.pair_of t) ≡ Paired)

-- a memory with an end path
abbrev pub with_end : List PathAnswer → Option BackupCopy → Option BackupCopy
with_end path None = None
with_end path (Some memory) = Some (record memory { end = Some path })

-- START and COPY replace memory and clear its end path; END sets its end path
abbrev pub with_message : Option Message → Option BackupCopy → Option BackupCopy
with_message None memory = memory
with_message (Some (Start unit path)) memory =
    Some (record { unit = unit; start = path; end = None })
with_message (Some (Copy unit path)) memory =
    Some (record { unit = unit; start = path; end = None })
with_message (Some (End path)) memory = with_end path memory

-- memory lacks a live terminal of the pair
abbrev pub lacks_one : Behaviour → ℕ → State → Bool
lacks_one sys p state =
    any_below sys.terminals (λ t. is_live_of sys p state t && not (is_some (state.memory t)))

-- Raising becomes Paired where memory has every live terminal of the pair
abbrev pub settled_mode : PairMode → Bool → PairMode
settled_mode Raising false = Paired
settled_mode Raising true = Raising
settled_mode Alone lacks = Alone
settled_mode Paired lacks = Paired
settled_mode Down lacks = Down
settled_mode Gone lacks = Gone

-- the pair behind an entry that may have made its memory whole
abbrev pub settle_mode : Behaviour → ℕ → State → State
settle_mode sys p state = record state {
  modes = upd state.modes p (settled_mode (state.modes p) (lacks_one sys p state));
}

-- the message is taken in
abbrev pub do_applied : Behaviour → ℕ → State → State
do_applied sys t state = settle_mode sys (sys.pair_of t) (record state {
  memory = upd state.memory t (with_message (state.flight t) (state.memory t));
  flight = upd state.flight t None;
})
