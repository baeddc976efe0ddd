-- A pair is Paired behind an entry where its memory lacks no live terminal.
use Rattle.std.proofs.Common.{◌≡◌, ℕ, ◌==◌, ◌&&◌, List, Option, Some, None, Bool, true, false, not, refl, sym, ap, ◌∙◌, length, is_some, is_none}
use Rattle.std.specs.List.{list_any}
use Rattle.std.proofs.lemmas.List.Elements.{All-weaker}
use Rattle.std.proofs.lemmas.Option.{slice_get_within}
use Rattle.std.proofs.lemmas.Bool.{eq-eqb, eqb-true}
use Rattle.pw_base.proofs.Plain.{same-truth}
use Rattle.pw_code.specs.declared.system.System.{System}
use Rattle.pw_event.specs.declared.event.Ending.{Ending}
use Rattle.pw_event.specs.declared.script.FailLine.{FailLine}
use Rattle.pw_code_meaning.specs.OfSystem.{behaviour}
use Rattle.pw_world_state.specs.Stands.{StandsForHeld, StandsForPair, StandsForSeat, StandsIfAny, works}
use Rattle.pw_world_state.proofs.Components.{TerminalsStand, pair-of}
use Rattle.pw_world_state.proofs.Agreeing.{there-is}
use Rattle.pw_pair.proofs.Following.{all-of, both-of, flights-settle, mode-settles}
use Rattle.pw_pair.proofs.Seating.{any-so, any-then}
use Rattle.pw_pair.specs.Pairs as pair
use Rattle.pw_pair.specs.Pairs.{SeenPair, settled}
use Rattle.pw_pair.specs.Seats.{is_lacking, is_seat_of}
use Rattle.pw_pair.specs.declared.backup.Held.{Held}
use Rattle.pw_pair.specs.declared.seat.BackupSeat.{BackupSeat}
use Rattle.pw_paired.specs.Failure.{is_live_of}
use Rattle.pw_paired.specs.Raising.{lacks_one, settled_mode}
use Rattle.pw_paired.specs.State.{PairMode, Alone, Raising, Paired, Down, Gone, BackupCopy, OpenUnit, State, Term}
use Rattle.pw_world_state.specs.Kept.{KeptTerminal}
use Rattle.pw_laws.proofs.Lacking.{any_below-some, any_below-true}

-- ---- modes

pub works-settle : (at : PairMode) (lacks : Bool) → works (settled_mode at lacks) ≡ works at
works-settle Alone lacks = refl
works-settle Raising true = refl
works-settle Raising false = refl
works-settle Paired lacks = refl
works-settle Down lacks = refl
works-settle Gone lacks = refl

-- terminals stand on where a member works only if one did
pub terminals-work : (system : System) (modes new : ℕ → PairMode) (terms : ℕ → Term) (units : ℕ → Option OpenUnit) (kept : ℕ → KeptTerminal)
    → ((p : ℕ) → works (new p) ≡ true → works (modes p) ≡ true) → TerminalsStand system modes terms units kept → TerminalsStand system new terms units kept
terminals-work system modes new terms units kept only old t info here =
    let o = old t info here in
    record {
      path = o.path;
      ready = o.ready;
      there = λ works lives. o.there (only info.tcp works) lives;
      start = o.start;
      restarts = o.restarts;
      awaits = o.awaits;
      pending = o.pending;
      ending = o.ending;
    }

-- ---- what is lacking

-- a terminal is lacking on both sides
lacking-same : (R : BackupCopy → Held → Type 0) (ending : Option Ending) (copy : Option BackupCopy) (held : Option Held) → StandsIfAny R copy held
    → (not (is_some ending) && not (is_some held)) ≡ (is_none ending && not (is_some copy))
lacking-same R None None None h = refl
lacking-same R None (Some copy) (Some held) h = refl
lacking-same R None None (Some held) h = absurd h
lacking-same R None (Some copy) None h = absurd h
lacking-same R (Some ending) copy held h = refl

lacks-same : (system : System) (script : List FailLine) (p : ℕ) (at : PairMode) (state : State) (seen : SeenPair)
    → StandsForPair system p at state.terms state.memory state.flight seen
    → list_any is_lacking seen.seats ≡ lacks_one (behaviour script system) p state
lacks-same system script p at state seen stands = same-truth (list_any is_lacking seen.seats) (lacks_one (behaviour script system) p state)
    (any-so Stood is_lacking (lacks_one (behaviour script system) p state ≡ true) seen.seats stands.seats
    (λ seat s lacks. any_below-true (length system.terminals) lacking seat.terminal (slice_get_within system.terminals seat.terminal s.info s.here)
    (all-of (own seat.terminal) (is_none (state.terms seat.terminal).ending) (not (is_some (state.memory seat.terminal)))
    (eq-eqb _ _ (pair-of system script seat.terminal s.info s.here ∙ s.of_pair))
    (sym (seat-lacks seat s) ∙ lacks))))
    (λ lacks.
    let one = any_below-some (length system.terminals) lacking lacks in
    let parts = both-of (own one.0) (is_none (state.terms one.0).ending) (not (is_some (state.memory one.0))) one.2 in
    let info = there-is system.terminals one.0 one.1 in
    any-then Stood (is_seat_of one.0) is_lacking seen.seats stands.seats
    (λ seat s is. seat-lacks seat s ∙ ap (λ t. is_none (state.terms t).ending && not (is_some (state.memory t))) (eqb-true seat.terminal one.0 is) ∙ parts.1)
    (stands.every one.0 info.0 info.1 (sym (pair-of system script one.0 info.0 info.1) ∙ eqb-true _ _ parts.0)))
  where
    Stood : BackupSeat → Type 0
    Stood = StandsForSeat system p at state.terms state.memory state.flight

    own : ℕ → Bool
    own t = (behaviour script system).pair_of t == p

    lacking : ℕ → Bool
    lacking t = is_live_of (behaviour script system) p state t && not (is_some (state.memory t))

    seat-lacks : (seat : BackupSeat) → StandsForSeat system p at state.terms state.memory state.flight seat → is_lacking seat ≡ (is_none (state.terms seat.terminal).ending && not (is_some (state.memory seat.terminal)))
    seat-lacks seat s =
        ap (λ b. not b && not (is_some seat.memory)) s.dropped
        ∙ lacking-same (StandsForHeld system s.info) (state.terms seat.terminal).ending (state.memory seat.terminal) seat.memory s.memory_is

-- the pair settles with the paired system
pub settles : (system : System) (script : List FailLine) (p : ℕ) (at : PairMode) (state : State) (seen : SeenPair)
    → StandsForPair system p at state.terms state.memory state.flight seen
    → StandsForPair system p (settled_mode at (lacks_one (behaviour script system) p state)) state.terms state.memory state.flight (settled seen)
settles system script p at state seen old = record {
  mode_is =
      ap (λ b. pair.settled_mode seen.mode b) (lacks-same system script p at state seen old)
      ∙ ap (λ m. pair.settled_mode m lacks) old.mode_is ∙ mode-settles at lacks;
  seats = All-weaker (StandsForSeat system p at state.terms state.memory state.flight) (StandsForSeat system p (settled_mode at lacks) state.terms state.memory state.flight)
      (λ seat s. record {
        info = s.info;
        here = s.here;
        of_pair = s.of_pair;
        dropped = s.dropped;
        names = s.names;
        memory_is = s.memory_is;
        flight_is = s.flight_is;
        at_rest = λ calm. s.at_rest (sym (flights-settle at lacks) ∙ calm);
      }) seen.seats old.seats;
  every = old.every;
}
  where
    lacks : Bool
    lacks = lacks_one (behaviour script system) p state
