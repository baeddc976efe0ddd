-- The backup builds the image of a message in flight.
use Rattle.std.proofs.Common.{ℕ, ◌<◌, List, Option, Some, None, refl, sym, subst, ◌∙◌, length}
use Rattle.pw_code.specs.declared.system.System.{System}
use Rattle.pw_code.specs.declared.system.TermInfo.{TermInfo}
use Rattle.pw_event.specs.declared.script.FailLine.{FailLine}
use Rattle.pw_world_state.specs.Changes.{at_pair}
use Rattle.pw_world_state.specs.Kept.{Kept}
use Rattle.pw_world_state.specs.Stands.{Stands, StandsForMessage, StandsForPair, StandsForSeat, StandsIfAny}
use Rattle.pw_pair.proofs.Seating.{all-at, keeps-terminal, still-there}
use Rattle.pw_onecopy.proofs.Update.{upd_elim}
use Rattle.pw_pair.specs.Pairs.{SeenPair, changed_at}
use Rattle.pw_pair.specs.Seats.{built, start_of, with_whole}
use Rattle.pw_pair.specs.declared.seat.Flight.{Flight}
use Rattle.pw_paired.specs.State.{BackupCopy, Message, PairMode, State, Term}

whole : (system : System) (info : TermInfo) (held : Option (List ℕ)) (message : Option Message) (flight : Option Flight)
    → StandsIfAny (StandsForMessage system info held) message flight → StandsIfAny (StandsForMessage system info held) message (with_whole held flight)
whole system info held None None h = h
whole system info held None (Some flight) h = h
whole system info held (Some message) None h = h
whole system info held (Some message) (Some flight) h = record { kind_is = h.kind_is; unit = h.unit; image = h.image }

built-pair : (system : System) (p : ℕ) (at : PairMode) (terms : ℕ → Term) (memory : ℕ → Option BackupCopy) (flight : ℕ → Option Message) (pair : SeenPair) (t : ℕ)
    → StandsForPair system p at terms memory flight pair → StandsForPair system p at terms memory flight (changed_at t built pair)
built-pair system p at terms memory flight pair t old = record {
  mode_is = old.mode_is;
  seats = all-at (StandsForSeat system p at terms memory flight) (StandsForSeat system p at terms memory flight) t built
      (λ seat is s. record {
        info = s.info;
        here = s.here;
        of_pair = s.of_pair;
        dropped = s.dropped;
        names = s.names;
        memory_is = s.memory_is;
        flight_is = whole system s.info (start_of seat.memory) (flight seat.terminal) seat.flight s.flight_is;
        at_rest = s.at_rest;
      })
      (λ seat ne s. s) pair.seats old.seats;
  every = λ s other here of. still-there _ (keeps-terminal t built (λ seat. refl)) s pair.seats ∙ old.every s other here of;
}

pub built-stands : (system : System) (script : List FailLine) (state : State) (kept : Kept) (p t : ℕ) → Stands system script state kept → Stands system script state (at_pair p (changed_at t built) kept)
built-stands system script state kept p t stands = record {
  terminals = stands.terminals;
  disc = stands.disc;
  classes = stands.classes;
  pairs = λ q few. upd_elim kept.pairs p (changed_at t built (kept.pairs p)) q (λ pair. StandsForPair system q (state.modes q) state.terms state.memory state.flight pair)
      (λ is. subst (λ x. x < length system.tcps → StandsForPair system x (state.modes x) state.terms state.memory state.flight (changed_at t built (kept.pairs p))) (sym is)
      (λ few. built-pair system p (state.modes p) state.terms state.memory state.flight (kept.pairs p) t (stands.pairs p few)) few)
      (λ ne. stands.pairs q few);
  births = stands.births;
}
