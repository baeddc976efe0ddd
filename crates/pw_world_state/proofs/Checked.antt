-- A message goes to the backup.
use Rattle.std.proofs.Common.{◌≡◌, ℕ, ◌<◌, List, Option, Some, true, refl, sym, ap, subst, ◌∙◌, length, true≢false}
use Rattle.std.specs.Prelude.{slice_get}
use Rattle.pw_base.proofs.Plain.{some_is}
use Rattle.pw_code.specs.declared.system.System.{System}
use Rattle.pw_code.specs.declared.system.TermInfo.{TermInfo}
use Rattle.pw_event.specs.declared.script.FailLine.{FailLine}
use Rattle.pw_code_meaning.specs.OfSystem.{behaviour}
use Rattle.pw_world_state.specs.Changes.{kept_check}
use Rattle.pw_world_state.specs.Kept.{Kept}
use Rattle.pw_world_state.specs.Stands.{IsPathImage, Stands, StandsForPair, StandsForSeat}
use Rattle.pw_pair.specs.Follows.{IsUnitIn, has_flights, check_kind_of, path_in}
use Rattle.pw_world_state.proofs.Components.{apart, pair-same, seat-same}
use Rattle.pw_tmf.proofs.Leaving.{tells-same}
use Rattle.pw_pair.proofs.Seating.{all-at, keeps-terminal, still-there}
use Rattle.pw_onecopy.specs.Update.{upd}
use Rattle.pw_onecopy.proofs.Update.{upd-other, upd-same, upd_elim}
use Rattle.pw_pair.specs.Pairs.{SeenPair, after_send}
use Rattle.pw_pair.specs.Seats.{start_of, with_message}
use Rattle.pw_pair.proofs.Sound.{body-of-image}
use Rattle.pw_paired.specs.State.{BackupCopy, Message, PairMode, State, Term}

-- the pair behind a message of one of its terminals
sent : (system : System) (p : ℕ) (at : PairMode) (terms : ℕ → Term) (memory : ℕ → Option BackupCopy) (flight : ℕ → Option Message) (pair : SeenPair) (t : ℕ) (info : TermInfo) (message : Message) (unit : ℕ) (image : List ℕ)
    → slice_get system.terminals t ≡ Some info → has_flights at ≡ true → IsUnitIn message unit → IsPathImage system info (path_in message) image
    → StandsForPair system p at terms memory flight pair
    → StandsForPair system p at terms memory (upd flight t (Some message)) (after_send (record { terminal = t; kind = check_kind_of message; unit = unit; image = image }) pair)
sent system p at terms memory flight pair t info message unit image there flies number is_image old = record {
  mode_is = old.mode_is;
  seats = all-at (StandsForSeat system p at terms memory flight) (StandsForSeat system p at terms memory new) t (with_message (check_kind_of message) unit image)
      (λ seat is s.
      let lands : new seat.terminal ≡ Some message = upd-same flight t (Some message) seat.terminal is in
      record {
        info = s.info;
        here = s.here;
        of_pair = s.of_pair;
        dropped = s.dropped;
        names = s.names;
        memory_is = s.memory_is;
        flight_is = rw lands (record {
          kind_is = refl;
          unit = number;
          image = rw (body-of-image (start_of seat.memory) image).1 (subst (λ x. IsPathImage system x (path_in message) image) (some_is (sym there ∙ ap (slice_get system.terminals) (sym is) ∙ s.here)) is_image);
        });
        at_rest = λ calm. absurd (true≢false (sym flies ∙ calm));
      })
      (λ seat ne s. seat-same system p at terms terms memory memory flight new seat
      (record { ending = refl; memory_is = refl; flight_is = upd-other flight t (Some message) seat.terminal ne }) s)
      pair.seats old.seats;
  every = λ s other here of. still-there _ (keeps-terminal t (with_message (check_kind_of message) unit image) (λ seat. refl)) s pair.seats ∙ old.every s other here of;
}
  where
    new : ℕ → Option Message
    new = upd flight t (Some message)

-- what is kept behind it
pub checked : (system : System) (script : List FailLine) (state : State) (kept : Kept) (t : ℕ) (info : TermInfo) (message : Message) (unit : ℕ) (image : List ℕ)
    → Stands system script state kept → slice_get system.terminals t ≡ Some info → has_flights (state.modes info.tcp) ≡ true
    → IsUnitIn message unit → IsPathImage system info (path_in message) image
    → Stands system script (record state { flight = upd state.flight t (Some message) })
    (kept_check info.tcp (record { terminal = t; kind = check_kind_of message; unit = unit; image = image }) kept)
checked system script state kept t info message unit image stands there flies number is_image = record {
  terminals = stands.terminals;
  disc = tells-same (behaviour script system) state (record state { flight = new }) kept.disc refl refl refl refl refl stands.disc;
  classes = stands.classes;
  pairs = λ p few. upd_elim kept.pairs info.tcp next p (λ pair. StandsForPair system p (state.modes p) state.terms state.memory new pair)
      (λ is. subst (λ x. x < length system.tcps → StandsForPair system x (state.modes x) state.terms state.memory new next) (sym is)
      (λ few. sent system info.tcp (state.modes info.tcp) state.terms state.memory state.flight (kept.pairs info.tcp) t info message unit image there flies number is_image (stands.pairs info.tcp few)) few)
      (λ ne. pair-same system p (state.modes p) state.terms state.terms state.memory state.memory state.flight new (kept.pairs p)
      (λ s other here of. record { ending = refl; memory_is = refl; flight_is = upd-other state.flight t (Some message) s (apart system s t other info here there (λ e. ne (sym of ∙ e))) })
      (stands.pairs p few));
  births = stands.births;
}
  where
    new : ℕ → Option Message
    new = upd state.flight t (Some message)

    next : SeenPair
    next = after_send (record { terminal = t; kind = check_kind_of message; unit = unit; image = image }) (kept.pairs info.tcp)
