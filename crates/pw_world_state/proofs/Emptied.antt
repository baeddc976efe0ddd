-- All seats of a pair lose what is in flight, or what is held as well.
use Rattle.std.proofs.Common.{◌≡◌, ◌≢◌, ℕ, List, Option, Some, None, cond, is_some, refl, sym, ap, ◌∙◌}
use Rattle.std.specs.Prelude.{slice_get}
use Rattle.std.proofs.lemmas.Bool.{cond-true, cond-false, eq-eqb, ne_eqb}
use Rattle.std.proofs.lemmas.List.Elements.{All-map, All-weaker}
use Rattle.pw_code.specs.declared.system.System.{System}
use Rattle.pw_code.specs.declared.system.TermInfo.{TermInfo}
use Rattle.pw_event.specs.declared.script.FailLine.{FailLine}
use Rattle.pw_code_meaning.specs.OfSystem.{behaviour}
use Rattle.pw_world_state.specs.Stands.{StandsForPair, StandsForSeat}
use Rattle.pw_pair.specs.Follows.{mode_as}
use Rattle.pw_world_state.proofs.Components.{pair-of}
use Rattle.pw_pair.proofs.Seating.{still-there}
use Rattle.pw_pair.specs.Pairs.{SeenPair, in_mode}
use Rattle.pw_pair.specs.Seats.{without_backup, without_flight}
use Rattle.pw_pair.specs.declared.seat.BackupSeat.{BackupSeat}
use Rattle.pw_paired.specs.Failure.{is_of_pair}
use Rattle.pw_paired.specs.State.{BackupCopy, Message, PairMode, Term}

-- ---- what is chosen by the pair of a terminal

-- of the terminals of a pair there is this, and of the others what there was
pub with-own : {A : Type 0} (system : System) (script : List FailLine) (p s : ℕ) (info : TermInfo) (new old : A) → slice_get system.terminals s ≡ Some info → info.tcp ≡ p
    → cond (is_of_pair (behaviour script system) p s) new old ≡ new
with-own system script p s info new old here of = cond-true _ new old (eq-eqb _ _ (pair-of system script s info here ∙ of))

pub with-others : {A : Type 0} (system : System) (script : List FailLine) (p s : ℕ) (info : TermInfo) (new old : A) → slice_get system.terminals s ≡ Some info → info.tcp ≢ p
    → cond (is_of_pair (behaviour script system) p s) new old ≡ old
with-others system script p s info new old here ne = cond-false _ new old (ne_eqb _ _ (λ e. ne (sym (pair-of system script s info here) ∙ e)))

-- ---- the seats

-- a terminal has its ending as before, and nothing is held of it or in flight
pub record IsEmptied (terms new_terms : ℕ → Term) (new_memory : ℕ → Option BackupCopy) (new_flight : ℕ → Option Message) (t : ℕ) : Type 0 where
  pub ending : (new_terms t).ending ≡ (terms t).ending
  pub memory_is : new_memory t ≡ None
  pub flight_is : new_flight t ≡ None

pub emptied : (system : System) (p : ℕ) (at new_at : PairMode) (terms new_terms : ℕ → Term) (memory new_memory : ℕ → Option BackupCopy) (flight new_flight : ℕ → Option Message) (pair : SeenPair)
    → ((seat : BackupSeat) → StandsForSeat system p at terms memory flight seat → IsEmptied terms new_terms new_memory new_flight seat.terminal)
    → StandsForPair system p at terms memory flight pair → StandsForPair system p new_at new_terms new_memory new_flight (in_mode (mode_as new_at) without_backup pair)
emptied system p at new_at terms new_terms memory new_memory flight new_flight pair gone old = record {
  mode_is = refl;
  seats = All-map (StandsForSeat system p new_at new_terms new_memory new_flight) without_backup pair.seats
      (All-weaker (StandsForSeat system p at terms memory flight) (λ seat. StandsForSeat system p new_at new_terms new_memory new_flight (without_backup seat))
      (λ seat s.
      let is = gone seat s in
      record {
        info = s.info;
        here = s.here;
        of_pair = s.of_pair;
        dropped = s.dropped ∙ ap is_some (sym is.ending);
        names = λ held e. absurd (cc e);
        memory_is = rw is.memory_is tt;
        flight_is = rw is.flight_is tt;
        at_rest = λ calm. is.flight_is;
      }) pair.seats old.seats);
  every = λ s other here of. still-there without_backup (λ seat. refl) s pair.seats ∙ old.every s other here of;
}

-- a terminal has its ending and what is held of it as before, and nothing is in flight
pub record IsGrounded (terms new_terms : ℕ → Term) (memory new_memory : ℕ → Option BackupCopy) (new_flight : ℕ → Option Message) (t : ℕ) : Type 0 where
  pub ending : (new_terms t).ending ≡ (terms t).ending
  pub memory_is : new_memory t ≡ memory t
  pub flight_is : new_flight t ≡ None

pub grounded : (system : System) (p : ℕ) (at new_at : PairMode) (terms new_terms : ℕ → Term) (memory new_memory : ℕ → Option BackupCopy) (flight new_flight : ℕ → Option Message) (pair : SeenPair)
    → ((seat : BackupSeat) → StandsForSeat system p at terms memory flight seat → IsGrounded terms new_terms memory new_memory new_flight seat.terminal)
    → StandsForPair system p at terms memory flight pair → StandsForPair system p new_at new_terms new_memory new_flight (in_mode (mode_as new_at) without_flight pair)
grounded system p at new_at terms new_terms memory new_memory flight new_flight pair gone old = record {
  mode_is = refl;
  seats = All-map (StandsForSeat system p new_at new_terms new_memory new_flight) without_flight pair.seats
      (All-weaker (StandsForSeat system p at terms memory flight) (λ seat. StandsForSeat system p new_at new_terms new_memory new_flight (without_flight seat))
      (λ seat s.
      let is = gone seat s in
      record {
        info = s.info;
        here = s.here;
        of_pair = s.of_pair;
        dropped = s.dropped ∙ ap is_some (sym is.ending);
        names = s.names;
        memory_is = rw is.memory_is s.memory_is;
        flight_is = rw is.flight_is tt;
        at_rest = λ calm. is.flight_is;
      }) pair.seats old.seats);
  every = λ s other here of. still-there without_flight (λ seat. refl) s pair.seats ∙ old.every s other here of;
}
