-- A pair follows the paired state behind each change of either.
use Rattle.std.proofs.Common.{◌≡◌, ◌≢◌, ℕ, ◌<◌, ◌==◌, ◌&&◌, Bool, true, false, not, cond, is_none, is_some, List, Option, Some, None, refl, sym, ap, subst, ◌∙◌, true≢false}
use Rattle.std.specs.Prelude.{All}
use Rattle.std.specs.List.{list_any}
use Rattle.std.specs.Option.{option_map}
use Rattle.std.proofs.lemmas.Bool.{eq-eqb, eqb-true}
use Rattle.std.proofs.lemmas.List.Elements.{All-map, All-weaker}
use Rattle.pw_base.proofs.Plain.{same-truth}
use Rattle.pw_event.specs.declared.event.Ending.{Ending}
use Rattle.pw_onecopy.specs.Behaviour.{Behaviour}
use Rattle.pw_onecopy.specs.Path.{PathAnswer}
use Rattle.pw_onecopy.specs.Update.{upd}
use Rattle.pw_onecopy.proofs.Update.{upd-other, upd-same}
use Rattle.pw_pair.specs.Bodies.{image_in}
use Rattle.pw_pair.specs.Follows.{Carries, CarriesMessage, FollowsAs, FollowsSeat, IsUnitIn, has_flights, held_of, check_kind_of, mode_as, path_in}
use Rattle.pw_pair.specs.Pairs as pair
use Rattle.pw_pair.specs.Pairs.{SeenPair, after_send, changed_at, in_mode, settled}
use Rattle.pw_pair.specs.Seats.{applied, built, dropped, is_lacking, is_seat_of, start_of, taken_in, with_kind, with_message, with_whole, without_backup, without_flight}
use Rattle.pw_pair.specs.declared.backup.Held.{Held}
use Rattle.pw_pair.specs.declared.message.CheckKind.{CheckKind}
use Rattle.pw_pair.specs.declared.message.CheckKind.TheVariants as kind
use Rattle.pw_pair.specs.declared.seat.Flight.{Flight}
use Rattle.pw_pair.specs.declared.seat.BackupSeat.{BackupSeat}
use Rattle.pw_pair.proofs.Seating.{all-at, any-so, any-then, keeps-terminal, still-there}
use Rattle.pw_pair.proofs.Sound.{body-of-image}
use Rattle.pw_paired.specs.Failure.{is_live_of, is_of_pair}
use Rattle.pw_paired.specs.Raising as raising
use Rattle.pw_paired.specs.Raising.{lacks_one, settled_mode}
use Rattle.pw_paired.specs.State.{Alone, BackupCopy, Copy, Down, End, Gone, Message, PairMode, Paired, Raising, Start, State, Term}
use Rattle.pw_laws.proofs.Lacking.{any_below-some, any_below-true}

-- ---- what is taken in

-- what is held then is what the paired system holds then
taken : (image : List PathAnswer → List ℕ) (t : ℕ) (message : Option Message) (copy : Option BackupCopy) (flight : Option Flight)
    → Carries image (start_of (option_map (held_of image t) copy)) message flight
    → taken_in t flight (option_map (held_of image t) copy) ≡ option_map (held_of image t) (raising.with_message message copy)
taken image t None copy None f = refl
taken image t None copy (Some own) f = absurd f
taken image t (Some message) copy None f = absurd f
taken image t (Some (Start unit path)) copy (Some own) f =
    ap (λ k. with_kind k t own.message.unit (image_in (start_of (option_map (held_of image t) copy)) own.message.body) (option_map (held_of image t) copy)) f.kind_is
    ∙ ap (λ (u : ℕ). Some (held-as u (image_in (start_of (option_map (held_of image t) copy)) own.message.body))) f.unit
    ∙ ap (λ (i : List ℕ). Some (held-as unit i)) f.image_is
  where
    held-as : ℕ → List ℕ → Held
    held-as u i = record { terminal = t; unit = u; start = i; end = None }
taken image t (Some (Copy unit path)) copy (Some own) f =
    ap (λ k. with_kind k t own.message.unit (image_in (start_of (option_map (held_of image t) copy)) own.message.body) (option_map (held_of image t) copy)) f.kind_is
    ∙ ap (λ (u : ℕ). Some (held-as u (image_in (start_of (option_map (held_of image t) copy)) own.message.body))) f.unit
    ∙ ap (λ (i : List ℕ). Some (held-as unit i)) f.image_is
  where
    held-as : ℕ → List ℕ → Held
    held-as u i = record { terminal = t; unit = u; start = i; end = None }
taken image t (Some (End path)) None (Some own) f =
    ap (λ k. with_kind k t own.message.unit (image_in None own.message.body) None) f.kind_is
taken image t (Some (End path)) (Some held) (Some own) f =
    ap (λ k. with_kind k t own.message.unit (image_in (Some (image held.start)) own.message.body) (Some (held_of image t held))) f.kind_is
    ∙ ap (λ (i : List ℕ). Some (record (held_of image t held) { end = Some i })) f.image_is

-- a message that is built carries the same
whole : (image : List PathAnswer → List ℕ) (held : Option (List ℕ)) (message : Option Message) (flight : Option Flight)
    → Carries image held message flight → Carries image held message (with_whole held flight)
whole image held None None h = h
whole image held None (Some flight) h = h
whole image held (Some message) None h = h
whole image held (Some message) (Some flight) h = record { kind_is = h.kind_is; unit = h.unit; image_is = h.image_is }

-- ---- modes

pub mode-settles : (at : PairMode) (lacks : Bool) → pair.settled_mode (mode_as at) lacks ≡ mode_as (settled_mode at lacks)
mode-settles Alone lacks = refl
mode-settles Raising true = refl
mode-settles Raising false = refl
mode-settles Paired lacks = refl
mode-settles Down lacks = refl
mode-settles Gone lacks = refl

pub flights-settle : (at : PairMode) (lacks : Bool) → has_flights (settled_mode at lacks) ≡ has_flights at
flights-settle Alone lacks = refl
flights-settle Raising true = refl
flights-settle Raising false = refl
flights-settle Paired lacks = refl
flights-settle Down lacks = refl
flights-settle Gone lacks = refl

-- ---- what is lacking

-- a terminal is lacking on both sides
lacking-same : (f : BackupCopy → Held) (ending : Option Ending) (copy : Option BackupCopy)
    → (not (is_some ending) && not (is_some (option_map f copy))) ≡ (is_none ending && not (is_some copy))
lacking-same f None None = refl
lacking-same f None (Some copy) = refl
lacking-same f (Some ending) copy = refl

pub both-of : (a b c : Bool) → ((a && b) && c) ≡ true → (a ≡ true) × ((b && c) ≡ true)
both-of true b c e = (refl, e)
both-of false b c e = absurd (true≢false (sym e))

pub all-of : (a b c : Bool) → a ≡ true → (b && c) ≡ true → ((a && b) && c) ≡ true
all-of true b c a e = e
all-of false b c a e = absurd (true≢false (sym a))

-- of a terminal the pair is told the same
pub record IsSameOf (terms new_terms : ℕ → Term) (memory new_memory : ℕ → Option BackupCopy) (flight new_flight : ℕ → Option Message) (t : ℕ) : Type 0 where
  pub ending : (new_terms t).ending ≡ (terms t).ending
  pub memory_is : new_memory t ≡ memory t
  pub flight_is : new_flight t ≡ flight t

-- of a terminal there is the same ending, and nothing is held or in flight
pub record IsEmptied (terms new_terms : ℕ → Term) (new_memory : ℕ → Option BackupCopy) (new_flight : ℕ → Option Message) (t : ℕ) : Type 0 where
  pub ending : (new_terms t).ending ≡ (terms t).ending
  pub memory_is : new_memory t ≡ None
  pub flight_is : new_flight t ≡ None

-- of a terminal there is the same ending and memory, and nothing is in flight
pub record IsGrounded (terms new_terms : ℕ → Term) (memory new_memory : ℕ → Option BackupCopy) (new_flight : ℕ → Option Message) (t : ℕ) : Type 0 where
  pub ending : (new_terms t).ending ≡ (terms t).ending
  pub memory_is : new_memory t ≡ memory t
  pub flight_is : new_flight t ≡ None

module _ (image : ℕ → List PathAnswer → List ℕ) (sys : Behaviour) (p : ℕ) where
  -- ---- where nothing changes

  seat-same : (at : PairMode) (terms new_terms : ℕ → Term) (memory new_memory : ℕ → Option BackupCopy) (flight new_flight : ℕ → Option Message) (seat : BackupSeat)
      → IsSameOf terms new_terms memory new_memory flight new_flight seat.terminal
      → FollowsSeat image sys p at terms memory flight seat → FollowsSeat image sys p at new_terms new_memory new_flight seat
  seat-same at terms new_terms memory new_memory flight new_flight seat same old = record {
    known = old.known;
    of_pair = old.of_pair;
    dropped = old.dropped ∙ ap (λ o. is_some o) (sym same.ending);
    memory_is = old.memory_is ∙ ap (λ c. option_map (held_of (image seat.terminal) seat.terminal) c) (sym same.memory_is);
    flight_is = rw same.flight_is old.flight_is;
    at_rest = λ calm. same.flight_is ∙ old.at_rest calm;
  }

  -- the terminals of the pair are the same, and its mode
  pub pair-same : (at new_at : PairMode) (terms new_terms : ℕ → Term) (memory new_memory : ℕ → Option BackupCopy) (flight new_flight : ℕ → Option Message) (pair : SeenPair)
      → new_at ≡ at → ((t : ℕ) → sys.pair_of t ≡ p → IsSameOf terms new_terms memory new_memory flight new_flight t)
      → FollowsAs image sys p at terms memory flight pair → FollowsAs image sys p new_at new_terms new_memory new_flight pair
  pair-same at new_at terms new_terms memory new_memory flight new_flight pair same_mode same old =
      subst (λ m. FollowsAs image sys p m new_terms new_memory new_flight pair) (sym same_mode) (record {
        mode_is = old.mode_is;
        seats = All-weaker (FollowsSeat image sys p at terms memory flight) (FollowsSeat image sys p at new_terms new_memory new_flight)
            (λ seat s. seat-same at terms new_terms memory new_memory flight new_flight seat (same seat.terminal s.of_pair) s)
            pair.seats old.seats;
        every = old.every;
      })

  -- ---- all seats change

  pub emptied : (at new_at : PairMode) (terms new_terms : ℕ → Term) (memory new_memory : ℕ → Option BackupCopy) (flight new_flight : ℕ → Option Message) (pair : SeenPair)
      → ((seat : BackupSeat) → FollowsSeat image sys p at terms memory flight seat → IsEmptied terms new_terms new_memory new_flight seat.terminal)
      → FollowsAs image sys p at terms memory flight pair → FollowsAs image sys p new_at new_terms new_memory new_flight (in_mode (mode_as new_at) without_backup pair)
  emptied at new_at terms new_terms memory new_memory flight new_flight pair gone old = record {
    mode_is = refl;
    seats = All-map (FollowsSeat image sys p new_at new_terms new_memory new_flight) without_backup pair.seats
        (All-weaker (FollowsSeat image sys p at terms memory flight) (λ seat. FollowsSeat image sys p new_at new_terms new_memory new_flight (without_backup seat))
        (λ seat s.
        let is = gone seat s in
        record {
          known = s.known;
          of_pair = s.of_pair;
          dropped = s.dropped ∙ ap (λ o. is_some o) (sym is.ending);
          memory_is = sym (ap (λ c. option_map (held_of (image seat.terminal) seat.terminal) c) is.memory_is);
          flight_is = rw is.flight_is tt;
          at_rest = λ calm. is.flight_is;
        }) pair.seats old.seats);
    every = λ s known of. still-there without_backup (λ seat. refl) s pair.seats ∙ old.every s known of;
  }

  pub grounded : (at new_at : PairMode) (terms new_terms : ℕ → Term) (memory new_memory : ℕ → Option BackupCopy) (flight new_flight : ℕ → Option Message) (pair : SeenPair)
      → ((seat : BackupSeat) → FollowsSeat image sys p at terms memory flight seat → IsGrounded terms new_terms memory new_memory new_flight seat.terminal)
      → FollowsAs image sys p at terms memory flight pair → FollowsAs image sys p new_at new_terms new_memory new_flight (in_mode (mode_as new_at) without_flight pair)
  grounded at new_at terms new_terms memory new_memory flight new_flight pair gone old = record {
    mode_is = refl;
    seats = All-map (FollowsSeat image sys p new_at new_terms new_memory new_flight) without_flight pair.seats
        (All-weaker (FollowsSeat image sys p at terms memory flight) (λ seat. FollowsSeat image sys p new_at new_terms new_memory new_flight (without_flight seat))
        (λ seat s.
        let is = gone seat s in
        record {
          known = s.known;
          of_pair = s.of_pair;
          dropped = s.dropped ∙ ap (λ o. is_some o) (sym is.ending);
          memory_is = s.memory_is ∙ ap (λ c. option_map (held_of (image seat.terminal) seat.terminal) c) (sym is.memory_is);
          flight_is = rw is.flight_is tt;
          at_rest = λ calm. is.flight_is;
        }) pair.seats old.seats);
    every = λ s known of. still-there without_flight (λ seat. refl) s pair.seats ∙ old.every s known of;
  }

  -- ---- one seat changes

  -- a message goes to the backup
  pub sent : (at : PairMode) (terms : ℕ → Term) (memory : ℕ → Option BackupCopy) (flight : ℕ → Option Message) (pair : SeenPair) (t : ℕ) (message : Message) (unit : ℕ)
      → has_flights at ≡ true → IsUnitIn message unit
      → FollowsAs image sys p at terms memory flight pair
      → FollowsAs image sys p at terms memory (upd flight t (Some message)) (after_send (record { terminal = t; kind = check_kind_of message; unit = unit; image = image t (path_in message) }) pair)
  sent at terms memory flight pair t message unit flies number old = record {
    mode_is = old.mode_is;
    seats = all-at (FollowsSeat image sys p at terms memory flight) (FollowsSeat image sys p at terms memory new) t (with_message (check_kind_of message) unit (image t (path_in message)))
        (λ seat is s.
        let lands : new seat.terminal ≡ Some message = upd-same flight t (Some message) seat.terminal is in
        record {
          known = s.known;
          of_pair = s.of_pair;
          dropped = s.dropped;
          memory_is = s.memory_is;
          flight_is = rw lands (record {
            kind_is = refl;
            unit = number;
            image_is = (body-of-image (start_of seat.memory) (image t (path_in message))).1 ∙ ap (λ (o : ℕ). image o (path_in message)) (sym is);
          });
          at_rest = λ calm. absurd (true≢false (sym flies ∙ calm));
        })
        (λ seat ne s. seat-same at terms terms memory memory flight new seat
        (record { ending = refl; memory_is = refl; flight_is = upd-other flight t (Some message) seat.terminal ne }) s)
        pair.seats old.seats;
    every = λ s known of. still-there _ (keeps-terminal t (with_message (check_kind_of message) unit (image t (path_in message))) (λ seat. refl)) s pair.seats ∙ old.every s known of;
  }
    where
      new : ℕ → Option Message
      new = upd flight t (Some message)

  -- a message is taken in, before the pair settles
  pub took : (at : PairMode) (terms : ℕ → Term) (memory : ℕ → Option BackupCopy) (flight : ℕ → Option Message) (pair : SeenPair) (t : ℕ)
      → FollowsAs image sys p at terms memory flight pair
      → FollowsAs image sys p at terms (upd memory t (raising.with_message (flight t) (memory t))) (upd flight t None) (changed_at t applied pair)
  took at terms memory flight pair t old = record {
    mode_is = old.mode_is;
    seats = all-at (FollowsSeat image sys p at terms memory flight) (FollowsSeat image sys p at terms new none) t applied
        (λ seat is s.
        let lands : new seat.terminal ≡ raising.with_message (flight t) (memory t) = upd-same memory t (raising.with_message (flight t) (memory t)) seat.terminal is in
        let gone : none seat.terminal ≡ None = upd-same flight t None seat.terminal is in
        record {
          known = s.known;
          of_pair = s.of_pair;
          dropped = s.dropped;
          memory_is =
              ap (λ m. taken_in seat.terminal seat.flight m) s.memory_is
              ∙ taken (image seat.terminal) seat.terminal (flight seat.terminal) (memory seat.terminal) seat.flight
              (subst (λ m. Carries (image seat.terminal) (start_of m) (flight seat.terminal) seat.flight) s.memory_is s.flight_is)
              ∙ ap (λ c. option_map (held_of (image seat.terminal) seat.terminal) c) (ap (λ x. raising.with_message (flight x) (memory x)) is ∙ sym lands);
          flight_is = rw gone tt;
          at_rest = λ calm. gone;
        })
        (λ seat ne s. seat-same at terms terms memory new flight none seat
        (record { ending = refl; memory_is = upd-other memory t _ seat.terminal ne; flight_is = upd-other flight t None seat.terminal ne }) s)
        pair.seats old.seats;
    every = λ s known of. still-there _ (keeps-terminal t applied (λ seat. refl)) s pair.seats ∙ old.every s known of;
  }
    where
      new : ℕ → Option BackupCopy
      new = upd memory t (raising.with_message (flight t) (memory t))

      none : ℕ → Option Message
      none = upd flight t None

  -- a terminal ends, before the pair settles
  pub left : (at : PairMode) (terms : ℕ → Term) (memory : ℕ → Option BackupCopy) (flight : ℕ → Option Message) (pair : SeenPair) (t : ℕ) (term : Term)
      → is_some term.ending ≡ true
      → FollowsAs image sys p at terms memory flight pair
      → FollowsAs image sys p at (upd terms t term) (upd memory t None) (upd flight t None) (changed_at t dropped pair)
  left at terms memory flight pair t term over old = record {
    mode_is = old.mode_is;
    seats = all-at (FollowsSeat image sys p at terms memory flight) (FollowsSeat image sys p at new_terms new_memory new_flight) t dropped
        (λ seat is s.
        let ends : new_terms seat.terminal ≡ term = upd-same terms t term seat.terminal is in
        let no_memory : new_memory seat.terminal ≡ None = upd-same memory t None seat.terminal is in
        let no_flight : new_flight seat.terminal ≡ None = upd-same flight t None seat.terminal is in
        record {
          known = s.known;
          of_pair = s.of_pair;
          dropped = sym (ap (λ (x : Term). is_some x.ending) ends ∙ over);
          memory_is = sym (ap (λ c. option_map (held_of (image seat.terminal) seat.terminal) c) no_memory);
          flight_is = rw no_flight tt;
          at_rest = λ calm. no_flight;
        })
        (λ seat ne s. seat-same at terms new_terms memory new_memory flight new_flight seat
        (record { ending = ap (λ (x : Term). x.ending) (upd-other terms t term seat.terminal ne); memory_is = upd-other memory t None seat.terminal ne; flight_is = upd-other flight t None seat.terminal ne }) s)
        pair.seats old.seats;
    every = λ s known of. still-there _ (keeps-terminal t dropped (λ seat. refl)) s pair.seats ∙ old.every s known of;
  }
    where
      new_terms : ℕ → Term
      new_terms = upd terms t term

      new_memory : ℕ → Option BackupCopy
      new_memory = upd memory t None

      new_flight : ℕ → Option Message
      new_flight = upd flight t None

  -- the backup builds the image of a message
  pub built-follows : (at : PairMode) (terms : ℕ → Term) (memory : ℕ → Option BackupCopy) (flight : ℕ → Option Message) (pair : SeenPair) (t : ℕ)
      → FollowsAs image sys p at terms memory flight pair → FollowsAs image sys p at terms memory flight (changed_at t built pair)
  built-follows at terms memory flight pair t old = record {
    mode_is = old.mode_is;
    seats = all-at (FollowsSeat image sys p at terms memory flight) (FollowsSeat image sys p at terms memory flight) t built
        (λ seat is s. record {
          known = s.known;
          of_pair = s.of_pair;
          dropped = s.dropped;
          memory_is = s.memory_is;
          flight_is = whole (image seat.terminal) (start_of seat.memory) (flight seat.terminal) seat.flight s.flight_is;
          at_rest = s.at_rest;
        })
        (λ seat ne s. s) pair.seats old.seats;
    every = λ s known of. still-there _ (keeps-terminal t built (λ seat. refl)) s pair.seats ∙ old.every s known of;
  }

  -- ---- the pair settles

  lacks-same : (at : PairMode) (state : State) (seen : SeenPair) → FollowsAs image sys p at state.terms state.memory state.flight seen
      → list_any is_lacking seen.seats ≡ lacks_one sys p state
  lacks-same at state seen old = same-truth (list_any is_lacking seen.seats) (lacks_one sys p state)
      (any-so Stood is_lacking (lacks_one sys p state ≡ true) seen.seats old.seats
      (λ seat s lacks. any_below-true sys.terminals lacking seat.terminal s.known
      (all-of (is_of_pair sys p seat.terminal) (is_none (state.terms seat.terminal).ending) (not (is_some (state.memory seat.terminal)))
      (eq-eqb _ _ s.of_pair)
      (sym (seat-lacks seat s) ∙ lacks))))
      (λ lacks.
      let one = any_below-some sys.terminals lacking lacks in
      let parts = both-of (is_of_pair sys p one.0) (is_none (state.terms one.0).ending) (not (is_some (state.memory one.0))) one.2 in
      any-then Stood (is_seat_of one.0) is_lacking seen.seats old.seats
      (λ seat s is. seat-lacks seat s ∙ ap (λ t. is_none (state.terms t).ending && not (is_some (state.memory t))) (eqb-true seat.terminal one.0 is) ∙ parts.1)
      (old.every one.0 one.1 (eqb-true _ _ parts.0)))
    where
      Stood : BackupSeat → Type 0
      Stood = FollowsSeat image sys p at state.terms state.memory state.flight

      lacking : ℕ → Bool
      lacking t = is_live_of sys p state t && not (is_some (state.memory t))

      seat-lacks : (seat : BackupSeat) → FollowsSeat image sys p at state.terms state.memory state.flight seat → is_lacking seat ≡ (is_none (state.terms seat.terminal).ending && not (is_some (state.memory seat.terminal)))
      seat-lacks seat s =
          ap (λ b. not b && not (is_some seat.memory)) s.dropped
          ∙ ap (λ m. not (is_some (state.terms seat.terminal).ending) && not (is_some m)) s.memory_is
          ∙ lacking-same (held_of (image seat.terminal) seat.terminal) (state.terms seat.terminal).ending (state.memory seat.terminal)

  pub settles : (at : PairMode) (state : State) (seen : SeenPair) → FollowsAs image sys p at state.terms state.memory state.flight seen
      → FollowsAs image sys p (settled_mode at (lacks_one sys p state)) state.terms state.memory state.flight (settled seen)
  settles at state seen old = record {
    mode_is =
        ap (λ b. pair.settled_mode seen.mode b) (lacks-same at state seen old)
        ∙ ap (λ m. pair.settled_mode m lacks) old.mode_is ∙ mode-settles at lacks;
    seats = All-weaker (FollowsSeat image sys p at state.terms state.memory state.flight) (FollowsSeat image sys p (settled_mode at lacks) state.terms state.memory state.flight)
        (λ seat s. record {
          known = s.known;
          of_pair = s.of_pair;
          dropped = s.dropped;
          memory_is = s.memory_is;
          flight_is = s.flight_is;
          at_rest = λ calm. s.at_rest (sym (flights-settle at lacks) ∙ calm);
        }) seen.seats old.seats;
    every = old.every;
  }
    where
      lacks : Bool
      lacks = lacks_one sys p state
