-- A new pair follows the start of the paired system, and a takeover goes on with the images of the paths.
use Rattle.std.proofs.Common.{◌≡◌, ℕ, ◌<◌, ◌==◌, Bool, true, false, cond, List, [], ◌∷◌, ◌++◌, Option, Some, None, find, is_some, unwrap_or, inl, inr, refl, sym, ap, subst, ◌∙◌, true≢false, ⊎_elim}
use Rattle.std.specs.Prelude.{All}
use Rattle.std.specs.List.{list_any}
use Rattle.std.specs.Option.{option_map}
use Rattle.std.proofs.lemmas.Bool.{cases_Bool, cond-false, cond-true, eqb-true, or_left, or_right}
use Rattle.std.proofs.lemmas.List.Elements.{All-head, All-nil, All-push, All-tail, All-weaker}
use Rattle.std.proofs.lemmas.List.Folds.{list_any-append}
use Rattle.pw_base.proofs.Plain.{drop-false}
use Rattle.pw_event.specs.Due.{owner_of}
use Rattle.pw_event.specs.declared.event.Event.{Event}
use Rattle.pw_event.specs.declared.event.Event.TheVariants as event
use Rattle.pw_event.specs.declared.script.Owner.TheVariants.{Tcp}
use Rattle.pw_onecopy.specs.Behaviour.{Behaviour}
use Rattle.pw_onecopy.specs.Path.{PathAnswer}
use Rattle.pw_pair.specs.Called.{MayBeCalled}
use Rattle.pw_pair.specs.Follows.{AreTerminalsOfPair, Carries, Follows, FollowsAs, FollowsSeat, held_of, mode_as}
use Rattle.pw_pair.specs.Pairs.{SeenPair, passes, seat_of}
use Rattle.pw_pair.specs.Rooms.{MaySend}
use Rattle.pw_pair.specs.Seats.{is_flying, is_seat_of, new_seat, seats_with, start_of, with_terminal}
use Rattle.pw_pair.specs.Takeover.{resumed_image}
use Rattle.pw_pair.specs.declared.message.CheckKind.TheVariants as kind
use Rattle.pw_pair.specs.declared.mode.Mode.TheVariants as mode
use Rattle.pw_pair.specs.declared.seat.Flight.{Flight}
use Rattle.pw_pair.specs.declared.seat.BackupSeat.{BackupSeat}
use Rattle.pw_paired.specs.Failure.{resumed_path}
use Rattle.pw_paired.specs.State.{Alone, BackupCopy, Down, LastEnded, Message, PairMode, Paired, Raising, State, starting}
use Rattle.pw_paired.specs.Step.{Fits}

-- ---- the seats of a new pair

one-more : (P : BackupSeat → Type 0) (seats : List BackupSeat) (t : ℕ) → All P seats → P (new_seat t) → All P (with_terminal seats t)
one-more P seats t all new = by (list_any (is_seat_of t) seats)
  where
    by : (b : Bool) → All P (cond b seats (seats ++ new_seat t ∷ []))
    by true = all
    by false = All-push P seats (new_seat t) all new

pub all-seats : (P : BackupSeat → Type 0) (terminals : List ℕ) (seats : List BackupSeat) → All P seats → All (λ t. P (new_seat t)) terminals → All P (seats_with seats terminals)
all-seats P [] seats all each = all
all-seats P (t ∷ terminals) seats all each =
    all-seats P terminals (with_terminal seats t) (one-more P seats t all (All-head (λ x. P (new_seat x)) t terminals each)) (All-tail (λ x. P (new_seat x)) t terminals each)

-- a terminal that has a seat keeps it, and the new one has one
stays : (s t : ℕ) (seats : List BackupSeat) → list_any (is_seat_of s) seats ≡ true → list_any (is_seat_of s) (with_terminal seats t) ≡ true
stays s t seats there = by (list_any (is_seat_of t) seats)
  where
    by : (b : Bool) → list_any (is_seat_of s) (cond b seats (seats ++ new_seat t ∷ [])) ≡ true
    by true = there
    by false = list_any-append (is_seat_of s) seats (new_seat t ∷ []) ∙ or_left _ _ there

joins : (s t : ℕ) (seats : List BackupSeat) → (t == s) ≡ true → list_any (is_seat_of s) (with_terminal seats t) ≡ true
joins s t seats is = by (list_any (is_seat_of t) seats) refl
  where
    by : (b : Bool) → list_any (is_seat_of t) seats ≡ b → list_any (is_seat_of s) (cond b seats (seats ++ new_seat t ∷ [])) ≡ true
    by true e = subst (λ x. list_any (is_seat_of x) seats ≡ true) (eqb-true t s is) e
    by false e = list_any-append (is_seat_of s) seats (new_seat t ∷ []) ∙ or_right _ _ (or_left (t == s) false is)

keeps : (s : ℕ) (terminals : List ℕ) (seats : List BackupSeat) → list_any (is_seat_of s) seats ≡ true → list_any (is_seat_of s) (seats_with seats terminals) ≡ true
keeps s [] seats there = there
keeps s (t ∷ terminals) seats there = keeps s terminals (with_terminal seats t) (stays s t seats there)

pub has-seat : (s : ℕ) (terminals : List ℕ) (seats : List BackupSeat) → list_any (λ own. own == s) terminals ≡ true → list_any (is_seat_of s) (seats_with seats terminals) ≡ true
has-seat s [] seats among = absurd (true≢false (sym among))
has-seat s (t ∷ terminals) seats among =
    ⊎_elim (λ is. keeps s terminals (with_terminal seats t) (joins s t seats is))
    (λ is. has-seat s terminals (with_terminal seats t) (drop-false (t == s) (list_any (λ own. own == s) terminals) is among))
    (cases_Bool (t == s))

-- a new pair of the terminals of a pair
pub starts : (image : ℕ → List PathAnswer → List ℕ) (sys : Behaviour) (p : ℕ) (terminals : List ℕ) → AreTerminalsOfPair sys p terminals
    → Follows image sys (starting sys) p (record { mode = mode.Alone; seats = seats_with [] terminals })
starts image sys p terminals are = record {
  mode_is = refl;
  seats = all-seats Stood terminals [] (All-nil Stood) (All-weaker (λ t. (t < sys.terminals) × (sys.pair_of t ≡ p)) (λ t. Stood (new_seat t)) (λ t own. record {
    known = own.0;
    of_pair = own.1;
    dropped = refl;
    memory_is = refl;
    flight_is = tt;
    at_rest = λ calm. refl;
  }) terminals are.each);
  every = λ t known of. has-seat t terminals [] (are.every t known of);
}
  where
    Stood : BackupSeat → Type 0
    Stood = FollowsSeat image sys p Alone (starting sys).terms (starting sys).memory (starting sys).flight

-- ---- a takeover

pub resumes : (image : List PathAnswer → List ℕ) (t : ℕ) (copy : BackupCopy) (last : LastEnded)
    → resumed_image (held_of image t copy) last.number ≡ image (resumed_path copy last)
resumes image t copy last = by (last.number == copy.unit)
  where
    ends : (end : Option (List PathAnswer)) → unwrap_or (option_map image end) (image copy.start) ≡ image (unwrap_or end copy.start)
    ends None = refl
    ends (Some path) = refl

    by : (b : Bool) → cond b (unwrap_or (option_map image copy.end) (image copy.start)) (image copy.start) ≡ image (cond b (unwrap_or copy.end copy.start) copy.start)
    by true = ends copy.end
    by false = refl

-- ---- where a call may be made

pub found-seat : (P : BackupSeat → Type 0) (t : ℕ) (seats : List BackupSeat) → All P seats → list_any (is_seat_of t) seats ≡ true → (seat : BackupSeat) × (find (is_seat_of t) seats ≡ Some seat) × P seat × (seat.terminal ≡ t)
found-seat P t [] all e = absurd (true≢false (sym e))
found-seat P t (seat ∷ seats) all e =
    ⊎_elim
    (λ is. (seat, cond-true (is_seat_of t seat) (Some seat) (find (is_seat_of t) seats) is, All-head P seat seats all, eqb-true seat.terminal t is))
    (λ is.
    let one = found-seat P t seats (All-tail P seat seats all) (drop-false (is_seat_of t seat) (list_any (is_seat_of t) seats) is e) in
    (one.0, cond-false (is_seat_of t seat) (Some seat) (find (is_seat_of t) seats) is ∙ one.1, one.2, one.3))
    (cases_Bool (is_seat_of t seat))

-- what carries a message is there
flies : (image : List PathAnswer → List ℕ) (held : Option (List ℕ)) (message : Message) (flight : Option Flight) → Carries image held (Some message) flight → is_some flight ≡ true
flies image held message None h = absurd h
flies image held message (Some own) h = refl

module _ (image : ℕ → List PathAnswer → List ℕ) (sys : Behaviour) (state : State) (p : ℕ) (seen : SeenPair) (old : Follows image sys state p seen) where
  seen-mode : (q : ℕ) (at : PairMode) → q ≡ p → state.modes q ≡ at → seen.mode ≡ mode_as at
  seen-mode q at of is = old.mode_is ∙ ap (λ (r : ℕ). mode_as (state.modes r)) (sym of) ∙ ap mode_as is

  applied-flies : (t : ℕ) (message : Message) → t < sys.terminals → sys.pair_of t ≡ p → state.flight t ≡ Some message → passes is_flying (seat_of t seen) ≡ true
  applied-flies t message known of is =
      let one = found-seat (FollowsSeat image sys p (state.modes p) state.terms state.memory state.flight) t seen.seats old.seats (old.every t known of) in
      let s = one.2 in
      rw one.1 (flies (image one.0.terminal) (start_of one.0.memory) message one.0.flight
      (subst (λ f. Carries (image one.0.terminal) (start_of one.0.memory) f one.0.flight) (ap state.flight one.3 ∙ is) s.flight_is))

  pub may : (entry : Event) → Fits sys state entry → owner_of sys.pair_of entry ≡ Tcp p → MayBeCalled sys entry seen
  may (event.Show t phase attempt k) l own = tt
  may (event.Key t k) l own = tt
  may (event.CheckStart t) l own = rw (seen-mode (sys.pair_of t) Paired (cc own) l.can.paired) tt
  may (event.CheckEnd t) l own = rw (seen-mode (sys.pair_of t) Paired (cc own) l.can.paired) tt
  may (event.CheckCopy t) l own = rw (seen-mode (sys.pair_of t) Raising (cc own) l.raising) tt
  may (event.Applied t) l own = λ known. applied-flies t l.message known (cc own) l.flies
  may (event.Begin t n r) l own = tt
  may (event.Send t n c) l own = tt
  may (event.Take c i t) l own = tt
  may (event.File c i op mode f status) l own = tt
  may (event.Reply c i t fault) l own = tt
  may (event.Again t n) l own = tt
  may (event.Commit t n) l own = tt
  may (event.Back t n) l own = tt
  may (event.Restart t n cause) l own = tt
  may (event.FailTcp q primary k) l own = tt
  may (event.FailServer c i k) l own = tt
  may (event.Takeover q) l own = seen-mode q Down (cc own) l.down
  may (event.Raise q) l own = seen-mode q Alone (cc own) l.alone
  may (event.End t e) l own = tt
