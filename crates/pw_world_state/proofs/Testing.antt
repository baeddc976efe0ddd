-- The tests of what is kept are those of the state.
use Rattle.std.proofs.Common.{◌≡◌, ℕ, zero, suc, ◌+◌, ◌<◌, ◌==◌, ◌&&◌, ◌||◌, nat_lt, nat_le, List, Option, Some, None, Bool, true, false, not, is_some, is_none, refl, sym, ap, ap₂, subst, ◌∙◌, length, arith}
use Rattle.std.specs.Prelude.{slice_get}
use Rattle.pw_base.proofs.Plain.{some_is}
use Rattle.pw_class.specs.Queue as queue
use Rattle.pw_code.specs.declared.context.Context.{Context}
use Rattle.pw_code.specs.declared.system.System.{System}
use Rattle.pw_code.specs.declared.system.TermInfo.{TermInfo}
use Rattle.pw_event.specs.declared.event.Ending.TheVariants.{Fault, Lost, NoEntries, Stopped}
use Rattle.pw_event.specs.declared.script.FailLine.{FailLine}
use Rattle.pw_code_meaning.specs.OfSystem.{behaviour, number_by, processes_by}
use Rattle.pw_world_state.specs.Changes.{runs_told}
use Rattle.pw_world_state.specs.Kept.{Kept}
use Rattle.pw_world_state.specs.PairTests.{is_alone, is_down, is_gone, is_in, is_raising, is_sending, may_apply, may_copy, may_lose, may_raise, may_take_over}
use Rattle.pw_world_state.specs.Stands.{Stands, StandsForClass, StandsForHeld, StandsForPair, StandsForSeat, StandsIfAny}
use Rattle.pw_pair.specs.Follows.{mode_as}
use Rattle.pw_world_state.specs.TerminalTests as kept
use Rattle.pw_world_state.specs.TerminalTests.{can_where, entry_line_count, flies, is_live, may_again, may_end_entries, may_fault, may_key, may_send, may_show, may_stop, seen_pair_of, seat_at}
use Rattle.pw_world_state.specs.Tested.{IsAsking, IsPlaced}
use Rattle.pw_world_state.proofs.Agreeing.{there-is}
use Rattle.pw_world_state.proofs.TakenOver.{runs-same}
use Rattle.pw_laws.specs.legal.Pairs.{is_legal_applied, is_legal_check_copy, is_legal_end, is_legal_raise, is_legal_takeover}
use Rattle.pw_laws.specs.legal.Terminals as legal
use Rattle.pw_laws.specs.legal.Terminals.{is_legal_again, is_legal_key, is_legal_send, is_legal_show}
use Rattle.pw_laws.specs.legal.Values as values
use Rattle.pw_laws.specs.legal.Values.{is_same_refresh, some_with}
use Rattle.pw_laws.specs.legal.Verbs.{asks_accept, asks_fault, asks_send, asks_send_to, asks_show, asks_stop}
use Rattle.pw_pair.specs.Pairs.{passes, seat_of}
use Rattle.pw_pair.specs.Seats.{has_memory, is_flying}
use Rattle.pw_pair.specs.declared.seat.BackupSeat.{BackupSeat}
use Rattle.pw_pair.proofs.Beginning.{found-seat}
use Rattle.pw_paired.specs.Failure.{is_live_of, is_of_pair}
use Rattle.pw_paired.specs.Raising.{is_takeover}
use Rattle.pw_paired.specs.Serial as serial
use Rattle.pw_paired.specs.State.{PairMode, Alone, Raising, Paired, Down, Gone, LastEnded, State}
use Rattle.pw_paired.specs.Units as units
use Rattle.pw_paired.specs.Units.{any_below}
use Rattle.pw_laws.proofs.requests.Queues.{has-queue}

-- ---- modes

pub paired-as : (m : PairMode) → kept.is_paired (mode_as m) ≡ values.is_paired m
paired-as Alone = refl
paired-as Raising = refl
paired-as Paired = refl
paired-as Down = refl
paired-as Gone = refl

pub alone-as : (m : PairMode) → is_alone (mode_as m) ≡ values.is_alone m
alone-as Alone = refl
alone-as Raising = refl
alone-as Paired = refl
alone-as Down = refl
alone-as Gone = refl

raising-as : (m : PairMode) → is_raising (mode_as m) ≡ values.is_raising m
raising-as Alone = refl
raising-as Raising = refl
raising-as Paired = refl
raising-as Down = refl
raising-as Gone = refl

down-as : (m : PairMode) → is_down (mode_as m) ≡ values.is_down m
down-as Alone = refl
down-as Raising = refl
down-as Paired = refl
down-as Down = refl
down-as Gone = refl

pub gone-as : (m : PairMode) → is_gone (mode_as m) ≡ serial.is_gone m
gone-as Alone = refl
gone-as Raising = refl
gone-as Paired = refl
gone-as Down = refl
gone-as Gone = refl

sending-as : (m : PairMode) → is_sending (mode_as m) ≡ (values.is_raising m || values.is_paired m)
sending-as Alone = refl
sending-as Raising = refl
sending-as Paired = refl
sending-as Down = refl
sending-as Gone = refl

pub any-same : (n : ℕ) (f g : ℕ → Bool) → ((j : ℕ) → j < n → f j ≡ g j) → any_below n f ≡ any_below n g
any-same zero f g same = refl
any-same (suc n) f g same = ap₂ (λ a b. a || b) (any-same n f g (λ j low. same j (omega (arith, low)))) (same n (omega arith))

-- there is one on both sides, or none
pub same-there : {A B : Type 0} (R : A → B → Type 0) (a : Option A) (b : Option B) → StandsIfAny R a b → is_some b ≡ is_some a
same-there R None None h = refl
same-there R (Some a) (Some b) h = refl
same-there R None (Some b) h = absurd h
same-there R (Some a) None h = absurd h

none-there : {A B : Type 0} (R : A → B → Type 0) (a : Option A) (b : Option B) → StandsIfAny R a b → not (is_some b) ≡ is_none a
none-there R None None h = refl
none-there R (Some a) (Some b) h = refl
none-there R None (Some b) h = absurd h
none-there R (Some a) None h = absurd h

pub not-some : {A : Type 0} (o : Option A) → not (is_some o) ≡ is_none o
not-some None = refl
not-some (Some a) = refl

-- two tests that begin alike matter only where that passes
pub and-guard : (c d x y : Bool) → c ≡ d → (d ≡ true → (c && x) ≡ (d && y)) → (c && x) ≡ (d && y)
and-guard c true x y e same = same refl
and-guard c false x y e same = ap (λ b. b && x) e

module _ (system : System) (script : List FailLine) (state : State) (own : Kept) (stands : Stands system script state own) where
  mode-is : (p : ℕ) → p < length system.tcps → (own.pairs p).mode ≡ mode_as (state.modes p)
  mode-is p few = (stands.pairs p few).mode_is

  module _ (t : ℕ) (placed : IsPlaced system t) where
    tcp : number_by (λ (info : TermInfo). info.tcp) (slice_get system.terminals t) ≡ placed.info.tcp
    tcp = ap (number_by (λ (info : TermInfo). info.tcp)) placed.here

    pub own-mode : (seen_pair_of system own t).mode ≡ mode_as (state.modes ((behaviour script system).pair_of t))
    own-mode = ap (λ p. (own.pairs p).mode) tcp ∙ (mode-is placed.info.tcp placed.pair ∙ ap (λ p. mode_as (state.modes p)) (sym tcp))

    live-same : is_live system own t ≡ legal.is_live (behaviour script system) state t
    live-same = ap (λ e. nat_lt t (length system.terminals) && is_none e) (stands.terminals t placed.info placed.here).ending

    pub can-same : kept.can_step system own t ≡ legal.can_step (behaviour script system) state t
    can-same =
        ap₂ (λ a b. a && b) live-same
        (ap₂ (λ a b. a && b) (ap kept.is_paired own-mode ∙ paired-as (state.modes ((behaviour script system).pair_of t)))
        (ap is_none (stands.terminals t placed.info placed.here).pending))

    -- its seat stands for what the backup has of it
    seat-same : (seat : BackupSeat) × (seat_at system own t ≡ Some seat) × (is_some seat.memory ≡ is_some (state.memory t)) × (is_some seat.flight ≡ is_some (state.flight t))
    seat-same =
        let pair : StandsForPair system placed.info.tcp (state.modes placed.info.tcp) state.terms state.memory state.flight (own.pairs placed.info.tcp) = stands.pairs placed.info.tcp placed.pair in
        let one = found-seat (StandsForSeat system placed.info.tcp (state.modes placed.info.tcp) state.terms state.memory state.flight) t (own.pairs placed.info.tcp).seats pair.seats (pair.every t placed.info placed.here refl) in (
          one.0,
          ap (λ p. seat_of t (own.pairs p)) tcp ∙ one.1,
          same-there _ (state.memory one.0.terminal) one.0.memory one.2.memory_is ∙ ap (λ x. is_some (state.memory x)) one.3,
          same-there _ (state.flight one.0.terminal) one.0.flight one.2.flight_is ∙ ap (λ x. is_some (state.flight x)) one.3,
        )

    -- the same with what is held
    pub seat-held : (seat : BackupSeat) × (seat_at system own t ≡ Some seat) × StandsIfAny (StandsForHeld system placed.info) (state.memory t) seat.memory
    seat-held =
        let pair : StandsForPair system placed.info.tcp (state.modes placed.info.tcp) state.terms state.memory state.flight (own.pairs placed.info.tcp) = stands.pairs placed.info.tcp placed.pair in
        let one = found-seat (StandsForSeat system placed.info.tcp (state.modes placed.info.tcp) state.terms state.memory state.flight) t (own.pairs placed.info.tcp).seats pair.seats (pair.every t placed.info placed.here refl) in
        let info : one.2.info ≡ placed.info = some_is (sym one.2.here ∙ (ap (slice_get system.terminals) one.3 ∙ placed.here)) in (
          one.0,
          ap (λ p. seat_of t (own.pairs p)) tcp ∙ one.1,
          subst (λ x. StandsIfAny (StandsForHeld system x) (state.memory t) one.0.memory) info
              (subst (λ x. StandsIfAny (StandsForHeld system one.2.info) (state.memory x) one.0.memory) one.3 one.2.memory_is),
        )

    pub flies-same : flies system own t ≡ is_some (state.flight t)
    flies-same = ap (passes is_flying) seat-same.1 ∙ seat-same.3

    memory-same : passes has_memory (seat_at system own t) ≡ is_some (state.memory t)
    memory-same = ap (passes has_memory) seat-same.1 ∙ seat-same.2

    pub copy-same : may_copy system own t ≡ is_legal_check_copy (behaviour script system) state t
    copy-same =
        ap₂ (λ a b. a && b) live-same
        (ap₂ (λ a b. a && b) (ap is_raising own-mode ∙ raising-as (state.modes ((behaviour script system).pair_of t)))
        (ap₂ (λ a b. a && b) (ap not memory-same ∙ not-some (state.memory t)) (ap not flies-same ∙ not-some (state.flight t))))

    pub apply-same : may_apply system own t ≡ is_legal_applied (behaviour script system) state t
    apply-same = ap₂ (λ a b. a && b) flies-same (ap is_sending own-mode ∙ sending-as (state.modes ((behaviour script system).pair_of t)))

    pub lose-same : may_lose system own t ≡ is_legal_end (behaviour script system) state t Lost
    lose-same = ap₂ (λ a b. a && b) live-same (ap is_gone own-mode ∙ gone-as (state.modes ((behaviour script system).pair_of t)))

  -- ---- a whole pair

  of-terminals : (f g : ℕ → Bool) → ((t : ℕ) (info : TermInfo) → slice_get system.terminals t ≡ Some info → f t ≡ g t) → any_below (length system.terminals) f ≡ any_below (length system.terminals) g
  of-terminals f g same = any-same (length system.terminals) f g (λ t low. let info = there-is system.terminals t low in same t info.0 info.1)

  pub raise-same : (p : ℕ) → p < length system.tcps → may_raise system own p ≡ is_legal_raise (behaviour script system) state p
  raise-same p few =
      ap₂ (λ a b. a && b) (ap is_alone (mode-is p few) ∙ alone-as (state.modes p))
      (ap₂ (λ a b. a && not b)
      (of-terminals (λ t. is_in system p t && is_none (own.terminals t).ending) (is_live_of (behaviour script system) p state)
      (λ t info here. ap (λ e. is_in system p t && is_none e) (stands.terminals t info here).ending))
      (of-terminals (λ t. is_in system p t && is_takeover (own.terminals t).pending) (λ t. is_of_pair (behaviour script system) p t && is_takeover (state.terms t).pending)
      (λ t info here. ap (λ e. is_in system p t && is_takeover e) (stands.terminals t info here).pending)))

  pub takeover-same : (p : ℕ) → p < length system.tcps → may_take_over own p ≡ is_legal_takeover state p
  takeover-same p few = ap is_down (mode-is p few) ∙ down-as (state.modes p)

  -- ---- a terminal at its verb

  pub out-same : (t : ℕ) → kept.is_out system own t ≡ units.is_out (behaviour script system) state t
  out-same t = any-same (length system.classes) _ _ (λ c low.
      let info = there-is system.classes c low in
      let old : StandsForClass system info.0 (state.classes c) (own.queues c) (own.jobs c) = stands.classes c info.0 info.1 in
      ap (queue.has_request t) old.queue_is ∙ (sym (has-queue info.0.processes t (state.classes c)) ∙ ap (λ o. units.has_request t (processes_by o) (state.classes c)) (sym info.1)))

  module _ (t : ℕ) (asking : IsAsking system script state own t) where
    abbrev pub can : Bool
    can = legal.can_step (behaviour script system) state t

    pub where-is : (test : Context → Bool) (inner : Bool) → test asking.context ≡ inner → can_where system own t test ≡ (can && inner)
    where-is test inner is = ap₂ (λ a b. a && b) (can-same t asking.placed) (ap (some_with test) asking.ready ∙ is)

    -- the same where the rest matters only for a terminal that can step
    pub where-can-is : (test : Context → Bool) (inner : Bool) → (can ≡ true → test asking.context ≡ inner) → can_where system own t test ≡ (can && inner)
    where-can-is test inner is = where-is test (test asking.context) refl ∙ by can is
      where
        by : (b : Bool) → (b ≡ true → test asking.context ≡ inner) → (b && test asking.context) ≡ (b && inner)
        by true same = same refl
        by false same = refl

    pub ended : (own.disc.ended t).number ≡ (state.ended t).number
    ended = ap (λ (f : ℕ → LastEnded). (f t).number) stands.disc.ended

    pub show-same : (phase attempt k : ℕ) → may_show system own t phase attempt k ≡ is_legal_show (behaviour script system) state t phase attempt k
    show-same phase attempt k =
        where-is _ _
        (ap₂ (λ v n. asks_show v && is_same_refresh n (record { phase = phase; attempt = attempt; k = k })) asking.says.verb asking.says.counts.number)

    pub key-same : (k : ℕ) → may_key system own t k ≡ is_legal_key (behaviour script system) state t k
    key-same k = where-is _ _ (ap₂ (λ v e. asks_accept v && (k == e + 1 && nat_le k (entry_line_count system t))) asking.says.verb asking.says.counts.entries)

    pub send-same : (n c : ℕ) → may_send system own t n c ≡ is_legal_send (behaviour script system) state t n c
    send-same n c =
        where-is _ _
        (ap₂ (λ a b. a && b) (ap (runs_told n) (stands.disc.units t) ∙ runs-same n _ (state.units t))
        (ap₂ (λ v o. asks_send_to c v && not o) asking.says.verb (out-same t)))

    pub again-same : (n : ℕ) → may_again system own t n ≡ is_legal_again (behaviour script system) state t n
    again-same n =
        where-is _ _
        (ap₂ (λ a b. a && b) (ap asks_send asking.says.verb)
        (ap₂ (λ a b. a && b) asking.says.counts.outside (ap₂ (λ u e. n == u && e == n) asking.says.counts.unit ended)))

    pub stop-same : may_stop system own t ≡ is_legal_end (behaviour script system) state t Stopped
    stop-same = where-is _ _ (ap asks_stop asking.says.verb)

    pub entries-same : may_end_entries system own t ≡ is_legal_end (behaviour script system) state t NoEntries
    entries-same = where-is _ _ (ap₂ (λ v e. asks_accept v && e == entry_line_count system t) asking.says.verb asking.says.counts.entries)

    pub fault-same : (x : ℕ) → may_fault system own t x ≡ is_legal_end (behaviour script system) state t (Fault x)
    fault-same x = where-is _ _ (ap (asks_fault x) asking.says.verb)
