-- Each legal entry of a run keeps that the shadow stands for the state, and gives its blocks.
use Rattle.std.proofs.Common.{◌≡◌, ◌≢◌, ℕ, ◌+◌, ◌<◌, ◌≤◌, ⊎_elim, Bool, true, false, List, [], ◌∷◌, ◌++◌, length, map, Option, Some, None, if◌then◌else◌, refl, ap, sym, subst, ◌∙◌, arith}
use Rattle.std.proofs.lemmas.Bool.{cases_eq, cases_lt, cond-false, ne_eqb}
use Rattle.std.proofs.lemmas.List.{length-map}
use Rattle.std.proofs.lemmas.Option.{slice_get-map, slice_get_past}
use Rattle.std.specs.Prelude.{slice_get}
use Rattle.std.specs.Option.{option_map}
use Rattle.pw_event.specs.declared.event.Ending.{Ending}
use Rattle.pw_event.specs.declared.event.Ending.TheVariants as ending
use Rattle.pw_event.specs.declared.event.Event.{Event}
use Rattle.pw_event.specs.declared.event.Event.TheVariants as event
use Rattle.pw_onecopy.proofs.Update.{upd-other, upd-same, upd_elim}
use Rattle.pw_onecopy.specs.Behaviour.{Behaviour}
use Rattle.pw_onecopy.specs.IsBehaviour.{IsBehaviour}
use Rattle.pw_onecopy.specs.Update.{upd}
use Rattle.pw_serial_order.proofs.Changing.{changed-length, changed-other, changed-same}
use Rattle.pw_serial_order.proofs.Failing.{fails-as, is_whole, loss-told, makes-gone, mode-lost, state_loss}
use Rattle.pw_serial_order.proofs.Giving.{left-told, none-left, out-told, reply-told, told-append, unit-told}
use Rattle.pw_serial_order.proofs.Keeping.{own-again, own-applied, own-back, own-begin, own-check-copy, own-check-end, own-check-start, own-commit, own-end, own-key, own-reply, own-restart, own-show, resting}
use Rattle.pw_serial_order.proofs.Losing.{loss-keeps, raise-keeps, state_behind_loss, takeover-keeps}
use Rattle.pw_serial_order.proofs.Seating.{seat-behind}
use Rattle.pw_serial_order.proofs.Staying.{is_of_pairs, stays}
use Rattle.pw_serial_order.specs.Entries.{Shadow, changed_at, blocks_given, given_at, left_to, loss_at, loss_gives, loss_in, seat_behind, shadow_behind, shadow_behind_loss, terminal_in}
use Rattle.pw_serial_order.specs.Order.{told}
use Rattle.pw_serial_order.specs.Pairs.{is_seat_of_pair, is_of, lacks, mode_behind, of_pair, seat_behind_loss}
use Rattle.pw_serial_order.specs.Seats.{rested, resumed, without_memory}
use Rattle.pw_serial_order.specs.Shadow.{IsOneSendFlag, ShadowStandsAt, mode_of, seat_of}
use Rattle.pw_serial_order.specs.declared.block.Block.{Block}
use Rattle.pw_serial_order.specs.declared.block.Block.TheVariants as block
use Rattle.pw_serial_order.specs.declared.pair.Loss.{Loss}
use Rattle.pw_serial_order.specs.declared.pair.Loss.TheVariants as loss
use Rattle.pw_serial_order.specs.declared.pair.OrderMode as order
use Rattle.pw_serial_order.specs.declared.pair.OrderMode.TheVariants as mode
use Rattle.pw_serial_order.specs.declared.seat.OrderSeat.{OrderSeat}
use Rattle.pw_paired.specs.End.{LegalEnd}
use Rattle.pw_paired.specs.Failure.{is_of_pair}
use Rattle.pw_paired.specs.Raising.{lacks_one, settled_mode}
use Rattle.pw_paired.specs.Serial.{Reading, blocks_of, left_blocks, read_on}
use Rattle.pw_paired.specs.Server.{LegalReply}
use Rattle.pw_paired.specs.State.{Alone, BackupCopy, Down, Gone, PairMode, Paired, Raising, State}
use Rattle.pw_paired.specs.Step.{Fits, change, effect}
use Rattle.pw_laws.proofs.induction.Failed.{end-any, process-cases}
use Rattle.pw_laws.proofs.induction.Served.{file-cases, reply-any}
use Rattle.pw_laws.proofs.kept.Failing.{out-job}
use Rattle.pw_laws.proofs.kept.Kept.{Inv}
use Rattle.pw_laws.proofs.terms.TermOk.{HasMemory}

-- Raising and Paired are one
settled-as : (m : PairMode) (lacking : Bool) → mode_of (settled_mode m lacking) ≡ mode_of m
settled-as Raising false = refl
settled-as Raising true = refl
settled-as Alone lacking = refl
settled-as Paired lacking = refl
settled-as Down lacking = refl
settled-as Gone lacking = refl

module _ (sys : Behaviour) (b : IsBehaviour sys) (s : State) (i : Inv sys s) (r : Reading)
    (rest : (t : ℕ) → rested (seat_of sys s r t) ≡ seat_of sys s r t) (shadow : Shadow) (stands : ShadowStandsAt sys s r shadow) where
  -- the seat behind an entry
  next-seat : (entry : Event) (t : ℕ) → seat_of sys (effect sys s entry) (read_on sys s entry r) t ≡ resting sys s r t (rest t) (change sys s entry)
  next-seat entry t = seat-behind sys (effect sys s entry) (read_on sys s entry r) r.longest t refl

  -- a pair that may be settled keeps its mode
  settled-mode : (x : State) (p q : ℕ) (lacking : Bool) → x.modes ≡ s.modes → mode_of (upd x.modes p (settled_mode (x.modes p) lacking) q) ≡ mode_of (s.modes q)
  settled-mode x p q lacking same =
      upd_elim x.modes p _ q (λ (m : PairMode). mode_of m ≡ mode_of (s.modes q))
      (λ is. settled-as (x.modes p) lacking ∙ (ap (λ (o : ℕ). mode_of (x.modes o)) (sym is) ∙ ap (λ (f : ℕ → PairMode). mode_of (f q)) same))
      (λ _. ap (λ (f : ℕ → PairMode). mode_of (f q)) same)

  -- an entry that is of no pair keeps the modes
  modes-stay : (entry : Event) → is_of_pairs entry ≡ false → (q : ℕ) → mode_of ((change sys s entry).modes q) ≡ mode_of (s.modes q)
  modes-stay (event.Show own phase attempt k) single q = refl
  modes-stay (event.Key own k) single q = refl
  modes-stay (event.CheckStart own) single q = refl
  modes-stay (event.CheckEnd own) single q = refl
  modes-stay (event.CheckCopy own) single q = refl
  modes-stay (event.Applied own) single q = settled-mode s (sys.pair_of own) q _ refl
  modes-stay (event.Begin own n k) single q = refl
  modes-stay (event.Send own n c) single q = refl
  modes-stay (event.Take c p own) single q = refl
  modes-stay (event.File c p op m f status) single q = file-cases sys s c p (λ (x : State). mode_of (x.modes q) ≡ mode_of (s.modes q)) refl (λ job call works asks. refl)
  modes-stay (event.Reply c p own fault) single q =
      reply-any sys s c p own (λ (x : State). mode_of (x.modes q) ≡ mode_of (s.modes q)) fault (λ reply outside. refl) (λ reply inside. refl) (λ x. refl)
  modes-stay (event.Again own n) single q = refl
  modes-stay (event.Commit own n) single q = refl
  modes-stay (event.Back own n) single q = refl
  modes-stay (event.Restart own n cause) single q = refl
  modes-stay (event.FailTcp p primary k) single q = absurd (cc single)
  modes-stay (event.FailServer c p k) single q = process-cases sys s (λ (x : State). mode_of (x.modes q) ≡ mode_of (s.modes q)) c p k refl (λ job works. refl)
  modes-stay (event.Takeover p) single q = absurd (cc single)
  modes-stay (event.Raise p) single q = absurd (cc single)
  modes-stay (event.End own e) single q = end-any sys s (λ (x : State). mode_of (x.modes q) ≡ mode_of (s.modes q)) own e (settled-mode s (sys.pair_of own) q _ refl) (settled-mode s (sys.pair_of own) q _ refl)

  -- an entry of none of the terminals that are kept
  unkept : (entry : Event) → is_of_pairs entry ≡ false → terminal_in entry ≡ None → ShadowStandsAt sys (effect sys s entry) (read_on sys s entry r) shadow
  unkept entry single none = record {
    seats = stands.seats;
    seat = λ t known. stands.seat t known ∙ ap (λ (x : OrderSeat). Some x) (sym (next-seat entry t ∙ (ap rested (stays sys s r t (rest t) entry single (λ is. absurd (cc (none, is)))) ∙ rest t)));
    modes = stands.modes;
    mode = λ p known. stands.mode p known ∙ ap (λ (m : order.OrderMode). Some m) (sym (modes-stay entry single p));
  }

  -- an entry of a terminal
  single : (entry : Event) (own : ℕ) (one_send : Bool) → is_of_pairs entry ≡ false → terminal_in entry ≡ Some own
      → resting sys s r own (rest own) (change sys s entry) ≡ seat_behind one_send entry (seat_of sys s r own)
      → ShadowStandsAt sys (effect sys s entry) (read_on sys s entry r) (record shadow { seats = changed_at own (seat_behind one_send entry) shadow.seats })
  single entry own one_send alone is behind = record {
    seats = changed-length shadow.seats own (seat_behind one_send entry) ∙ stands.seats;
    seat = λ t known. ⊎_elim
        (λ same. subst (λ (o : ℕ). o < sys.terminals → slice_get (changed_at own (seat_behind one_send entry) shadow.seats) o ≡ Some (seat_of sys (effect sys s entry) (read_on sys s entry r) o)) (sym same) mine known)
        (λ differ. changed-other shadow.seats own t (seat_behind one_send entry) differ
        ∙ (stands.seat t known
        ∙ ap (λ (x : OrderSeat). Some x) (sym (next-seat entry t ∙ (ap rested (stays sys s r t (rest t) entry alone (λ other. differ (cc (is, other)))) ∙ rest t)))))
        (cases_eq t own);
    modes = stands.modes;
    mode = λ p known. stands.mode p known ∙ ap (λ (m : order.OrderMode). Some m) (sym (modes-stay entry alone p));
  }
    where
      mine : own < sys.terminals → slice_get (changed_at own (seat_behind one_send entry) shadow.seats) own ≡ Some (seat_of sys (effect sys s entry) (read_on sys s entry r) own)
      mine known =
          changed-same shadow.seats own (seat_behind one_send entry) (seat_of sys s r own) (stands.seat own known)
          ∙ ap (λ (x : OrderSeat). Some x) (sym (next-seat entry own ∙ behind))

  -- an entry of a pair
  pair : (entry : Event) (p : ℕ) (behind : OrderSeat → OrderSeat) (mode_next : order.OrderMode → order.OrderMode)
      → ((t : ℕ) → resting sys s r t (rest t) (change sys s entry) ≡ (if is_of p (seat_of sys s r t) then behind (seat_of sys s r t) else seat_of sys s r t))
      → mode_of ((change sys s entry).modes p) ≡ mode_next (mode_of (s.modes p)) → ((q : ℕ) → q ≢ p → (change sys s entry).modes q ≡ s.modes q)
      → ShadowStandsAt sys (effect sys s entry) (read_on sys s entry r) (record { seats = of_pair p behind shadow.seats; modes = changed_at p mode_next shadow.modes })
  pair entry p behind mode_next seat_is own others = record {
    seats = length-map shadow.seats (λ seat. if is_of p seat then behind seat else seat) ∙ stands.seats;
    seat = λ t known.
        slice_get-map (λ seat. if is_of p seat then behind seat else seat) shadow.seats t
        ∙ (ap (option_map (λ seat. if is_of p seat then behind seat else seat)) (stands.seat t known) ∙ ap (λ (x : OrderSeat). Some x) (sym (next-seat entry t ∙ seat_is t)));
    modes = changed-length shadow.modes p mode_next ∙ stands.modes;
    mode = λ q known. ⊎_elim
        (λ same. subst (λ (o : ℕ). o < sys.pairs → slice_get (changed_at p mode_next shadow.modes) o ≡ Some (mode_of ((change sys s entry).modes o))) (sym same)
        (λ there. changed-same shadow.modes p mode_next (mode_of (s.modes p)) (stands.mode p there) ∙ ap (λ (m : order.OrderMode). Some m) (sym own)) known)
        (λ differ. changed-other shadow.modes p q mode_next differ ∙ (stands.mode q known ∙ ap (λ (m : PairMode). Some (mode_of m)) (sym (others q differ))))
        (cases_eq q p);
  }

  -- a failure, by what is lost
  lost-modes : (l : Loss) (p q : ℕ) → q ≢ p → (state_behind_loss sys l p s).modes q ≡ s.modes q
  lost-modes loss.Nothing p q differ = refl
  lost-modes loss.Primary p q differ = upd-other s.modes p Down q differ
  lost-modes loss.Backup p q differ = upd-other s.modes p Alone q differ
  lost-modes loss.Pair p q differ = upd-other s.modes p Gone q differ

  module _ (raising : (p : ℕ) → s.modes p ≡ Raising → lacks_one sys p s ≡ true) where
    -- in a pair that is Paired the backup holds each live terminal
    holds : (p : ℕ) → s.modes p ≡ Paired → (t : ℕ) → t < sys.terminals → sys.pair_of t ≡ p → (s.terms t).ending ≡ None → (held : BackupCopy) × (s.memory t ≡ Some held)
    holds p paired t known of live = (i.terms t known).has_memory live (subst HasMemory (sym (ap s.modes of ∙ paired)) tt)

    -- the loss that is told is the one of the state
    loss-at : (p : ℕ) (primary : Bool) → p < sys.pairs → loss_at shadow p primary ≡ state_loss (s.modes p) primary
    loss-at p primary known =
        ap (λ (m : Option order.OrderMode). loss_in m primary (lacks p shadow.seats)) (stands.mode p known)
        ∙ loss-told sys s r shadow stands p (raising p) (holds p) primary

    -- of a pair that is not there nothing is lost
    loss-past : (p : ℕ) (primary : Bool) → sys.pairs ≤ p → loss_at shadow p primary ≡ loss.Nothing
    loss-past p primary past =
        let beyond : length shadow.modes ≤ p = omega (arith, stands.modes) in
        ap (λ (m : Option order.OrderMode). loss_in m primary (lacks p shadow.seats)) (slice_get_past shadow.modes p beyond)

    -- and no terminal is of it
    no-seat : (p t : ℕ) → sys.pairs ≤ p → t < sys.terminals → is_of_pair sys p t ≡ false
    no-seat p t past known =
        let below : sys.pair_of t < sys.pairs = b.pairs t known in
        ne_eqb (sys.pair_of t) p (λ same. absurd (omega (arith, below, past, same)))

    fail-stands : (p : ℕ) (primary : Bool) (k : ℕ)
        → ShadowStandsAt sys (effect sys s (event.FailTcp p primary k)) (read_on sys s (event.FailTcp p primary k) r) (shadow_behind_loss (loss_at shadow p primary) p shadow)
    fail-stands p primary k = ⊎_elim there past (cases_lt p sys.pairs)
      where
        fails : (t : ℕ) → resting sys s r t (rest t) (change sys s (event.FailTcp p primary k))
            ≡ (if is_of p (seat_of sys s r t) then seat_behind_loss (state_loss (s.modes p) primary) (seat_of sys s r t) else seat_of sys s r t)
        fails t = ap (λ (x : State). resting sys s r t (rest t) x) (fails-as sys s p primary) ∙ loss-keeps sys s r t (rest t) p (state_loss (s.modes p) primary)

        there : p < sys.pairs → ShadowStandsAt sys (effect sys s (event.FailTcp p primary k)) (read_on sys s (event.FailTcp p primary k) r) (shadow_behind_loss (loss_at shadow p primary) p shadow)
        there known =
            subst (λ (l : Loss). ShadowStandsAt sys (effect sys s (event.FailTcp p primary k)) (read_on sys s (event.FailTcp p primary k) r) (shadow_behind_loss l p shadow)) (sym (loss-at p primary known))
            (pair (event.FailTcp p primary k) p (seat_behind_loss (state_loss (s.modes p) primary)) (mode_behind (state_loss (s.modes p) primary)) fails
            (ap (λ (x : State). mode_of (x.modes p)) (fails-as sys s p primary) ∙ mode-lost sys s p (state_loss (s.modes p) primary))
            (λ q differ. ap (λ (x : State). x.modes q) (fails-as sys s p primary) ∙ lost-modes (state_loss (s.modes p) primary) p q differ))

        same-seat : (of : Bool) (x : OrderSeat) → (if of then x else x) ≡ x
        same-seat true x = refl
        same-seat false x = refl

        past : sys.pairs ≤ p → ShadowStandsAt sys (effect sys s (event.FailTcp p primary k)) (read_on sys s (event.FailTcp p primary k) r) (shadow_behind_loss (loss_at shadow p primary) p shadow)
        past beyond =
            subst (λ (l : Loss). ShadowStandsAt sys (effect sys s (event.FailTcp p primary k)) (read_on sys s (event.FailTcp p primary k) r) (shadow_behind_loss l p shadow)) (sym (loss-past p primary beyond))
            (record {
              seats = length-map shadow.seats (λ seat. if is_of p seat then seat else seat) ∙ stands.seats;
              seat = λ t known.
                  slice_get-map (λ seat. if is_of p seat then seat else seat) shadow.seats t
                  ∙ (ap (option_map (λ seat. if is_of p seat then seat else seat)) (stands.seat t known)
                  ∙ (ap (λ (x : OrderSeat). Some x) (same-seat (is_of_pair sys p t) (seat_of sys s r t))
                  ∙ ap (λ (x : OrderSeat). Some x) (sym (next-seat (event.FailTcp p primary k) t ∙ (fails t
                  ∙ cond-false (is_of_pair sys p t) (seat_behind_loss (state_loss (s.modes p) primary) (seat_of sys s r t)) (seat_of sys s r t) (no-seat p t beyond known))))));
              modes = changed-length shadow.modes p (mode_behind loss.Nothing) ∙ stands.modes;
              mode = λ q known.
                  changed-other shadow.modes p q (mode_behind loss.Nothing) (λ same. absurd (omega (arith, same, known, beyond)))
                  ∙ (stands.mode q known
                  ∙ ap (λ (m : PairMode). Some (mode_of m))
                  (sym (ap (λ (x : State). x.modes q) (fails-as sys s p primary) ∙ lost-modes (state_loss (s.modes p) primary) p q (λ same. absurd (omega (arith, same, known, beyond))))));
            })

    -- each entry keeps that it stands
    pub keeps : (entry : Event) (one_send : Bool) → Fits sys s entry → IsOneSendFlag sys s entry one_send
        → ShadowStandsAt sys (effect sys s entry) (read_on sys s entry r) (shadow_behind one_send entry shadow)
    keeps (event.Show own phase attempt k) one_send l is = single (event.Show own phase attempt k) own one_send refl refl (own-show sys s r own (rest own) phase attempt k)
    keeps (event.Key own k) one_send l is = single (event.Key own k) own one_send refl refl (own-key sys s r own (rest own) k)
    keeps (event.CheckStart own) one_send l is = single (event.CheckStart own) own one_send refl refl (own-check-start sys s r own (rest own))
    keeps (event.CheckEnd own) one_send l is = single (event.CheckEnd own) own one_send refl refl (own-check-end sys s r own (rest own) l)
    keeps (event.CheckCopy own) one_send l is = single (event.CheckCopy own) own one_send refl refl (own-check-copy sys s r own (rest own))
    keeps (event.Applied own) one_send l is = single (event.Applied own) own one_send refl refl (own-applied sys s r own (rest own))
    keeps (event.Begin own n k) one_send l is = single (event.Begin own n k) own one_send refl refl (own-begin sys s r own (rest own) n k one_send l is)
    keeps (event.Send own n c) one_send l is = unkept (event.Send own n c) refl refl
    keeps (event.Take c p own) one_send l is = unkept (event.Take c p own) refl refl
    keeps (event.File c p op m f status) one_send l is = unkept (event.File c p op m f status) refl refl
    keeps (event.Reply c p own fault) one_send l is = single (event.Reply c p own fault) own one_send refl refl (own-reply sys s r own (rest own) c p fault)
    keeps (event.Again own n) one_send l is = single (event.Again own n) own one_send refl refl (own-again sys s r own (rest own) n l)
    keeps (event.Commit own n) one_send l is = single (event.Commit own n) own one_send refl refl (own-commit sys s r own (rest own) n)
    keeps (event.Back own n) one_send l is = single (event.Back own n) own one_send refl refl (own-back sys s r own (rest own) n)
    keeps (event.Restart own n cause) one_send l is = single (event.Restart own n cause) own one_send refl refl (own-restart sys s r own (rest own) n cause)
    keeps (event.FailTcp p primary k) one_send l is = fail-stands p primary k
    keeps (event.FailServer c p k) one_send l is = unkept (event.FailServer c p k) refl refl
    keeps (event.Takeover p) one_send l is =
        pair (event.Takeover p) p resumed (λ at. mode.Alone) (λ t. takeover-keeps sys s r t (rest t) p) (ap mode_of (upd-same s.modes p Alone p refl)) (λ q differ. upd-other s.modes p Alone q differ)
    keeps (event.Raise p) one_send l is =
        pair (event.Raise p) p without_memory (λ at. mode.Backed) (λ t. raise-keeps sys s r t (rest t) p) (ap mode_of (upd-same s.modes p Raising p refl)) (λ q differ. upd-other s.modes p Raising q differ)
    keeps (event.End own e) one_send l is = single (event.End own e) own one_send refl refl (own-end sys s r own (rest own) e)

    -- a started terminal's seat is there
    here : (entry : Event) (own : ℕ) → own < sys.terminals → given_at entry own (slice_get shadow.seats own) ≡ given_at entry own (Some (seat_of sys s r own))
    here entry own known = ap (given_at entry own) (stands.seat own known)

    -- an entry that gives none
    none-given : (entry : Event) (own : ℕ) → ((seat : OrderSeat) → given_at entry own (Some seat) ≡ []) → [] ≡ given_at entry own (slice_get shadow.seats own)
    none-given entry own none = by (slice_get shadow.seats own)
      where
        by : (at : Option OrderSeat) → [] ≡ given_at entry own at
        by None = refl
        by (Some seat) = sym (none seat)

    -- the terminal of an ending is started
    end-known : (own : ℕ) (e : Ending) → LegalEnd sys s own e → own < sys.terminals
    end-known own ending.Stopped l = l.can.live.known
    end-known own ending.NoEntries l = l.can.live.known
    end-known own (ending.Fault x) l = l.can.live.known
    end-known own (ending.Suspended cause) l = i.known own l.unit l.caused.is_open
    end-known own ending.Lost l = l.live.known

    reply-known : (c p own : ℕ) (fault : Option ℕ) → LegalReply sys s c p own fault → own < sys.terminals
    reply-known c p own fault l = subst (λ (t : ℕ). t < sys.terminals) l.whose (out-job sys b s i c p l.job l.at_work).live.known

    fail-gives : (p : ℕ) (primary : Bool) (k : ℕ) → map told (blocks_of sys s r (event.FailTcp p primary k)) ≡ loss_gives (loss_at shadow p primary) p shadow.seats
    fail-gives p primary k =
        ap (λ (g : Bool). map told (if g then left_blocks s r (is_of_pair sys p) sys.terminals else [])) (makes-gone sys s p primary k)
        ∙ ⊎_elim (λ known. there known (state_loss (s.modes p) primary) ∙ ap (λ (l : Loss). loss_gives l p shadow.seats) (sym (loss-at p primary known)))
        (λ past. beyond past (is_whole (state_loss (s.modes p) primary)) ∙ ap (λ (l : Loss). loss_gives l p shadow.seats) (sym (loss-past p primary past))) (cases_lt p sys.pairs)
      where
        left : map told (left_blocks s r (is_of_pair sys p) sys.terminals) ≡ left_to (is_seat_of_pair (Some p)) shadow.seats sys.terminals
        left = left-told sys s r (is_of_pair sys p) (is_seat_of_pair (Some p)) shadow.seats sys.terminals stands.seat (λ t known. refl)

        there : p < sys.pairs → (l : Loss) → map told (if is_whole l then left_blocks s r (is_of_pair sys p) sys.terminals else []) ≡ loss_gives l p shadow.seats
        there known loss.Nothing = refl
        there known loss.Primary = refl
        there known loss.Backup = refl
        there known loss.Pair = left ∙ ap (left_to (is_seat_of_pair (Some p)) shadow.seats) (sym stands.seats)

        beyond : sys.pairs ≤ p → (g : Bool) → map told (if g then left_blocks s r (is_of_pair sys p) sys.terminals else []) ≡ []
        beyond past false = refl
        beyond past true =
            left
            ∙ none-left (is_seat_of_pair (Some p)) shadow.seats sys.terminals
            (λ t seat known is. ap (is_of p) (unique seat t known is) ∙ no-seat p t past known)
          where
            unique : (seat : OrderSeat) (t : ℕ) → t < sys.terminals → slice_get shadow.seats t ≡ Some seat → seat ≡ seat_of sys s r t
            unique seat t known is = cc (is, stands.seat t known)

    -- each entry gives its blocks
    pub gives : (entry : Event) → Fits sys s entry → map told (blocks_of sys s r entry) ≡ blocks_given shadow entry
    gives (event.Show own phase attempt k) l = out-told sys s r own ∙ sym (here (event.Show own phase attempt k) own l.can.live.known)
    gives (event.Key own k) l = out-told sys s r own ∙ sym (here (event.Key own k) own l.can.live.known)
    gives (event.CheckStart own) l = none-given (event.CheckStart own) own (λ seat. refl)
    gives (event.CheckEnd own) l = none-given (event.CheckEnd own) own (λ seat. refl)
    gives (event.CheckCopy own) l = none-given (event.CheckCopy own) own (λ seat. refl)
    gives (event.Applied own) l = none-given (event.Applied own) own (λ seat. refl)
    gives (event.Begin own n k) l = none-given (event.Begin own n k) own (λ seat. refl)
    gives (event.Send own n c) l = refl
    gives (event.Take c p own) l = refl
    gives (event.File c p op m f status) l = refl
    gives (event.Reply c p own fault) l =
        reply-told sys s r own fault (r.answers own + 1) ∙ sym (here (event.Reply c p own fault) own (reply-known c p own fault l))
    gives (event.Again own n) l = none-given (event.Again own n) own (λ seat. refl)
    gives (event.Commit own n) l = sym (here (event.Commit own n) own l.can.live.known)
    gives (event.Back own n) l = sym (here (event.Back own n) own l.can.live.known)
    gives (event.Restart own n cause) l = sym (here (event.Restart own n cause) own (i.known own l.unit l.caused.is_open))
    gives (event.FailTcp p primary k) l = fail-gives p primary k
    gives (event.FailServer c p k) l = refl
    gives (event.Takeover p) l = refl
    gives (event.Raise p) l = refl
    gives (event.End own e) l =
        told-append _ _
        ∙ (ap (λ (x : List Block). x ++ block.Done own e ∷ []) (unit-told sys s r own (r.answers own) (s.units own))
        ∙ sym (here (event.End own e) own (end-known own e l)))
