-- The call that an entry is for a pair does to it what the entry does to the paired state.
use Rattle.std.proofs.Common.{◌≡◌, ◌≢◌, ℕ, ◌<◌, ◌==◌, Bool, true, false, cond, is_some, List, [], Option, Some, None, inl, inr, ⊎_elim, refl, sym, ap, subst, ◌∙◌, true≢false}
use Rattle.std.specs.List.{list_any}
use Rattle.std.specs.Option.{option_map}
use Rattle.std.proofs.lemmas.Bool.{cond-true, cond-false, eq-eqb, eqb-false, eqb-true, ne_eqb}
use Rattle.pw_event.specs.declared.event.Ending.{Ending}
use Rattle.pw_event.specs.declared.event.Event.{Event}
use Rattle.pw_event.specs.declared.event.Event.TheVariants as event
use Rattle.pw_onecopy.specs.Behaviour.{Behaviour}
use Rattle.pw_onecopy.specs.Path.{PathAnswer, unit_number}
use Rattle.pw_onecopy.specs.Update.{upd}
use Rattle.pw_onecopy.proofs.Update.{upd-other, upd-same, upd_elim}
use Rattle.pw_pair.specs.Called.{pair_after_call, if_own, member_fails, message_of}
use Rattle.pw_pair.specs.Follows.{Follows, FollowsAs, has_flights, mode_as}
use Rattle.pw_pair.specs.Pairs as words
use Rattle.pw_pair.specs.Pairs.{SeenPair, after_applied, after_drop, after_raise, after_send, after_take, changed_at}
use Rattle.pw_pair.specs.Seats.{applied, dropped, without_backup, without_flight}
use Rattle.pw_pair.specs.declared.message.CheckKind.TheVariants as kind
use Rattle.pw_pair.proofs.Following.{IsSameOf, emptied, grounded, left, pair-same, sent, settles, took}
use Rattle.pw_paired.specs.End.{do_end, end_terminal}
use Rattle.pw_paired.specs.Failure.{backup_fails, do_fail_tcp, do_takeover, is_live_of, is_of_pair, lose_backup, lose_pair, lose_primary, primary_fails, resume_terminal, with_start_path}
use Rattle.pw_paired.specs.Raising.{copied_path, do_raise, lacks_one, settle_mode, settled_mode, with_message}
use Rattle.pw_paired.specs.State.{Alone, BackupCopy, Copy, Down, End, Gone, LastEnded, Message, PairMode, OpenUnit, Paired, Raising, Start, State, Term}
use Rattle.pw_paired.specs.Step.{Fits, change, effect}
use Rattle.pw_paired.specs.Terminal.{closed_path, path_of}
use Rattle.pw_paired.specs.Units.{attempt_of, leave_units, only}
use Rattle.pw_laws.proofs.induction.Failed.{end-any, fail-cases, process-cases}
use Rattle.pw_laws.proofs.induction.Served.{file-cases, reply-any}

-- an ending stays where a terminal's is changed otherwise
pub ending-stays : (terms : ℕ → Term) (t : ℕ) (term : Term) → term.ending ≡ (terms t).ending → (j : ℕ) → (upd terms t term j).ending ≡ (terms j).ending
ending-stays terms t term is j =
    upd_elim terms t term j (λ a. a.ending ≡ (terms j).ending)
    (λ same. is ∙ ap (λ x. (terms x).ending) (sym same)) (λ ne. refl)

-- a path that a restart sets leaves the ending
pub start-ending : (start : Option (List PathAnswer)) (term : Term) → (with_start_path start term).ending ≡ term.ending
start-ending None term = refl
start-ending (Some path) term = refl

-- a takeover leaves the ending
pub resume-ending : (p : ℕ) (memory : Option BackupCopy) (unit : Option OpenUnit) (last : LastEnded) (term : Term) → (resume_terminal p memory unit last term).ending ≡ term.ending
resume-ending p None unit last term = refl
resume-ending p (Some memory) unit last term = refl

either-ending : (b : Bool) (new old : Term) → new.ending ≡ old.ending → (cond b new old).ending ≡ old.ending
either-ending true new old e = e
either-ending false new old e = refl

module _ (image : ℕ → List PathAnswer → List ℕ) (sys : Behaviour) (state : State) (p : ℕ) (pair : SeenPair) (old : Follows image sys state p pair) where
  -- ---- the state has the same of the pair

  same-parts : (x : State) → x.modes p ≡ state.modes p
      → ((t : ℕ) → sys.pair_of t ≡ p → IsSameOf state.terms x.terms state.memory x.memory state.flight x.flight t) → Follows image sys x p pair
  same-parts x mode same = pair-same image sys p (state.modes p) (x.modes p) state.terms x.terms state.memory x.memory state.flight x.flight pair mode same old

  -- a terminal is changed, but not its ending
  answered : (t : ℕ) (term : Term) → term.ending ≡ (state.terms t).ending
      → FollowsAs image sys p (state.modes p) (upd state.terms t term) state.memory state.flight pair
  answered t term is =
      pair-same image sys p (state.modes p) (state.modes p) state.terms (upd state.terms t term) state.memory state.memory state.flight state.flight pair refl
      (λ j of. record { ending = ending-stays state.terms t term is j; memory_is = refl; flight_is = refl }) old

  -- ---- by whether the entry is of the pair

  by-pair : (x : State) (call : SeenPair → SeenPair) (own : Bool) → (own ≡ true → Follows image sys x p (call pair)) → (own ≡ false → Follows image sys x p pair)
      → Follows image sys x p (if_own own call pair)
  by-pair x call true here elsewhere = here refl
  by-pair x call false here elsewhere = elsewhere refl

  -- the terminal of another pair is another
  apart : (t j : ℕ) → is_of_pair sys p t ≡ false → sys.pair_of j ≡ p → j ≢ t
  apart t j ne of same = absurd (true≢false (sym (eq-eqb _ _ (ap sys.pair_of (sym same) ∙ of)) ∙ ne))

  own-pair : (t : ℕ) → is_of_pair sys p t ≡ true → sys.pair_of t ≡ p
  own-pair t own = eqb-true _ _ own

  other-pair : (q : ℕ) → (q == p) ≡ false → p ≢ q
  other-pair q ne same = absurd (true≢false (sym (eq-eqb q p (sym same)) ∙ ne))

  -- ---- CHECK

  other-flight : (t : ℕ) (message : Option Message) → is_of_pair sys p t ≡ false → Follows image sys (record state { flight = upd state.flight t message }) p pair
  other-flight t message ne =
      same-parts (record state { flight = upd state.flight t message }) refl
      (λ j of. record { ending = refl; memory_is = refl; flight_is = upd-other state.flight t message j (apart t j ne of) })

  -- where messages fly, in the pair of the terminal
  flies-here : (t : ℕ) → is_of_pair sys p t ≡ true → has_flights (state.modes (sys.pair_of t)) ≡ true → has_flights (state.modes p) ≡ true
  flies-here t own flies = ap (λ (q : ℕ). has_flights (state.modes q)) (sym (own-pair t own)) ∙ flies

  pub check-start : (t : ℕ) → has_flights (state.modes (sys.pair_of t)) ≡ true → Follows image sys (change sys state (event.CheckStart t)) p (pair_after_call image sys state (event.CheckStart t) p pair)
  check-start t flies =
      by-pair (change sys state (event.CheckStart t)) (after_send (message_of kind.Start t (unit_number (path_of state t)) (image t (path_of state t)))) (is_of_pair sys p t)
      (λ own. sent image sys p (state.modes p) state.terms state.memory state.flight pair t (Start (unit_number (path_of state t)) (path_of state t)) (unit_number (path_of state t)) (flies-here t own flies) refl old)
      (other-flight t (Some (Start (unit_number (path_of state t)) (path_of state t))))

  pub check-end : (t : ℕ) → has_flights (state.modes (sys.pair_of t)) ≡ true → Follows image sys (change sys state (event.CheckEnd t)) p (pair_after_call image sys state (event.CheckEnd t) p pair)
  check-end t flies =
      by-pair (change sys state (event.CheckEnd t)) (after_send (message_of kind.End t (unit_number (path_of state t)) (image t (closed_path sys state t)))) (is_of_pair sys p t)
      (λ own. sent image sys p (state.modes p) state.terms state.memory state.flight pair t (End (closed_path sys state t)) (unit_number (path_of state t)) (flies-here t own flies) tt old)
      (other-flight t (Some (End (closed_path sys state t))))

  pub check-copy : (t : ℕ) → has_flights (state.modes (sys.pair_of t)) ≡ true → Follows image sys (change sys state (event.CheckCopy t)) p (pair_after_call image sys state (event.CheckCopy t) p pair)
  check-copy t flies =
      by-pair (change sys state (event.CheckCopy t)) (after_send (message_of kind.Copy t (unit_number (copied_path state t)) (image t (copied_path state t)))) (is_of_pair sys p t)
      (λ own. sent image sys p (state.modes p) state.terms state.memory state.flight pair t (Copy (unit_number (copied_path state t)) (copied_path state t)) (unit_number (copied_path state t)) (flies-here t own flies) refl old)
      (other-flight t (Some (Copy (unit_number (copied_path state t)) (copied_path state t))))

  -- ---- APPLIED and END

  -- the state settles the pair of the terminal, and the pair follows
  settles-own : (x : State) (q : ℕ) (seen : SeenPair) → q ≡ p → x.modes ≡ state.modes → FollowsAs image sys p (state.modes p) x.terms x.memory x.flight seen
      → Follows image sys (settle_mode sys q x) p (words.settled seen)
  settles-own x q seen of modes follows =
      let P : ℕ → Type 0 = λ r. Follows image sys (settle_mode sys r x) p (words.settled seen) in
      subst P (sym of)
      (subst (λ m. FollowsAs image sys p m x.terms x.memory x.flight (words.settled seen))
      (ap (λ (f : ℕ → PairMode). settled_mode (f p) (lacks_one sys p x)) (sym modes) ∙ sym (upd-same x.modes p (settled_mode (x.modes p) (lacks_one sys p x)) p refl))
      (settles image sys p (state.modes p) x seen follows))

  -- the pair of another terminal settles
  settles-other : (x : State) (q : ℕ) → p ≢ q → x.modes ≡ state.modes
      → ((t : ℕ) → sys.pair_of t ≡ p → IsSameOf state.terms x.terms state.memory x.memory state.flight x.flight t) → Follows image sys (settle_mode sys q x) p pair
  settles-other x q ne modes same =
      same-parts (settle_mode sys q x) (upd-other x.modes q (settled_mode (x.modes q) (lacks_one sys q x)) p ne ∙ ap (λ (f : ℕ → PairMode). f p) modes) same

  not-own : (t : ℕ) → is_of_pair sys p t ≡ false → p ≢ sys.pair_of t
  not-own t ne same = absurd (true≢false (sym (eq-eqb _ _ (sym same)) ∙ ne))

  pub applies : (t : ℕ) → Follows image sys (change sys state (event.Applied t)) p (pair_after_call image sys state (event.Applied t) p pair)
  applies t =
      by-pair (change sys state (event.Applied t)) (after_applied t) (is_of_pair sys p t)
      (λ own. settles-own behind (sys.pair_of t) (changed_at t applied pair) (own-pair t own) refl
      (took image sys p (state.modes p) state.terms state.memory state.flight pair t old))
      (λ ne. settles-other behind (sys.pair_of t) (not-own t ne) refl
      (λ j of. record {
        ending = refl;
        memory_is = upd-other state.memory t _ j (apart t j ne of);
        flight_is = upd-other state.flight t None j (apart t j ne of);
      }))
    where
      behind : State
      behind = record state { memory = upd state.memory t (with_message (state.flight t) (state.memory t)); flight = upd state.flight t None }

  ended : (t : ℕ) (e : Ending) (x : State) → x.modes ≡ state.modes → x.terms ≡ state.terms → x.memory ≡ state.memory → x.flight ≡ state.flight
      → Follows image sys (settle_mode sys (sys.pair_of t) (end_terminal t e x)) p (if_own (is_of_pair sys p t) (after_drop t) pair)
  ended t e x modes terms memory flight =
      by-pair (settle_mode sys (sys.pair_of t) (end_terminal t e x)) (after_drop t) (is_of_pair sys p t)
      (λ own. settles-own (end_terminal t e x) (sys.pair_of t) (changed_at t dropped pair) (own-pair t own) modes
      (rw terms (rw memory (rw flight (left image sys p (state.modes p) state.terms state.memory state.flight pair t (over state) refl old)))))
      (λ ne. settles-other (end_terminal t e x) (sys.pair_of t) (not-own t ne) modes
      (λ j of. record {
        ending = ap (λ (y : Term). y.ending) (upd-other x.terms t _ j (apart t j ne of)) ∙ ap (λ (f : ℕ → Term). (f j).ending) terms;
        memory_is = upd-other x.memory t None j (apart t j ne of) ∙ ap (λ (f : ℕ → Option BackupCopy). f j) memory;
        flight_is = upd-other x.flight t None j (apart t j ne of) ∙ ap (λ (f : ℕ → Option Message). f j) flight;
      }))
    where
      over : State → Term
      over y = record (y.terms t) { pending = None; ending = Some e }

  -- ---- FAIL TCP

  at-mode : (x : State) (mode : PairMode) (seen : SeenPair) → x.modes p ≡ mode → FollowsAs image sys p mode x.terms x.memory x.flight seen → Follows image sys x p seen
  at-mode x mode seen is follows = subst (λ m. FollowsAs image sys p m x.terms x.memory x.flight seen) (sym is) follows

  -- of the terminals of the pair there is this, and of those of another what there was
  own-is : {A : Type 0} (t : ℕ) (new was : A) → sys.pair_of t ≡ p → cond (is_of_pair sys p t) new was ≡ new
  own-is t new was of = cond-true _ new was (eq-eqb _ _ of)

  own-ending : (t : ℕ) (new : Term) → new.ending ≡ (state.terms t).ending → (b : Bool) → (cond b new (state.terms t)).ending ≡ (state.terms t).ending
  own-ending t new is b = either-ending b new (state.terms t) is

  emptied-by : (x : State) (at : PairMode) → x.modes p ≡ at → ((t : ℕ) → (x.terms t).ending ≡ (state.terms t).ending)
      → ((t : ℕ) → sys.pair_of t ≡ p → x.memory t ≡ None) → ((t : ℕ) → sys.pair_of t ≡ p → (has_flights (state.modes p) ≡ false → state.flight t ≡ None) → x.flight t ≡ None)
      → Follows image sys x p (words.in_mode (mode_as at) without_backup pair)
  emptied-by x at is ending memory flight =
      at-mode x at _ is
      (emptied image sys p (state.modes p) at state.terms x.terms state.memory x.memory state.flight x.flight pair
      (λ seat s. record { ending = ending seat.terminal; memory_is = memory seat.terminal s.of_pair; flight_is = flight seat.terminal s.of_pair s.at_rest }) old)

  loses-pair : Follows image sys (lose_pair sys p state) p (words.in_mode (mode_as Gone) without_backup pair)
  loses-pair =
      emptied-by (lose_pair sys p state) Gone (upd-same state.modes p Gone p refl) (λ t. own-ending t _ refl (is_of_pair sys p t))
      (λ t of. own-is t None (state.memory t) of) (λ t of rests. own-is t None (state.flight t) of)

  loses-backup : Follows image sys (lose_backup sys p state) p (words.in_mode (mode_as Alone) without_backup pair)
  loses-backup =
      emptied-by (lose_backup sys p state) Alone (upd-same state.modes p Alone p refl) (λ t. refl)
      (λ t of. own-is t None (state.memory t) of) (λ t of rests. own-is t None (state.flight t) of)

  loses-primary : Follows image sys (lose_primary sys p state) p (words.in_mode (mode_as Down) without_flight pair)
  loses-primary =
      at-mode (lose_primary sys p state) Down _ (upd-same state.modes p Down p refl)
      (grounded image sys p (state.modes p) Down state.terms (lose_primary sys p state).terms state.memory state.memory state.flight (lose_primary sys p state).flight pair
      (λ seat s. record { ending = own-ending seat.terminal _ refl (is_of_pair sys p seat.terminal); memory_is = refl; flight_is = own-is seat.terminal None (state.flight seat.terminal) s.of_pair }) old)

  primary-own : (mode : PairMode) → state.modes p ≡ mode → Follows image sys (primary_fails sys p mode state) p (words.primary_fails (mode_as mode) pair)
  primary-own Paired is = loses-primary
  primary-own Raising is = loses-pair
  primary-own Alone is = loses-pair
  primary-own Down is = old
  primary-own Gone is = old

  backup-own : (mode : PairMode) → state.modes p ≡ mode → Follows image sys (backup_fails sys p mode state) p (words.backup_fails (mode_as mode) pair)
  backup-own Paired is = loses-backup
  backup-own Raising is = loses-backup
  backup-own Alone is = old
  backup-own Down is = loses-pair
  backup-own Gone is = old

  member-own : (primary : Bool) → Follows image sys (do_fail_tcp sys p primary state) p (member_fails primary pair)
  member-own true =
      subst (λ m. Follows image sys (do_fail_tcp sys p true state) p (words.primary_fails m pair)) (sym old.mode_is) (primary-own (state.modes p) refl)
  member-own false =
      subst (λ m. Follows image sys (do_fail_tcp sys p false state) p (words.backup_fails m pair)) (sym old.mode_is) (backup-own (state.modes p) refl)

  -- an entry of another pair
  other-is : {A : Type 0} (q t : ℕ) (new was : A) → p ≢ q → sys.pair_of t ≡ p → cond (is_of_pair sys q t) new was ≡ was
  other-is q t new was ne of = cond-false _ new was (ne_eqb _ _ (λ e. ne (sym of ∙ e)))

  other-parts : (q : ℕ) → p ≢ q → (x : State) (mode : PairMode) → x.modes ≡ upd state.modes q mode → ((t : ℕ) → (x.terms t).ending ≡ (state.terms t).ending)
      → ((t : ℕ) → sys.pair_of t ≡ p → x.memory t ≡ state.memory t) → ((t : ℕ) → sys.pair_of t ≡ p → x.flight t ≡ state.flight t) → Follows image sys x p pair
  other-parts q ne x mode modes ending memory flight =
      same-parts x (ap (λ (f : ℕ → PairMode). f p) modes ∙ upd-other state.modes q mode p ne)
      (λ t of. record { ending = ending t; memory_is = memory t of; flight_is = flight t of })

  member-other : (q : ℕ) (primary : Bool) → p ≢ q → Follows image sys (do_fail_tcp sys q primary state) p pair
  member-other q primary ne =
      fail-cases sys state (λ (x : State). Follows image sys x p pair) q old
      (λ paired. other-parts q ne (lose_primary sys q state) Down refl (λ t. own-ending t _ refl (is_of_pair sys q t)) (λ t of. refl) (λ t of. other-is q t None (state.flight t) ne of))
      (λ which breaks. other-parts q ne (lose_pair sys q state) Gone refl (λ t. own-ending t _ refl (is_of_pair sys q t)) (λ t of. other-is q t None (state.memory t) ne of) (λ t of. other-is q t None (state.flight t) ne of))
      (λ has. other-parts q ne (lose_backup sys q state) Alone refl (λ t. refl) (λ t of. other-is q t None (state.memory t) ne of) (λ t of. other-is q t None (state.flight t) ne of))
      primary

  pub fails : (q : ℕ) (primary : Bool) → Follows image sys (do_fail_tcp sys q primary state) p (if_own (q == p) (member_fails primary) pair)
  fails q primary =
      by-pair (do_fail_tcp sys q primary state) (member_fails primary) (q == p)
      (λ own. subst (λ (r : ℕ). Follows image sys (do_fail_tcp sys r primary state) p (member_fails primary pair)) (sym (eqb-true q p own)) (member-own primary))
      (λ ne. member-other q primary (other-pair q ne))

  -- ---- TAKEOVER and RAISE

  resumed-ending : (q t : ℕ) (b : Bool) → (cond b (resume_terminal q (state.memory t) (state.units t) (state.ended t) (state.terms t)) (state.terms t)).ending ≡ (state.terms t).ending
  resumed-ending q t b = own-ending t _ (resume-ending q (state.memory t) (state.units t) (state.ended t) (state.terms t)) b

  pub takes-over : (q : ℕ) → state.modes q ≡ Down → Follows image sys (do_takeover sys q state) p (if_own (q == p) after_take pair)
  takes-over q down =
      by-pair (do_takeover sys q state) after_take (q == p)
      (λ own.
      let is = eqb-true q p own in
      subst (λ (r : ℕ). Follows image sys (do_takeover sys r state) p (after_take pair)) (sym is)
      (emptied-by (do_takeover sys p state) Alone (upd-same state.modes p Alone p refl) (λ t. resumed-ending p t (is_live_of sys p state t))
      (λ t of. own-is t None (state.memory t) of) (λ t of rests. rests (ap (λ (r : ℕ). has_flights (state.modes r)) (sym is) ∙ ap has_flights down))))
      (λ ne. other-parts q (other-pair q ne) (do_takeover sys q state) Alone refl (λ t. resumed-ending q t (is_live_of sys q state t))
      (λ t of. other-is q t None (state.memory t) (other-pair q ne) of) (λ t of. refl))

  pub raises : (q : ℕ) → state.modes q ≡ Alone → Follows image sys (do_raise sys q state) p (if_own (q == p) after_raise pair)
  raises q alone =
      by-pair (do_raise sys q state) after_raise (q == p)
      (λ own.
      let is = eqb-true q p own in
      subst (λ (r : ℕ). Follows image sys (do_raise sys r state) p (after_raise pair)) (sym is)
      (emptied-by (do_raise sys p state) Raising (upd-same state.modes p Raising p refl) (λ t. refl)
      (λ t of. own-is t None (state.memory t) of) (λ t of rests. rests (ap (λ (r : ℕ). has_flights (state.modes r)) (sym is) ∙ ap has_flights alone))))
      (λ ne. other-parts q (other-pair q ne) (do_raise sys q state) Raising refl (λ t. refl)
      (λ t of. other-is q t None (state.memory t) (other-pair q ne) of) (λ t of. refl))

  -- ---- each entry

  pub follows : (entry : Event) → Fits sys state entry → Follows image sys (effect sys state entry) p (pair_after_call image sys state entry p pair)
  follows (event.Show t phase attempt k) l = answered t _ refl
  follows (event.Key t k) l = answered t _ refl
  follows (event.CheckStart t) l = check-start t (ap has_flights l.can.paired)
  follows (event.CheckEnd t) l = check-end t (ap has_flights l.can.paired)
  follows (event.CheckCopy t) l = check-copy t (ap has_flights l.raising)
  follows (event.Applied t) l = applies t
  follows (event.Begin t n r) l = answered t _ refl
  follows (event.Send t n c) l = old
  follows (event.Take c i t) l = old
  follows (event.File c i op mode f status) l =
      file-cases sys state c i (λ (x : State). Follows image sys x p pair) old (λ job call works asks. old)
  follows (event.Reply c i t fault) l =
      reply-any sys state c i t (λ (x : State). Follows image sys x p pair) fault
      (λ reply outside. answered t _ refl)
      (λ reply inside. answered t _ refl)
      (λ x. answered t _ refl)
  follows (event.Again t n) l = answered t _ refl
  follows (event.Commit t n) l = answered t _ refl
  follows (event.Back t n) l = answered t _ refl
  follows (event.Restart t n cause) l = answered t _ (start-ending (attempt_of (state.units t)) (state.terms t))
  follows (event.FailTcp q primary k) l = fails q primary
  follows (event.FailServer c i k) l =
      process-cases sys state (λ (x : State). Follows image sys x p pair) c i k old
      (λ job works. answered job.request.terminal _ refl)
  follows (event.Takeover q) l = takes-over q l.down
  follows (event.Raise q) l = raises q l.alone
  follows (event.End t e) l =
      end-any sys state (λ (x : State). Follows image sys x p (pair_after_call image sys state (event.End t e) p pair)) t e
      (ended t e state refl refl refl refl) (ended t e (leave_units sys (only t) state) refl refl refl refl)
