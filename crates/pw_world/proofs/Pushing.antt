-- A world with one more entry, and one in which an entry was refused.
use Rattle.std.proofs.Common.{◌≡◌, ◌∙◌, ℕ, ◌+◌, ◌-◌, ◌^◌, ◌<◌, ◌≤◌, ◌==◌, ◌&&◌, ◌||◌, List, [], ◌∷◌, ◌++◌, All, Bool, true, false, Some, min, not, ap, length, refl, sym, subst, ⊎_elim, arith}
use Rattle.std.specs.Prelude.{if◌then◌else◌}
use Rattle.std.specs.List.{list_any}
use Rattle.std.proofs.lemmas.Bool.{cases_eq, eq-eqb}
use Rattle.std.proofs.lemmas.List.Elements.{All-nil, All-weaker}
use Rattle.std.proofs.lemmas.List.Filters.{length-filter_both}
use Rattle.pw_base.specs.Outside.{Rose}
use Rattle.pw_base.proofs.Plain.{or-false}
use Rattle.pw_code.specs.declared.system.System.{System}
use Rattle.pw_event.specs.Due.{owner_entry_count, is_same_owner, owner_of}
use Rattle.pw_event.specs.declared.event.Event.{Event}
use Rattle.pw_event.specs.declared.script.Owner.{Owner}
use Rattle.pw_event.specs.declared.script.Owner.TheVariants as owner
use Rattle.pw_world_store.specs.Calls.{members_in}
use Rattle.pw_world_store.specs.Keeps.{IsChanged, IsRefused, KeepState, kept_in, terminals_in}
use Rattle.pw_world_state.specs.Entered.{entered}
use Rattle.pw_world_state.specs.Kept.{Kept}
use Rattle.pw_world.proofs.Noting.{all-mark, all-out, all-stamp, marks_of, outs_of, restamped, stamps_of}
use Rattle.pw_world.proofs.Stamped.{each-out, each-stamp}
use Rattle.pw_world.specs.Bookings.{IsBooked, IsBookingOf, mode_in, stamped_each, owner_pair_turned}
use Rattle.pw_world.specs.Ledgers.{LedgerState, books_of, listed}
use Rattle.pw_world.specs.States.{IsMonitor, WorldState, seen}
use Rattle.pw_world.specs.declared.booking.Booking.{Booking}
use Rattle.pw_world_model.proofs.Behind.{same-entered, world-then}
use Rattle.pw_world_model.proofs.Books.{live-is}
use Rattle.pw_world_model.proofs.Cancelled.{by-class, by-pair}
use Rattle.pw_world_model.proofs.SameWork.{has-failed}
use Rattle.pw_world_model.proofs.Steps.{owner as owned, placed, there}
use Rattle.pw_world_model.proofs.Touched.{stamps}
use Rattle.pw_world_model.specs.Actors.{IsActor, is_same_actor}
use Rattle.pw_world_state.specs.Members.{members_of}
use Rattle.pw_world_model.specs.Dues.{IsOwner, count_of, due_entry_counted, without_fail}
use Rattle.pw_world_model.specs.OneSends.{begins_one_send}
use Rattle.pw_world_model.specs.Pushed.{AreMarked, CanPush, booked, live_behind, pushed}
use Rattle.pw_world_model.specs.Seen.{Seen, state_of, sys_of}
use Rattle.pw_world_model.specs.Touches.{is_same_mode, stamped, touches, turns}
use Rattle.pw_world_model.specs.Touching.{actors_of_pair, touches_at}
use Rattle.pw_world_model.specs.Worlds.{IsWorld}
use Rattle.pw_paired.specs.Shown.{refresh_of}
use Rattle.pw_actor_queue.specs.Places.{is_placed, notes_in}
use Rattle.pw_actor_queue.specs.declared.actor.Actor.{Actor}
use Rattle.pw_actor_queue.specs.declared.roster.ActorNote.{ActorNote}
use Rattle.pw_tmf.specs.Told.{Told}
use Rattle.pw_tmf.specs.declared.answer.DiscFault.TheVariants as fault

any-unless : (f : Actor → Bool) (b : Bool) (xs : List Actor) → list_any f (if b then [] else xs) ≡ (not b && list_any f xs)
any-unless f true xs = refl
any-unless f false xs = refl

-- two ways to come to a stamp
stamp-of : (a b : Bool) (n old : ℕ) → (if b then n else (if a then n else old)) ≡ (if (a || b) then n else old)
stamp-of true true n old = refl
stamp-of true false n old = refl
stamp-of false true n old = refl
stamp-of false false n old = refl

-- what is seen, by its parts
abbrev with-parts : Seen → System → Kept → List Event → Bool → (Actor → Bool) → Seen
with-parts world system kept log failed out = record world { system = system; kept = kept; log = log; failed = failed; out = out }

-- ---- one more entry

module _ {D : Type 0} (told : D → Told) (w : WorldState D) (m : IsMonitor told w) (entry : Event) (can : CanPush (seen told w) entry)
    (booking : Booking) (b : IsBookingOf (seen told w) entry booking) where
  abbrev world : Seen
  world = seen told w

  there-is : IsOwner (length w.keep.system.tcps) (length w.keep.system.classes) (owner_of (sys_of world).pair_of entry)
  there-is = owned w.keep.system w.script m.deck entry (there world (books_of w.ledger) m entry can.legal)

  pub owner-low : IsOwner (length w.keep.system.tcps) (length w.keep.system.classes) booking.owner
  owner-low = subst (IsOwner (length w.keep.system.tcps) (length w.keep.system.classes)) (sym b.owner) there-is

  pub due-low : IsOwner (length w.ledger.due.tcps) (length w.ledger.due.classes) booking.owner
  due-low = by booking.owner owner-low
    where
      by : (o : Owner) → IsOwner (length w.keep.system.tcps) (length w.keep.system.classes) o → IsOwner (length w.ledger.due.tcps) (length w.ledger.due.classes) o
      by (owner.Tcp p) low = subst (λ n. p < n) (sym m.books.due.tcp_count) low
      by (owner.Class c) low = subst (λ n. c < n) (sym m.books.due.class_count) low

  short : (o : Owner) → owner_entry_count (sys_of world).pair_of o world.log < 2 ^ 64 - 1
  short o =
      let mine = length-filter_both (λ e. is_same_owner (owner_of (sys_of world).pair_of e) o) (λ e. not (is_same_owner (owner_of (sys_of world).pair_of e) o)) (λ e. refl) world.log in
      let room = m.room in
      let few = m.few in
      omega (arith, mine, room, few)

  pub few : count_of w.ledger.due booking.owner < 2 ^ 64 - 1
  few = by booking.owner owner-low
    where
      by : (o : Owner) → IsOwner (length w.keep.system.tcps) (length w.keep.system.classes) o → count_of w.ledger.due o < 2 ^ 64 - 1
      by (owner.Tcp p) low = subst (λ n. n < 2 ^ 64 - 1) (sym (m.books.due.tcps_are p low)) (short (owner.Tcp p))
      by (owner.Class c) low = subst (λ n. n < 2 ^ 64 - 1) (sym (m.books.due.classes_are c low)) (short (owner.Class c))

  pub some-live : 1 ≤ w.ledger.live
  some-live = ⊎_elim
      (λ none. let zero-is : (w.ledger.live == 0) ≡ true = eq-eqb w.ledger.live 0 none in
      let ended : (w.ledger.live == 0) ≡ false = ap (λ n. n == 0) m.books.live ∙ (sym (live-is (length w.keep.system.terminals) (state_of world)) ∙ can.legal.unfinished) in
      absurd (cc (zero-is, ended)))
      (λ some. omega (arith, some))
      (cases_eq w.ledger.live 0)

  pub touched-placed : All (λ a. is_placed a ≡ true) booking.touched.items
  touched-placed = All-weaker (IsActor w.keep.system) (λ a. is_placed a ≡ true) (placed w.keep.system m.valid) booking.touched.items (b.touched.known (All-nil (IsActor w.keep.system)))

  -- ---- behind it

  module _ (k : KeepState D) (changed : IsChanged told (entered w.keep.system (members_in (kept_in told w.keep)) entry) w.keep k) (l : LedgerState)
      (is : IsBooked (kept_in told k) entry booking (record w.ledger { spare = true }) l) where
    abbrev next : Seen
    next = pushed world entry

    kept-is : kept_in told k ≡ next.kept
    kept-is = changed.kept ∙ same-entered world (books_of w.ledger) m entry can

    outs-are : outs_of (notes_in l.notes) ≡ outs_of (notes_in w.ledger.notes)
    outs-are =
        ap outs_of is.notes
        ∙ (all-out (stamped_each (owner_pair_turned (kept_in told k) booking.owner booking.mode) (length world.log + 1) (stamped_each booking.touched.items (length world.log + 1) (notes_in w.ledger.notes)))
        ∙ (each-out (owner_pair_turned (kept_in told k) booking.owner booking.mode) (length world.log + 1) (stamped_each booking.touched.items (length world.log + 1) (notes_in w.ledger.notes))
        ∙ each-out booking.touched.items (length world.log + 1) (notes_in w.ledger.notes)))

    log-is : l.log ≡ world.log ++ entry ∷ []
    log-is = ap (λ (x : LedgerState). x.log) is.books

    pub pushed-seen : seen told (record w { keep = k; ledger = l }) ≡ next
    pushed-seen =
        ap (λ s. with-parts world s (kept_in told k) l.log w.failed (outs_of (notes_in l.notes))) changed.system
        ∙ (ap (λ x. with-parts world w.keep.system x l.log w.failed (outs_of (notes_in l.notes))) kept-is
        ∙ (ap (λ log. with-parts world w.keep.system next.kept log w.failed (outs_of (notes_in l.notes))) log-is
        ∙ ap (with-parts world w.keep.system next.kept (world.log ++ entry ∷ []) w.failed) outs-are))

    abbrev marks : Actor → Bool
    marks = marks_of (notes_in l.notes)

    are-marked : AreMarked next marks
    are-marked a known may =
        ap (λ (n : Actor → ActorNote). (n a).marked) is.notes
        ∙ all-mark (stamped_each (owner_pair_turned (kept_in told k) booking.owner booking.mode) (length world.log + 1) (stamped_each booking.touched.items (length world.log + 1) (notes_in w.ledger.notes))) a
        (placed w.keep.system m.valid a known)

    behind : IsWorld next (booked world entry marks (books_of w.ledger))
    behind = world-then world (books_of w.ledger) m entry can marks are-marked (stamps world (books_of w.ledger) m entry can)

    -- ---- stamps

    abbrev turned-mode : ℕ → Bool
    turned-mode p = turns world.system world.kept entry p

    turned-pair : (p : ℕ) → p < length w.keep.system.tcps → booking.owner ≡ owner.Tcp p → (a : Actor)
        → list_any (is_same_actor a) (owner_pair_turned (kept_in told k) booking.owner booking.mode) ≡ (turned-mode p && list_any (is_same_actor a) (actors_of_pair p (members_of world.system p)))
    turned-pair p low own a =
        let mode : booking.mode ≡ Some (world.kept.pairs p).mode = b.mode ∙ ap (mode_in world.kept) own in
        let same = is_same_mode (world.kept.pairs p).mode (next.kept.pairs p).mode in
        ap (λ o. list_any (is_same_actor a) (owner_pair_turned (kept_in told k) o booking.mode)) own
        ∙ (ap (λ o. list_any (is_same_actor a) (owner_pair_turned (kept_in told k) (owner.Tcp p) o)) mode
        ∙ (ap (λ x. list_any (is_same_actor a) (owner_pair_turned x (owner.Tcp p) (Some (world.kept.pairs p).mode))) kept-is
        ∙ (any-unless (is_same_actor a) same (actors_of_pair p (terminals_in (next.kept.pairs p)))
        ∙ ap (λ ts. not same && list_any (is_same_actor a) (actors_of_pair p ts)) (behind.members p low))))

    turned-class : (c : ℕ) → booking.owner ≡ owner.Class c → (a : Actor) → list_any (is_same_actor a) (owner_pair_turned (kept_in told k) booking.owner booking.mode) ≡ false
    turned-class c own a = ap (λ o. list_any (is_same_actor a) (owner_pair_turned (kept_in told k) o booking.mode)) own

    touches-are : (a : Actor) → IsActor world.system a
        → (list_any (is_same_actor a) booking.touched.items || list_any (is_same_actor a) (owner_pair_turned (kept_in told k) booking.owner booking.mode)) ≡ touches world.system world.kept entry a
    touches-are a known = by booking.owner refl owner-low
      where
        by : (o : Owner) → booking.owner ≡ o → IsOwner (length w.keep.system.tcps) (length w.keep.system.classes) o
            → (list_any (is_same_actor a) booking.touched.items || list_any (is_same_actor a) (owner_pair_turned (kept_in told k) booking.owner booking.mode)) ≡ touches world.system world.kept entry a
        by (owner.Tcp p) own low =
            ap (λ x. x || list_any (is_same_actor a) (owner_pair_turned (kept_in told k) booking.owner booking.mode)) (b.touched.exact a known)
            ∙ (ap (λ x. touches_at world.system world.kept entry a || x) (turned-pair p low own a)
            ∙ sym (by-pair world (books_of w.ledger) m entry can p a known (sym b.owner ∙ own)))
        by (owner.Class c) own low =
            ap (λ x. x || list_any (is_same_actor a) (owner_pair_turned (kept_in told k) booking.owner booking.mode)) (b.touched.exact a known)
            ∙ (ap (λ x. touches_at world.system world.kept entry a || x) (turned-class c own a)
            ∙ (or-false (touches_at world.system world.kept entry a)
            ∙ sym (by-class world (books_of w.ledger) m entry can c a known (sym b.owner ∙ own))))

    stamps-are : (a : Actor) → IsActor world.system a → (notes_in l.notes a).stamp ≡ stamped world.system world.kept entry (length world.log + 1) (stamps_of (notes_in w.ledger.notes)) a
    stamps-are a known =
        let n = length world.log + 1 in
        let mine = stamped_each booking.touched.items n (notes_in w.ledger.notes) in
        let pairs = owner_pair_turned (kept_in told k) booking.owner booking.mode in
        ap (λ (notes : Actor → ActorNote). (notes a).stamp) is.notes
        ∙ (ap (λ (s : Actor → ℕ). s a) (all-stamp (stamped_each pairs n mine))
        ∙ (each-stamp pairs n mine a
        ∙ (ap (λ old. if list_any (is_same_actor a) pairs then n else old) (each-stamp booking.touched.items n (notes_in w.ledger.notes) a)
        ∙ (stamp-of (list_any (is_same_actor a) booking.touched.items) (list_any (is_same_actor a) pairs) n (notes_in w.ledger.notes a).stamp
        ∙ ap (λ x. if x then n else (notes_in w.ledger.notes a).stamp) (touches-are a known)))))

    -- ---- the books

    books-are : books_of l ≡ record (booked world entry marks (books_of w.ledger)) { stamps = stamps_of (notes_in l.notes) }
    books-are =
        let sys = sys_of world in
        let state = state_of world in
        let old = w.ledger in
        let own : LedgerState = record old {
          log = old.log ++ entry ∷ [];
          refreshes = old.refreshes ++ listed booking.refresh;
          one_sends = old.one_sends ++ booking.one_send ∷ [];
          due = due_entry_counted booking.owner (record old.due { waiting = without_fail entry old.due.waiting });
          live = live_behind entry old.live;
          notes = l.notes;
          spare = l.spare;
        } in
        ap books_of is.books
        ∙ (ap (λ r. record (books_of own) { refreshes = old.refreshes ++ r }) b.refresh
        ∙ (ap (λ x. record (books_of own) { refreshes = old.refreshes ++ refresh_of sys state entry; one_sends = old.one_sends ++ x ∷ [] }) b.one_send
        ∙ ap (λ o. record (books_of own) {
          refreshes = old.refreshes ++ refresh_of sys state entry;
          one_sends = old.one_sends ++ begins_one_send sys state entry ∷ [];
          due = due_entry_counted o (record old.due { waiting = without_fail entry old.due.waiting });
        }) b.owner))

    pub pushed-monitor : IsMonitor told (record w { keep = k; ledger = l })
    pushed-monitor =
        subst (λ (x : Seen). IsWorld x (books_of l)) (sym pushed-seen)
        (subst (IsWorld next) (sym books-are) (restamped next (booked world entry marks (books_of w.ledger)) (stamps_of (notes_in l.notes)) behind stamps-are))

-- ---- a refused entry

rose-more : (a b n : ℕ) → min a (2 ^ 64 - 1) ≤ b → Rose b n → Rose a n
rose-more a b n low rose = omega (arith, low, rose)

module _ {D : Type 0} (told : D → Told) (w : WorldState D) (m : IsMonitor told w) (spare : Bool) (k : KeepState D) where
  -- ---- for want of memory

  short-seen : IsRefused told fault.Memory w.keep k → seen told (record w { keep = k; ledger = record w.ledger { spare = spare } }) ≡ seen told w
  short-seen refused =
      ap (λ s. with-parts (seen told w) s (kept_in told k) w.ledger.log w.failed (outs_of (notes_in w.ledger.notes))) refused.system
      ∙ ap (λ x. with-parts (seen told w) w.keep.system x w.ledger.log w.failed (outs_of (notes_in w.ledger.notes)))
      (refused.rest ∙ ap (λ d. record (kept_in told w.keep) { disc = d }) refused.leaves)

  pub short-monitor : IsRefused told fault.Memory w.keep k → IsMonitor told (record w { keep = k; ledger = record w.ledger { spare = spare } })
  short-monitor refused = subst (λ (x : Seen). IsWorld x (books_of w.ledger)) (sym (short-seen refused)) m

  -- ---- where the disc failed

  rose : IsRefused told fault.Failed w.keep k → Rose (told w.first).faults (told k.disc).faults
  rose refused = rose-more (told w.first).faults (told w.keep.disc).faults (told k.disc).faults m.count refused.leaves.count

  failed-kept : IsRefused told fault.Failed w.keep k → kept_in told k ≡ record (kept_in told w.keep) { disc = record (told w.keep.disc) { faults = (told k.disc).faults } }
  failed-kept refused = refused.rest ∙ ap (λ d. record (kept_in told w.keep) { disc = d }) refused.leaves.stays

  failed-seen : IsRefused told fault.Failed w.keep k → seen told (record w { keep = k; failed = true; ledger = record w.ledger { spare = spare } })
      ≡ record (seen told w) { failed = true; kept = record (kept_in told w.keep) { disc = record (told w.keep.disc) { faults = (told k.disc).faults } } }
  failed-seen refused =
      ap (λ s. with-parts (seen told w) s (kept_in told k) w.ledger.log true (outs_of (notes_in w.ledger.notes))) refused.system
      ∙ ap (λ x. with-parts (seen told w) w.keep.system x w.ledger.log true (outs_of (notes_in w.ledger.notes))) (failed-kept refused)

  pub failed-monitor : IsRefused told fault.Failed w.keep k → IsMonitor told (record w { keep = k; failed = true; ledger = record w.ledger { spare = spare } })
  failed-monitor refused =
      subst (λ (x : Seen). IsWorld x (books_of w.ledger)) (sym (failed-seen refused))
      (has-failed (seen told w) (books_of w.ledger) m (told k.disc).faults (rose refused))
