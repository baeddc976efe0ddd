-- Members of pairs fail, and terminals go on behind takeovers.
use Rattle.std.proofs.Common.{◌≡◌, ℕ, ◌==◌, ◌<◌, ◌&&◌, ◌||◌, Bool, true, false, List, [], ◌∷◌, ◌++◌, Option, Some, None, map, cond, ◌∙◌, ⊎_elim, refl, sym, ap, ap₂, subst, length}
use Rattle.std.specs.Prelude.{All, find, is_none, is_some, option_map, slice_get, slice_set}
use Rattle.std.specs.List.{AllByRecursion, IsDistinct, list_all}
use Rattle.std.proofs.lemmas.Bool.{and_parts, cases_eq, cases_lt, eq-eqb, eqb-true, ne_eqb, true≢false}
use Rattle.std.proofs.lemmas.List.{get_or-set_other, get_or-set_same, length-set}
use Rattle.std.proofs.lemmas.List.Elements.{All-cons, All-head, All-nil, All-tail}
use Rattle.std.proofs.lemmas.Option.{slice_get_past}
use Rattle.pw_code.specs.declared.system.System.{System}
use Rattle.pw_code.specs.declared.system.TermInfo.{TermInfo}
use Rattle.pw_event.specs.declared.event.Cause.TheVariants.{Takeover}
use Rattle.pw_event.specs.declared.event.Ending.{Ending}
use Rattle.pw_event.specs.declared.event.Ending.TheVariants.{Fault, Lost, NoEntries, Stopped, Suspended}
use Rattle.pw_world_store.specs.Each.{gone_each, gone_on, is_left, loss_of, lost}
use Rattle.pw_world_store.specs.Keeps.{HasVerb, is_run, kept_of, no_seat, seat_at}
use Rattle.pw_world_store.specs.declared.pieces.TerminalLoss.{TerminalLoss}
use Rattle.pw_world_store.specs.declared.pieces.TerminalLoss.TheVariants as loss
use Rattle.pw_world_state.specs.Changes.{at_pair, backup_lost, kept_fail_tcp, leave, leave_at, memory_in, primary_lost, resumed_live, runs_told}
use Rattle.pw_world_state.specs.Kept.{Kept}
use Rattle.pw_world_state.specs.Members.{AreOf, IsOf}
use Rattle.pw_pair.specs.Called.{member_fails}
use Rattle.pw_pair.specs.Pairs.{SeenPair, backup_fails, memory_of, primary_fails}
use Rattle.pw_pair.specs.Seats.{has_own_memory, held_is_sound, is_seat_of, memory_is_sound}
use Rattle.pw_image.specs.Reading.{context_in}
use Rattle.pw_pair.specs.Takeover.{AreResumed, Resumption, last_ended, resumed_image, resumption_at as held_at, resumption_in, resumption_of}
use Rattle.pw_pair.specs.declared.backup.Held.{Held}
use Rattle.pw_pair.specs.declared.mode.Mode.{Mode}
use Rattle.pw_pair.specs.declared.mode.Mode.TheVariants.{Alone, Down, Gone, Paired, Raising}
use Rattle.pw_pair.specs.declared.resumed.Resumed.{Resumed}
use Rattle.pw_pair.specs.declared.seat.BackupSeat.{BackupSeat as PairSeat}
use Rattle.pw_world_store.specs.Seats.{runs_numbered, runs_unit}
use Rattle.pw_world_store.specs.declared.seat.Seat.{Seat}
use Rattle.pw_world_store.proofs.Changed.{AreChanged}
use Rattle.pw_tmf.specs.Leaving.{is_among, unit_told}
use Rattle.pw_tmf.specs.Told.{ToldUnit}

-- ---- a member fails

primary-loses : (mode : Mode) (terminals : List ℕ) (kept : Kept) → lost (loss_of true mode) terminals kept ≡ primary_lost mode terminals kept
primary-loses Paired terminals kept = refl
primary-loses Raising terminals kept = refl
primary-loses Alone terminals kept = refl
primary-loses Down terminals kept = refl
primary-loses Gone terminals kept = refl

backup-loses : (mode : Mode) (terminals : List ℕ) (kept : Kept) → lost (loss_of false mode) terminals kept ≡ backup_lost mode terminals kept
backup-loses Paired terminals kept = refl
backup-loses Raising terminals kept = refl
backup-loses Alone terminals kept = refl
backup-loses Down terminals kept = refl
backup-loses Gone terminals kept = refl

-- what is lost leaves the pairs
pub lost-pairs : (l : TerminalLoss) (terminals : List ℕ) (kept : Kept) → (lost l terminals kept).pairs ≡ kept.pairs
lost-pairs loss.Nothing terminals kept = refl
lost-pairs loss.Paths terminals kept = refl
lost-pairs loss.Units terminals kept = refl

-- the loss, and then the pair
pub fails-by : (p : ℕ) (primary : Bool) (terminals : List ℕ) (kept : Kept)
    → at_pair p (member_fails primary) (lost (loss_of primary (kept.pairs p).mode) terminals kept) ≡ kept_fail_tcp p primary terminals kept
fails-by p true terminals kept =
    let mode = (kept.pairs p).mode in
    let left : Kept = primary_lost mode terminals kept in
    let is : lost (loss_of true mode) terminals kept ≡ left = primary-loses mode terminals kept in
    let same : left.pairs ≡ kept.pairs = ap (λ (k : Kept). k.pairs) (sym is) ∙ lost-pairs (loss_of true mode) terminals kept in
    ap (at_pair p (member_fails true)) is
    ∙ ap (λ (m : Mode). at_pair p (primary_fails m) left) (ap (λ (pairs : ℕ → SeenPair). (pairs p).mode) same)
fails-by p false terminals kept =
    let mode = (kept.pairs p).mode in
    let left : Kept = backup_lost mode terminals kept in
    let is : lost (loss_of false mode) terminals kept ≡ left = backup-loses mode terminals kept in
    let same : left.pairs ≡ kept.pairs = ap (λ (k : Kept). k.pairs) (sym is) ∙ lost-pairs (loss_of false mode) terminals kept in
    ap (at_pair p (member_fails false)) is
    ∙ ap (λ (m : Mode). at_pair p (backup_fails m) left) (ap (λ (pairs : ℕ → SeenPair). (pairs p).mode) same)

-- ---- the terminals of a pair

-- they are terminals of the system
pub members-low : {system : System} {p : ℕ} {terminals : List ℕ} → AreOf system p terminals → All (λ t. t < length system.terminals) terminals
members-low {system} {p} of = λ k d lt. let one : IsOf system p _ = of.each k d lt in slice_get_low system.terminals _ one.info one.here
  where
    slice_get_low : (terminals : List TermInfo) (t : ℕ) (info : TermInfo) → slice_get terminals t ≡ Some info → t < length terminals
    slice_get_low terminals t info is =
        ⊎_elim (λ lt. lt) (λ past. absurd (cc (is, slice_get_past terminals t past))) (cases_lt t (length terminals))

-- ---- a takeover

runs-same : (n : ℕ) (t : ℕ) (s : Seat) (own : Option ToldUnit) → s.unit ≡ unit_told t own → is_some s.start ≡ is_run own → runs_unit n s ≡ runs_told n own
runs-same n t s own unit run = ap (runs_numbered n (is_some s.start)) unit ∙ by own run
  where
    by : (o : Option ToldUnit) → is_some s.start ≡ is_run o → runs_numbered n (is_some s.start) (unit_told t o) ≡ runs_told n o
    by None e = refl
    by (Some x) e = ap (λ b. x.number == n && b) e

either : {A : Type 0} (b : Bool) (x : A) → x ≡ cond b x x
either true x = refl
either false x = refl

-- a seat that goes on is kept so
goes-held : (p t : ℕ) (s : Seat) (own : Option ToldUnit) (last : ℕ) (held : Option Held) → s.unit ≡ unit_told t own → is_some s.start ≡ is_run own
    → kept_of (gone_on p (option_map (λ h. held_at h last) held) s) ≡ resumed_live p held own last (kept_of s)
goes-held p t s own last None unit run = either (is_none s.ending) (kept_of s)
goes-held p t s own last (Some held) unit run = by (is_none s.ending)
  where
    by : (b : Bool) → kept_of (cond b
        (record s { context = context_in (resumed_image held last); ready = None; pending = cond (runs_unit held.unit s) (Some (Takeover p)) s.pending }) s)
        ≡ cond b
        (record (kept_of s) { context = context_in (resumed_image held last); ready = None; pending = cond (runs_told held.unit own) (Some (Takeover p)) s.pending })
        (kept_of s)
    by true =
        ap (λ r. record (kept_of s) { context = context_in (resumed_image held last); ready = None; pending = cond r (Some (Takeover p)) s.pending })
        (runs-same held.unit t s own unit run)
    by false = refl

pub goes-on : (p t : ℕ) (s : Seat) (own : Option ToldUnit) (last : ℕ) (seat : Option PairSeat) → s.unit ≡ unit_told t own → is_some s.start ≡ is_run own
    → kept_of (gone_on p (resumption_in seat last) s) ≡ resumed_live p (memory_in seat) own last (kept_of s)
goes-on p t s own last None unit run = either (is_none s.ending) (kept_of s)
goes-on p t s own last (Some seat) unit run = goes-held p t s own last seat.memory unit run

-- what it leaves
pub verb-left : (system : System) (p : ℕ) (r : Option Resumption) (s : Seat) → HasVerb system s → HasVerb system (gone_on p r s)
verb-left system p None s h = h
verb-left system p (Some (t, (unit, context))) s h = by (is_none s.ending)
  where
    by : (b : Bool) → HasVerb system (cond b (record s { context = context; ready = None; pending = cond (runs_unit unit s) (Some (Takeover p)) s.pending }) s)
    by true = tt
    by false = h

stays-if : {A : Type 0} (read : Seat → A) (b : Bool) (new s : Seat) → read new ≡ read s → read (cond b new s) ≡ read s
stays-if read true new s e = e
stays-if read false new s e = refl

pub unit-left : (p : ℕ) (r : Option Resumption) (s : Seat) → (gone_on p r s).unit ≡ s.unit
unit-left p None s = refl
unit-left p (Some (t, (unit, context))) s = stays-if (λ (x : Seat). x.unit) (is_none s.ending) _ s refl

pub start-left : (p : ℕ) (r : Option Resumption) (s : Seat) → (gone_on p r s).start ≡ s.start
start-left p None s = refl
start-left p (Some (t, (unit, context))) s = stays-if (λ (x : Seat). x.start) (is_none s.ending) _ s refl

-- ---- each of those that its images name

gone-length : (p : ℕ) (resumed : List Resumed) (seats : List Seat) → length (gone_each p resumed seats) ≡ length seats
gone-length p [] seats = refl
gone-length p (one ∷ resumed) seats =
    length-set (gone_each p resumed seats) one.terminal (gone_on p (Some (resumption_of one)) (seat_at (gone_each p resumed seats) one.terminal))
    ∙ gone-length p resumed seats

-- the terminals of seats, and what is to be resumed of them
abbrev pub terminals_of : List PairSeat → List ℕ
terminals_of held = map (λ (one : PairSeat). one.terminal) held

abbrev pub all_resumed : (ℕ → ℕ) → List Held → List Resumption
all_resumed last images = map (λ (one : Held). held_at one (last one.terminal)) images

-- the memory of the first seat stands before the others
memory-none : (seat : PairSeat) (held : List PairSeat) → seat.memory ≡ None → memory_of (seat ∷ held) ≡ memory_of held
memory-none seat held e = rw e refl

memory-some : (seat : PairSeat) (held : List PairSeat) (one : Held) → seat.memory ≡ Some one → memory_of (seat ∷ held) ≡ one ∷ memory_of held
memory-some seat held one e = rw e refl

-- it names its terminal
named : (terminal : ℕ) (one : Held) → memory_is_sound terminal (Some one) ≡ true → one.terminal ≡ terminal
named terminal one h = eqb-true one.terminal terminal (and_parts (one.terminal == terminal) (held_is_sound one) h).0

-- a terminal is not among those that differ from it
not-among : (t : ℕ) (ts : List ℕ) → AllByRecursion (λ y. (t == y) ≡ false) ts → is_among ts t ≡ false
not-among t [] h = refl
not-among t (s ∷ ts) h =
    let other : (s == t) ≡ false = ne_eqb s t (λ e. true≢false (sym (eq-eqb t s (sym e)) ∙ h.0)) in
    rw other (not-among t ts h.1)

abbrev head-or : {A : Type 0} → A → List A → A
head-or d [] = d
head-or d (x ∷ xs) = x

abbrev tail-of : {A : Type 0} → List A → List A
tail-of [] = []
tail-of (x ∷ xs) = xs

module _ (p : ℕ) (last : ℕ → ℕ) where
  -- how a terminal goes on by these seats
  abbrev how : List PairSeat → ℕ → Option Resumption
  how held u = resumption_in (find (is_seat_of u) held) (last u)

  -- it is resumed, if its number is among theirs
  abbrev Resumes : List PairSeat → List Resumed → List Seat → ℕ → Type 0
  Resumes held resumed seats u =
      seat_at (gone_each p resumed seats) u
      ≡ cond (is_among (terminals_of held) u) (gone_on p (how held u) (seat_at seats u)) (seat_at seats u)

  -- the first seat is of another terminal
  past : (seat : PairSeat) (held : List PairSeat) (resumed : List Resumed) (seats : List Seat) (u : ℕ) → is_seat_of u seat ≡ false
      → Resumes held resumed seats u
      → seat_at (gone_each p resumed seats) u
      ≡ cond (is_among (terminals_of (seat ∷ held)) u) (gone_on p (how (seat ∷ held) u) (seat_at seats u)) (seat_at seats u)
  past seat held resumed seats u other rest = rw other rest

  gone-at : (held : List PairSeat) (resumed : List Resumed) (seats : List Seat) → IsDistinct (λ a b. a == b) (terminals_of held)
      → list_all has_own_memory held ≡ true → map resumption_of resumed ≡ all_resumed last (memory_of held)
      → All (λ t. t < length seats) (terminals_of held) → (u : ℕ) → Resumes held resumed seats u
  unfolding IsDistinct
  gone-at [] [] seats distinct own e all u = refl
  gone-at [] (one ∷ resumed) seats distinct own e all u = absurd (cc e)
  gone-at (seat ∷ held) resumed seats distinct own e all u =
      let k = and_parts (has_own_memory seat) (list_all has_own_memory held) own in
      let low = All-tail (λ t. t < length seats) seat.terminal (terminals_of held) all in
      let here = All-head (λ t. t < length seats) seat.terminal (terminals_of held) all in
      let alone : is_among (terminals_of held) seat.terminal ≡ false = not-among seat.terminal (terminals_of held) distinct.0 in
      by seat.memory refl k.0 here alone (λ rs f v. gone-at held rs seats distinct.1 k.1 f low v) resumed e
    where
      by : (memory : Option Held) → seat.memory ≡ memory → has_own_memory seat ≡ true → seat.terminal < length seats → is_among (terminals_of held) seat.terminal ≡ false
          → ((rs : List Resumed) → map resumption_of rs ≡ all_resumed last (memory_of held) → (v : ℕ) → Resumes held rs seats v)
          → (rs : List Resumed) → map resumption_of rs ≡ all_resumed last (memory_of (seat ∷ held)) → Resumes (seat ∷ held) rs seats u
      by None none mine here alone rest rs f =
          let others = rest rs (f ∙ ap (all_resumed last) (memory-none seat held none)) u in
          ⊎_elim
          (λ is.
          let first : is_seat_of u seat ≡ true = eq-eqb seat.terminal u (sym is) in
          let no : is_among (terminals_of held) u ≡ false = ap (is_among (terminals_of held)) is ∙ alone in
          others ∙ (ap (λ b. cond b (gone_on p (how held u) (seat_at seats u)) (seat_at seats u)) no ∙ sym (rw (first, none) refl)))
          (λ ne. past seat held rs seats u (ne_eqb seat.terminal u (λ e. ne (sym e))) others)
          (cases_eq u seat.terminal)
      by (Some one) some mine here alone rest [] f = absurd (cc (f ∙ ap (all_resumed last) (memory-some seat held one some)))
      by (Some one) some mine here alone rest (r ∷ rs) f =
          let g : map resumption_of (r ∷ rs) ≡ all_resumed last (one ∷ memory_of held) = f ∙ ap (all_resumed last) (memory-some seat held one some) in
          let first : resumption_of r ≡ held_at one (last one.terminal) = ap (head-or (resumption_of r)) g in
          let names : one.terminal ≡ seat.terminal = named seat.terminal one (ap (memory_is_sound seat.terminal) (sym some) ∙ mine) in
          let its : r.terminal ≡ seat.terminal = ap (λ (x : Resumption). x.0) first ∙ names in
          let others : List Seat = gone_each p rs seats in
          let rests = rest rs (ap tail-of g) in
          let low : seat.terminal < length others = subst (λ n. seat.terminal < n) (sym (gone-length p rs seats)) here in
          ap (λ t. seat_at (slice_set others t (gone_on p (Some (resumption_of r)) (seat_at others t))) u) its
          ∙ ⊎_elim
          (λ is.
          let found : is_seat_of u seat ≡ true = eq-eqb seat.terminal u (sym is) in
          let old : seat_at others seat.terminal ≡ seat_at seats seat.terminal =
          rests seat.terminal ∙ ap (λ b. cond b (gone_on p (how held seat.terminal) (seat_at seats seat.terminal)) (seat_at seats seat.terminal)) alone
          in
          let so : how (seat ∷ held) u ≡ Some (resumption_of r) =
          rw (found, some) (ap (λ n. Some (held_at one (last n))) (is ∙ sym names) ∙ ap (λ x. Some x) (sym first))
          in
          ap (seat_at (slice_set others seat.terminal (gone_on p (Some (resumption_of r)) (seat_at others seat.terminal)))) is
          ∙ (get_or-set_same others seat.terminal (gone_on p (Some (resumption_of r)) (seat_at others seat.terminal)) no_seat low
          ∙ (ap₂ (λ x s. gone_on p x s) (sym so) (old ∙ ap (seat_at seats) (sym is))
          ∙ sym (ap (λ b. cond (b || is_among (terminals_of held) u) (gone_on p (how (seat ∷ held) u) (seat_at seats u)) (seat_at seats u)) found))))
          (λ ne.
          get_or-set_other others seat.terminal u (gone_on p (Some (resumption_of r)) (seat_at others seat.terminal)) no_seat ne
          ∙ past seat held rs seats u (ne_eqb seat.terminal u (λ e. ne (sym e))) (rests u))
          (cases_eq u seat.terminal)

-- TMF's last ended units of some terminals, by number
abbrev pub ended_of : (ℕ → ℕ) → List ℕ → List (ℕ × ℕ)
ended_of last ts = map (λ t. (t, last t)) ts

last-is : (last : ℕ → ℕ) (ts : List ℕ) (u : ℕ) → is_among ts u ≡ true → last_ended (ended_of last ts) u ≡ last u
last-is last [] u h = absurd (cc h)
last-is last (t ∷ ts) u h = by (t == u) refl h (last-is last ts u)
  where
    by : (b : Bool) → (t == u) ≡ b → (b || is_among ts u) ≡ true → (is_among ts u ≡ true → last_ended (ended_of last ts) u ≡ last u)
        → cond b (last t) (last_ended (ended_of last ts) u) ≡ last u
    by true is k rest = ap last (eqb-true t u is)
    by false is k rest = rest k

-- the terminals of a pair go on, of which something is held
pub gone-are : (p : ℕ) (last : ℕ → ℕ) (held : List PairSeat) (resumed : List Resumed) (seats : List Seat) → IsDistinct (λ a b. a == b) (terminals_of held)
    → list_all has_own_memory held ≡ true → AreResumed (memory_of held) (ended_of last (terminals_of held)) resumed
    → All (λ t. t < length seats) (terminals_of held)
    → AreChanged (λ t. gone_on p (resumption_in (find (is_seat_of t) held) (last t))) (terminals_of held) seats (gone_each p resumed seats)
gone-are p last held resumed seats distinct own e all = record {
  size = gone-length p resumed seats;
  at = λ u. gone-at p (last_ended (ended_of last (terminals_of held))) held resumed seats distinct own e all u ∙ by u (is_among (terminals_of held) u) refl;
}
  where
    by : (u : ℕ) (b : Bool) → is_among (terminals_of held) u ≡ b
        → cond b (gone_on p (resumption_in (find (is_seat_of u) held) (last_ended (ended_of last (terminals_of held)) u)) (seat_at seats u)) (seat_at seats u)
        ≡ cond b (gone_on p (resumption_in (find (is_seat_of u) held) (last u)) (seat_at seats u)) (seat_at seats u)
    by u true h = ap (λ n. gone_on p (resumption_in (find (is_seat_of u) held) n) (seat_at seats u)) (last-is last (terminals_of held) u h)
    by u false h = refl

-- the last one first
pub gone-last : (p : ℕ) (rest : List Resumed) (one : Resumed) (seats : List Seat)
    → gone_each p (rest ++ one ∷ []) seats
    ≡ gone_each p rest (slice_set seats one.terminal (gone_on p (Some (resumption_of one)) (seat_at seats one.terminal)))
gone-last p [] one seats = refl
gone-last p (first ∷ rest) one seats =
    ap (λ (others : List Seat). slice_set others first.terminal (gone_on p (Some (resumption_of first)) (seat_at others first.terminal)))
    (gone-last p rest one seats)

-- who is resumed is one of the terminals
pub resumed-low : (n : ℕ) (last : ℕ → ℕ) (held : List PairSeat) (resumed : List Resumed) → list_all has_own_memory held ≡ true
    → map resumption_of resumed ≡ all_resumed last (memory_of held) → All (λ t. t < n) (terminals_of held) → All (λ (one : Resumed). one.terminal < n) resumed
resumed-low n last [] [] own e all = All-nil (λ (one : Resumed). one.terminal < n)
resumed-low n last [] (one ∷ resumed) own e all = absurd (cc e)
resumed-low n last (seat ∷ held) resumed own e all =
    let k = and_parts (has_own_memory seat) (list_all has_own_memory held) own in
    let low = All-tail (λ t. t < n) seat.terminal (terminals_of held) all in
    by seat.memory refl k.0 (All-head (λ t. t < n) seat.terminal (terminals_of held) all) (λ rs f. resumed-low n last held rs k.1 f low) resumed e
  where
    by : (memory : Option Held) → seat.memory ≡ memory → has_own_memory seat ≡ true → seat.terminal < n
        → ((rs : List Resumed) → map resumption_of rs ≡ all_resumed last (memory_of held) → All (λ (one : Resumed). one.terminal < n) rs)
        → (rs : List Resumed) → map resumption_of rs ≡ all_resumed last (memory_of (seat ∷ held)) → All (λ (one : Resumed). one.terminal < n) rs
    by None none mine here rest rs f = rest rs (f ∙ ap (all_resumed last) (memory-none seat held none))
    by (Some one) some mine here rest [] f = All-nil (λ (one : Resumed). one.terminal < n)
    by (Some one) some mine here rest (r ∷ rs) f =
        let g : map resumption_of (r ∷ rs) ≡ all_resumed last (one ∷ memory_of held) = f ∙ ap (all_resumed last) (memory-some seat held one some) in
        let first : resumption_of r ≡ held_at one (last one.terminal) = ap (head-or (resumption_of r)) g in
        let names : one.terminal ≡ seat.terminal = named seat.terminal one (ap (memory_is_sound seat.terminal) (sym some) ∙ mine) in
        let its : r.terminal ≡ seat.terminal = ap (λ (x : Resumption). x.0) first ∙ names in
        All-cons (λ (one : Resumed). one.terminal < n) r rs (subst (λ t. t < n) (sym its) here) (rest rs (ap tail-of g))

-- each but the last one, and the last one
pub rest-low : (n : ℕ) (rest : List Resumed) (one : Resumed) → All (λ (one : Resumed). one.terminal < n) (rest ++ one ∷ []) → All (λ (one : Resumed). one.terminal < n) rest
rest-low n [] one all = All-nil (λ (one : Resumed). one.terminal < n)
rest-low n (first ∷ rest) one all =
    All-cons (λ (one : Resumed). one.terminal < n) first rest (All-head (λ (one : Resumed). one.terminal < n) first (rest ++ one ∷ []) all)
    (rest-low n rest one (All-tail (λ (one : Resumed). one.terminal < n) first (rest ++ one ∷ []) all))

pub last-low : (n : ℕ) (rest : List Resumed) (one : Resumed) → All (λ (one : Resumed). one.terminal < n) (rest ++ one ∷ []) → one.terminal < n
last-low n [] one all = All-head (λ (one : Resumed). one.terminal < n) one [] all
last-low n (first ∷ rest) one all = last-low n rest one (All-tail (λ (one : Resumed). one.terminal < n) first (rest ++ one ∷ []) all)

-- ---- an ending

pub left-at : (t : ℕ) (ending : Ending) (kept : Kept) → is_left ending ≡ true → leave (t ∷ []) kept ≡ leave_at t ending kept
left-at t Stopped kept e = absurd (cc e)
left-at t NoEntries kept e = refl
left-at t (Fault x) kept e = refl
left-at t (Suspended cause) kept e = refl
left-at t Lost kept e = absurd (cc e)

pub stays-at : (t : ℕ) (ending : Ending) (kept : Kept) → is_left ending ≡ false → kept ≡ leave_at t ending kept
stays-at t Stopped kept e = refl
stays-at t NoEntries kept e = absurd (cc e)
stays-at t (Fault x) kept e = absurd (cc e)
stays-at t (Suspended cause) kept e = absurd (cc e)
stays-at t Lost kept e = refl

-- one terminal alone
pub one-low : (n t : ℕ) → t < n → All (λ k. k < n) (t ∷ [])
one-low n t low = All-cons (λ k. k < n) t [] low (All-nil (λ k. k < n))

pub one-distinct : (t : ℕ) → IsDistinct (λ (a b : ℕ). a == b) (t ∷ [])
unfolding IsDistinct
one-distinct t = (tt, tt)
