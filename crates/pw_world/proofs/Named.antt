-- The actors that an entry names are those whose state it changes, beside those at which a request is cancelled.
use Rattle.std.proofs.Common.{◌≡◌, ◌∙◌, ℕ, ◌<◌, ◌==◌, ◌&&◌, ◌||◌, List, [], ◌∷◌, All, Bool, true, false, Option, Some, None, is_some, length, refl, sym, ap, subst, ⊎_elim, arith}
use Rattle.std.specs.Prelude.{if◌then◌else◌}
use Rattle.std.specs.List.{list_any}
use Rattle.std.proofs.lemmas.Bool.{cases_eq, ne_eqb}
use Rattle.std.proofs.lemmas.List.Elements.{All-cons, All-nil}
use Rattle.std.proofs.lemmas.Option.{slice_get_within}
use Rattle.pw_base.proofs.Plain.{or-false, and-false, eqb-swap}
use Rattle.pw_class.specs.Queue.{at_process, works_for}
use Rattle.pw_class.specs.declared.request.Request.{Request}
use Rattle.pw_code.specs.declared.system.System.{System}
use Rattle.pw_event.specs.declared.event.Event.{Event}
use Rattle.pw_event.specs.declared.event.Event.TheVariants.{Show, Key, CheckStart, CheckEnd, CheckCopy, Applied, Begin, Send, Take, File, Reply, Again, Commit, Back, Restart, FailTcp, FailServer, Takeover, Raise, End}
use Rattle.pw_world_state.specs.Entered.{tcp_of}
use Rattle.pw_world_state.specs.Kept.{Kept}
use Rattle.pw_world_state.specs.May.{IsThere}
use Rattle.pw_world_state.specs.Tested.{IsPlaced}
use Rattle.pw_world.specs.Touched.{cancels_at, member, named, posted}
use Rattle.pw_world_model.proofs.Behind.{needs}
use Rattle.pw_world_model.proofs.OfUnits.{works}
use Rattle.pw_world_model.proofs.Paths.{paths-are}
use Rattle.pw_world_model.proofs.Steps.{there}
use Rattle.pw_world_model.specs.Actors.{IsActor}
use Rattle.pw_world_state.specs.Members.{members_of}
use Rattle.pw_world_model.specs.Pushed.{CanPush}
use Rattle.pw_world_model.specs.Seen.{Seen, state_of, sys_of}
use Rattle.pw_world_model.specs.Touches.{cancels_where, is_at, is_at_class, is_at_process, leaves, loses, tells_of_pair}
use Rattle.pw_world_model.specs.Touching.{touches_at}
use Rattle.pw_world_model.specs.Worlds.{Books, IsWorld}
use Rattle.pw_paired.specs.Raising.{is_takeover}
use Rattle.pw_paired.specs.Terminal.{path_of}
use Rattle.pw_actor_queue.specs.Places.{is_same_actor}
use Rattle.pw_actor_queue.specs.declared.actor.Actor.{Actor}
use Rattle.pw_actor_queue.specs.declared.actor.Actor.TheVariants as actor
use Rattle.pw_laws.proofs.requests.Classes.{found_free}

-- ---- tests

and-so : (a : Bool) → (a && true) ≡ a
and-so true = refl
and-so false = refl

-- one of a list, and none behind it
one : (m n : ℕ) → ((m == n) || false) ≡ (n == m)
one m n = or-false (m == n) ∙ eqb-swap m n

one-process : (c i d j : ℕ) → (((c == d) && (i == j)) || false) ≡ ((d == c) && (j == i))
one-process c i d j = or-false ((c == d) && (i == j)) ∙ (ap (λ b. b && (i == j)) (eqb-swap c d) ∙ ap (λ b. (d == c) && b) (eqb-swap i j))

-- ---- what an entry names, for each kind of actor

module _ (system : System) (kept : Kept) where
  restarted : (u t : ℕ) (b : Bool) → list_any (is_same_actor (actor.Terminal u)) (if b then member system t else actor.Terminal t ∷ []) ≡ (t == u)
  restarted u t true = one u t
  restarted u t false = one u t

  stopped : (u d j : ℕ) (o : Option Request) → list_any (is_same_actor (actor.Terminal u)) (posted d j o) ≡ works_for u o
  stopped u d j None = refl
  stopped u d j (Some request) = one u request.terminal

  named-terminal : (u : ℕ) (entry : Event) → list_any (is_same_actor (actor.Terminal u)) (named system kept entry) ≡ is_at kept u entry
  named-terminal u (Show t phase attempt k) = one u t
  named-terminal u (Key t k) = one u t
  named-terminal u (CheckStart t) = one u t
  named-terminal u (CheckEnd t) = one u t
  named-terminal u (CheckCopy t) = one u t
  named-terminal u (Applied t) = one u t
  named-terminal u (Begin t n r) = one u t
  named-terminal u (Send t n d) = one u t
  named-terminal u (Take d j t) = refl
  named-terminal u (File d j op mode f status) = refl
  named-terminal u (Reply d j t fault) = one u t
  named-terminal u (Again t n) = one u t
  named-terminal u (Commit t n) = one u t
  named-terminal u (Back t n) = one u t
  named-terminal u (Restart t n cause) = restarted u t (is_takeover (kept.terminals t).pending)
  named-terminal u (FailTcp q primary k) = refl
  named-terminal u (FailServer d j k) = stopped u d j (at_process (kept.queues d) j)
  named-terminal u (Takeover q) = refl
  named-terminal u (Raise q) = refl
  named-terminal u (End t ending) = one u t

  restarted-process : (c i t : ℕ) (b : Bool) → list_any (is_same_actor (actor.Process c i)) (if b then member system t else actor.Terminal t ∷ []) ≡ false
  restarted-process c i t true = refl
  restarted-process c i t false = refl

  -- where the process is the one that stops, something is at it exactly where something is at that
  same-busy : (c i d j : ℕ) → ((d == c) && ((j == i) && is_some (at_process (kept.queues c) i))) ≡ ((d == c) && ((j == i) && is_some (at_process (kept.queues d) j)))
  same-busy c i d j = ⊎_elim
      (λ class. ⊎_elim
      (λ process. ap (λ x. (d == c) && ((j == i) && is_some (at_process (kept.queues x) i))) (sym class) ∙ ap (λ x. (d == c) && ((j == i) && is_some (at_process (kept.queues d) x))) (sym process))
      (λ differ. let none : (j == i) ≡ false = ne_eqb j i differ in ap (λ b. (d == c) && (b && is_some (at_process (kept.queues c) i))) none ∙ sym (ap (λ b. (d == c) && (b && is_some (at_process (kept.queues d) j))) none))
      (cases_eq j i))
      (λ differ. let none : (d == c) ≡ false = ne_eqb d c differ in ap (λ b. b && ((j == i) && is_some (at_process (kept.queues c) i))) none ∙ sym (ap (λ b. b && ((j == i) && is_some (at_process (kept.queues d) j))) none))
      (cases_eq d c)

  stopped-process : (c i d j : ℕ) (o : Option Request) → at_process (kept.queues d) j ≡ o → list_any (is_same_actor (actor.Process c i)) (posted d j o) ≡ ((d == c) && ((j == i) && is_some (at_process (kept.queues c) i)))
  stopped-process c i d j None is =
      sym (same-busy c i d j ∙ (ap (λ (o : Option Request). (d == c) && ((j == i) && is_some o)) is ∙ (ap (λ b. (d == c) && b) (and-false (j == i)) ∙ and-false (d == c))))
  stopped-process c i d j (Some request) is =
      one-process c i d j ∙ sym (same-busy c i d j ∙ (ap (λ (o : Option Request). (d == c) && ((j == i) && is_some o)) is ∙ ap (λ b. (d == c) && b) (and-so (j == i))))

  named-process : (c i : ℕ) (entry : Event) → list_any (is_same_actor (actor.Process c i)) (named system kept entry) ≡ is_at_process kept c i entry
  named-process c i (Show t phase attempt k) = refl
  named-process c i (Key t k) = refl
  named-process c i (CheckStart t) = refl
  named-process c i (CheckEnd t) = refl
  named-process c i (CheckCopy t) = refl
  named-process c i (Applied t) = refl
  named-process c i (Begin t n r) = refl
  named-process c i (Send t n d) = refl
  named-process c i (Take d j t) = one-process c i d j
  named-process c i (File d j op mode f status) = one-process c i d j
  named-process c i (Reply d j t fault) = one-process c i d j
  named-process c i (Again t n) = refl
  named-process c i (Commit t n) = refl
  named-process c i (Back t n) = refl
  named-process c i (Restart t n cause) = restarted-process c i t (is_takeover (kept.terminals t).pending)
  named-process c i (FailTcp q primary k) = refl
  named-process c i (FailServer d j k) = stopped-process c i d j (at_process (kept.queues d) j) refl
  named-process c i (Takeover q) = refl
  named-process c i (Raise q) = refl
  named-process c i (End t ending) = refl

  restarted-pair : (p t : ℕ) (b : Bool) → list_any (is_same_actor (actor.Pair p)) (if b then member system t else actor.Terminal t ∷ []) ≡ ((tcp_of system t == p) && b)
  restarted-pair p t true = one p (tcp_of system t) ∙ sym (and-so (tcp_of system t == p))
  restarted-pair p t false = sym (and-false (tcp_of system t == p))

  stopped-pair : (p d j : ℕ) (o : Option Request) → list_any (is_same_actor (actor.Pair p)) (posted d j o) ≡ false
  stopped-pair p d j None = refl
  stopped-pair p d j (Some request) = refl

  named-pair : (p : ℕ) (entry : Event) → list_any (is_same_actor (actor.Pair p)) (named system kept entry) ≡ tells_of_pair system kept p entry
  named-pair p (Show t phase attempt k) = refl
  named-pair p (Key t k) = refl
  named-pair p (CheckStart t) = one p (tcp_of system t)
  named-pair p (CheckEnd t) = one p (tcp_of system t)
  named-pair p (CheckCopy t) = one p (tcp_of system t)
  named-pair p (Applied t) = one p (tcp_of system t)
  named-pair p (Begin t n r) = refl
  named-pair p (Send t n d) = refl
  named-pair p (Take d j t) = refl
  named-pair p (File d j op mode f status) = refl
  named-pair p (Reply d j t fault) = refl
  named-pair p (Again t n) = refl
  named-pair p (Commit t n) = refl
  named-pair p (Back t n) = refl
  named-pair p (Restart t n cause) = restarted-pair p t (is_takeover (kept.terminals t).pending)
  named-pair p (FailTcp q primary k) = refl
  named-pair p (FailServer d j k) = stopped-pair p d j (at_process (kept.queues d) j)
  named-pair p (Takeover q) = refl
  named-pair p (Raise q) = refl
  named-pair p (End t ending) = one p (tcp_of system t)

  restarted-class : (c t : ℕ) (b : Bool) → list_any (is_same_actor (actor.Class c)) (if b then member system t else actor.Terminal t ∷ []) ≡ false
  restarted-class c t true = refl
  restarted-class c t false = refl

  busy-class : (c d j : ℕ) → ((d == c) && is_some (at_process (kept.queues c) j)) ≡ ((d == c) && is_some (at_process (kept.queues d) j))
  busy-class c d j = ⊎_elim
      (λ class. ap (λ x. (d == c) && is_some (at_process (kept.queues x) j)) (sym class))
      (λ differ. let none : (d == c) ≡ false = ne_eqb d c differ in ap (λ b. b && is_some (at_process (kept.queues c) j)) none ∙ sym (ap (λ b. b && is_some (at_process (kept.queues d) j)) none))
      (cases_eq d c)

  stopped-class : (c d j : ℕ) (o : Option Request) → at_process (kept.queues d) j ≡ o → list_any (is_same_actor (actor.Class c)) (posted d j o) ≡ ((d == c) && is_some (at_process (kept.queues c) j))
  stopped-class c d j None is = sym (busy-class c d j ∙ (ap (λ (o : Option Request). (d == c) && is_some o) is ∙ and-false (d == c)))
  stopped-class c d j (Some request) is = one c d ∙ sym (busy-class c d j ∙ (ap (λ (o : Option Request). (d == c) && is_some o) is ∙ and-so (d == c)))

  named-class : (c : ℕ) (entry : Event) → list_any (is_same_actor (actor.Class c)) (named system kept entry) ≡ is_at_class kept c entry
  named-class c (Show t phase attempt k) = refl
  named-class c (Key t k) = refl
  named-class c (CheckStart t) = refl
  named-class c (CheckEnd t) = refl
  named-class c (CheckCopy t) = refl
  named-class c (Applied t) = refl
  named-class c (Begin t n r) = refl
  named-class c (Send t n d) = one c d
  named-class c (Take d j t) = one c d
  named-class c (File d j op mode f status) = one c d
  named-class c (Reply d j t fault) = one c d
  named-class c (Again t n) = refl
  named-class c (Commit t n) = refl
  named-class c (Back t n) = refl
  named-class c (Restart t n cause) = restarted-class c t (is_takeover (kept.terminals t).pending)
  named-class c (FailTcp q primary k) = refl
  named-class c (FailServer d j k) = stopped-class c d j (at_process (kept.queues d) j) refl
  named-class c (Takeover q) = refl
  named-class c (Raise q) = refl
  named-class c (End t ending) = refl

  -- ---- requests

  none-any : (ts : List ℕ) → list_any (λ t. false) ts ≡ false
  none-any [] = refl
  none-any (t ∷ ts) = none-any ts

  -- no request is at a terminal or a pair
  cancels-never : (entry : Event) → cancels_where system kept entry (λ t. false) ≡ false
  cancels-never (Show t phase attempt k) = refl
  cancels-never (Key t k) = refl
  cancels-never (CheckStart t) = refl
  cancels-never (CheckEnd t) = refl
  cancels-never (CheckCopy t) = refl
  cancels-never (Applied t) = refl
  cancels-never (Begin t n r) = refl
  cancels-never (Send t n d) = refl
  cancels-never (Take d j t) = refl
  cancels-never (File d j op mode f status) = refl
  cancels-never (Reply d j t fault) = refl
  cancels-never (Again t n) = refl
  cancels-never (Commit t n) = refl
  cancels-never (Back t n) = refl
  cancels-never (Restart t n cause) = refl
  cancels-never (FailTcp q primary k) = ap (λ b. loses primary (kept.pairs q).mode && b) (none-any (members_of system q)) ∙ and-false (loses primary (kept.pairs q).mode)
  cancels-never (FailServer d j k) = refl
  cancels-never (Takeover q) = refl
  cancels-never (Raise q) = refl
  cancels-never (End t ending) = and-false (leaves ending)

  -- ---- the whole

  pub touches-parts : (entry : Event) (own : Actor) → (list_any (is_same_actor own) (named system kept entry) || cancels_at system kept entry own) ≡ touches_at system kept entry own
  touches-parts entry (actor.Terminal u) = ap (λ b. list_any (is_same_actor (actor.Terminal u)) (named system kept entry) || b) (cancels-never entry) ∙ (or-false _ ∙ named-terminal u entry)
  touches-parts entry (actor.Process c i) = ap (λ b. b || cancels_at system kept entry (actor.Process c i)) (named-process c i entry)
  touches-parts entry (actor.Pair p) = ap (λ b. list_any (is_same_actor (actor.Pair p)) (named system kept entry) || b) (cancels-never entry) ∙ (or-false _ ∙ named-pair p entry)
  touches-parts entry (actor.Class c) = ap (λ b. b || cancels_at system kept entry (actor.Class c)) (named-class c entry)

-- ---- they are actors of the system

one-known : (system : System) (a : Actor) → IsActor system a → All (IsActor system) (a ∷ [])
one-known system a of = All-cons (IsActor system) a [] of (All-nil (IsActor system))

two-known : (system : System) (a b : Actor) → IsActor system a → IsActor system b → All (IsActor system) (a ∷ b ∷ [])
two-known system a b of two = All-cons (IsActor system) a (b ∷ []) of (one-known system b two)

module _ (world : Seen) (books : Books) (w : IsWorld world books) where
  member-known : (t : ℕ) → t < length world.system.terminals → All (IsActor world.system) (member world.system t)
  member-known t low = two-known world.system (actor.Terminal t) (actor.Pair (tcp_of world.system t)) low (w.deck.pairs t low)

  restarted-known : (t : ℕ) (b : Bool) → t < length world.system.terminals → All (IsActor world.system) (if b then member world.system t else actor.Terminal t ∷ [])
  restarted-known t true low = member-known t low
  restarted-known t false low = one-known world.system (actor.Terminal t) low

  process-known : (c i : ℕ) → c < length world.system.classes → IsActor world.system (actor.Process c i) → All (IsActor world.system) (actor.Process c i ∷ actor.Class c ∷ [])
  process-known c i low of = two-known world.system (actor.Process c i) (actor.Class c) of low

  post-known : (t c i : ℕ) → t < length world.system.terminals → c < length world.system.classes → IsActor world.system (actor.Process c i) → All (IsActor world.system) (actor.Terminal t ∷ actor.Process c i ∷ actor.Class c ∷ [])
  post-known t c i known low of = All-cons (IsActor world.system) (actor.Terminal t) (actor.Process c i ∷ actor.Class c ∷ []) known (process-known c i low of)

  posted-known : (c i : ℕ) (o : Option Request) → at_process (world.kept.queues c) i ≡ o → c < length world.system.classes → IsActor world.system (actor.Process c i) → All (IsActor world.system) (posted c i o)
  posted-known c i None is low of = All-nil (IsActor world.system)
  posted-known c i (Some request) is low of =
      let runs = works world books w c i request low is in
      post-known request.terminal c i (subst (λ n. request.terminal < n) w.terminals runs.is_open.terminal) low of

  placed-low : (t : ℕ) → IsPlaced world.system t → t < length world.system.terminals
  placed-low t at = slice_get_within world.system.terminals t at.info at.here

  known-of : (entry : Event) → CanPush world entry → IsThere world.system entry → All (IsActor world.system) (named world.system world.kept entry)
  known-of (Show t phase attempt k) can low = one-known world.system (actor.Terminal t) low
  known-of (Key t k) can low = one-known world.system (actor.Terminal t) low
  known-of (CheckStart t) can low = member-known t low
  known-of (CheckEnd t) can low = member-known t low
  known-of (CheckCopy t) can low = member-known t low
  known-of (Applied t) can low = member-known t low
  known-of (Begin t n r) can low = one-known world.system (actor.Terminal t) low
  known-of (Send t n d) can low = two-known world.system (actor.Terminal t) (actor.Class d) low
      (w.deck.sends t d can.legal.fits.message (path_of (state_of world) t) (paths-are (sys_of world) w.deck world.log w.run t low) can.legal.fits.asks)
  known-of (Take d j t) can low =
      let free = found_free ((state_of world).classes d).busy 1 ((sys_of world).processes d) j can.legal.fits.free in
      process-known d j low (free.1, let high = free.2 in omega (arith, high))
  known-of (File d j op mode f status) can low = process-known d j low.class (low.low, low.high)
  known-of (Reply d j t fault) can low =
      let both = needs world books w (Reply d j t fault) can in
      post-known t d j (placed-low t both.1.placed) low.class (low.low, low.high)
  known-of (Again t n) can low = one-known world.system (actor.Terminal t) low
  known-of (Commit t n) can low = one-known world.system (actor.Terminal t) low
  known-of (Back t n) can low = one-known world.system (actor.Terminal t) low
  known-of (Restart t n cause) can low = restarted-known t (is_takeover (world.kept.terminals t).pending) low
  known-of (FailTcp q primary k) can low = All-nil (IsActor world.system)
  known-of (FailServer d j k) can low = posted-known d j (at_process (world.kept.queues d) j) refl low.class (low.low, low.high)
  known-of (Takeover q) can low = All-nil (IsActor world.system)
  known-of (Raise q) can low = All-nil (IsActor world.system)
  known-of (End t ending) can low = member-known t low

  pub named-known : (entry : Event) → CanPush world entry → All (IsActor world.system) (named world.system world.kept entry)
  named-known entry can = known-of entry can (there world books w entry can.legal)
