-- The table of touched actors is exact, and says the stamps.
use Rattle.std.proofs.Common.{◌≡◌, ℕ, ◌+◌, ◌-◌, ◌<◌, ◌≤◌, ◌==◌, ◌&&◌, not, List, [], ◌∷◌, ◌++◌, length, Option, Some, None, Bool, true, false, is_some, inl, inr, refl, sym, ap, ap₂, subst, ◌∙◌, ⊎_elim, length-append, arith}
use Rattle.std.specs.Prelude.{if◌then◌else◌, slice_get}
use Rattle.std.specs.List.{list_any}
use Rattle.std.proofs.Math.Path.{fun_ext}
use Rattle.std.proofs.Math.Seq.{take-length}
use Rattle.std.proofs.lemmas.Bool.{cases_Bool, cases_lt, eqb-true, not-true, or_parts, not-false, or_cases}
use Rattle.std.proofs.lemmas.List.{take-append-le}
use Rattle.std.proofs.lemmas.Option.{slice_get_within}
use Rattle.pw_class.specs.Queue as queue
use Rattle.pw_class.specs.Queue.{at_process, works_for}
use Rattle.pw_code.specs.declared.system.ClassInfo.{ClassInfo}
use Rattle.pw_event.specs.declared.event.Ending.{Ending}
use Rattle.pw_event.specs.declared.event.Event.{Event}
use Rattle.pw_event.specs.declared.event.Event.TheVariants.{Show, Key, CheckStart, CheckEnd, CheckCopy, Applied, Begin, Send, Take, File, Reply, Again, Commit, Back, Restart, FailTcp, FailServer, Takeover, Raise, End}
use Rattle.pw_code_meaning.specs.OfSystem.{processes_by}
use Rattle.pw_world_state.specs.Entered.{entered, tcp_of}
use Rattle.pw_world_state.specs.Kept.{Kept}
use Rattle.pw_world_state.specs.May.{IsProcessOf, IsThere}
use Rattle.pw_world_state.specs.Members.{IsOf, KnowsAll, members_of}
use Rattle.pw_pair.specs.Follows.{mode_as}
use Rattle.pw_world_state.proofs.Agreeing.{pair-among, there-is}
use Rattle.pw_world_state.proofs.OfRuns.{knows-all}
use Rattle.pw_pair.proofs.Seating.{any-so}
use Rattle.pw_world_model.specs.Actors.{IsActor}
use Rattle.pw_world_model.specs.Pushed.{CanPush, pushed}
use Rattle.pw_world_model.specs.Seen.{Seen, state_of, sys_of}
use Rattle.pw_world_model.specs.Stamps.{IsStamp, OfClass, OfProcess, state_at, state_in}
use Rattle.pw_world_model.specs.Touches.{cancels_where, is_at, is_at_class, is_at_process, is_same_mode, leaves, loses, stamped, tells_of_pair, touches, turns}
use Rattle.pw_world_model.specs.Worlds.{Books, IsWorld}
use Rattle.pw_world_model.proofs.Alike.{class_in, job_in, mode_in, own-differs}
use Rattle.pw_world_model.proofs.Behind.{live-of, stands, then-is}
use Rattle.pw_world_model.proofs.Cancels.{cancel-none, cancel-some, cancels_in, class-cancels, class-spared, may_cancel, process-cancels, process-spared}
use Rattle.pw_world_model.proofs.Classes.{at_class, class-differs, class-stays, process-differs, process-stays}
use Rattle.pw_world_model.proofs.Classes as class
use Rattle.pw_world_state.proofs.Members.{members-are}
use Rattle.pw_world_model.proofs.Outs.{at-same, has-same, job-has}
use Rattle.pw_world_model.proofs.Pairs.{at_pair, pair-differs, pair-stays}
use Rattle.pw_world_model.proofs.Readies.{loses-same}
use Rattle.pw_world_model.proofs.Steps.{there}
use Rattle.pw_world_model.proofs.Unlike.{at_terminal, stays-same}
use Rattle.pw_onecopy.specs.Behaviour.{Behaviour}
use Rattle.pw_paired.specs.Failure.{is_of_pair}
use Rattle.pw_paired.specs.Raising.{is_takeover}
use Rattle.pw_paired.specs.State.{PairMode, Alone, Raising, Paired, Down, Gone, State}
use Rattle.pw_paired.specs.Step.{Legal, after, change}
use Rattle.pw_paired.specs.Units.{has_request, request_in}
use Rattle.pw_actor_queue.specs.declared.actor.Actor.{Actor}
use Rattle.pw_actor_queue.specs.declared.actor.Actor.TheVariants as actor
use Rattle.pw_laws.proofs.induction.Runs.{kept}
use Rattle.pw_laws.proofs.kept.Kept.{Inv}
use Rattle.pw_laws.proofs.requests.Classes.{IsProcess, found_free}
use Rattle.pw_tmf.specs.Leaving.{is_among}

-- ---- modes

same-self : (m : PairMode) → is_same_mode (mode_as m) (mode_as m) ≡ true
same-self Alone = refl
same-self Raising = refl
same-self Paired = refl
same-self Down = refl
same-self Gone = refl

mode-eq : (a b : PairMode) → is_same_mode (mode_as a) (mode_as b) ≡ true → a ≡ b
mode-eq Alone Alone e = refl
mode-eq Alone Raising e = absurd (cc e)
mode-eq Alone Paired e = absurd (cc e)
mode-eq Alone Down e = absurd (cc e)
mode-eq Alone Gone e = absurd (cc e)
mode-eq Raising Alone e = absurd (cc e)
mode-eq Raising Raising e = refl
mode-eq Raising Paired e = absurd (cc e)
mode-eq Raising Down e = absurd (cc e)
mode-eq Raising Gone e = absurd (cc e)
mode-eq Paired Alone e = absurd (cc e)
mode-eq Paired Raising e = absurd (cc e)
mode-eq Paired Paired e = refl
mode-eq Paired Down e = absurd (cc e)
mode-eq Paired Gone e = absurd (cc e)
mode-eq Down Alone e = absurd (cc e)
mode-eq Down Raising e = absurd (cc e)
mode-eq Down Paired e = absurd (cc e)
mode-eq Down Down e = refl
mode-eq Down Gone e = absurd (cc e)
mode-eq Gone Alone e = absurd (cc e)
mode-eq Gone Raising e = absurd (cc e)
mode-eq Gone Paired e = absurd (cc e)
mode-eq Gone Down e = absurd (cc e)
mode-eq Gone Gone e = refl

module _ (world : Seen) (books : Books) (w : IsWorld world books) (entry : Event) (can : CanPush world entry) where
  abbrev sys : Behaviour
  sys = sys_of world

  abbrev state : State
  state = state_of world

  abbrev next : Kept
  next = entered world.system (members_of world.system) entry world.kept

  here : IsThere world.system entry
  here = there world books w entry can.legal

  inv : Inv sys state
  inv = kept sys w.deck world.log w.run

  knows : KnowsAll sys state
  knows = knows-all sys w.deck world.log w.run

  live : (t : ℕ) (ending : Ending) → entry ≡ End t ending → (state.terms t).ending ≡ None
  live t ending is = (live-of world books w entry can t ending is).1

  among : (p t : ℕ) → t < sys.terminals → is_of_pair sys p t ≡ is_among (members_of world.system p) t
  among p t low = pair-among world.system world.script p (members_of world.system p) (members-are world.system p) t low

  within : (p t : ℕ) → is_among (members_of world.system p) t ≡ true → t < sys.terminals
  within p t is = any-so (IsOf world.system p) (λ one. one == t) (t < sys.terminals) (members_of world.system p) (members-are world.system p).each
      (λ one of e. subst (λ v. v < sys.terminals) (eqb-true one t e) (slice_get_within world.system.terminals one of.info of.here)) is

  -- ---- the table of what is kept is that of the state

  mode-before : (p : ℕ) → p < length world.system.tcps → (world.kept.pairs p).mode ≡ mode_as (state.modes p)
  mode-before p few = (w.stands.pairs p few).mode_is

  mode-after : (p : ℕ) → p < length world.system.tcps → (next.pairs p).mode ≡ mode_as ((change sys state entry).modes p)
  mode-after p few = ((stands world books w entry can).pairs p few).mode_is ∙ ap (λ (s : State). mode_as (s.modes p)) (then-is world books w entry can)

  turns-is : (p : ℕ) → p < length world.system.tcps → turns world.system world.kept entry p ≡ not (is_same_mode (mode_as (state.modes p)) (mode_as ((change sys state entry).modes p)))
  turns-is p few = ap₂ (λ a b. not (is_same_mode a b)) (mode-before p few) (mode-after p few)

  stays-mode : (p : ℕ) → p < length world.system.tcps → turns world.system world.kept entry p ≡ false → (change sys state entry).modes p ≡ state.modes p
  stays-mode p few e = sym (mode-eq (state.modes p) ((change sys state entry).modes p) (not-false _ (sym (turns-is p few) ∙ e)))

  pub turns-mode : (p : ℕ) → p < length world.system.tcps → turns world.system world.kept entry p ≡ true → state.modes p ≡ (change sys state entry).modes p → ⊥
  turns-mode p few e same =
      let differ = not-true _ (sym (turns-is p few) ∙ e) in
      let self : is_same_mode (mode_as (state.modes p)) (mode_as ((change sys state entry).modes p)) ≡ true = ap (λ m. is_same_mode (mode_as (state.modes p)) (mode_as m)) (sym same) ∙ same-self (state.modes p) in
      absurd (cc (differ, self))

  at-of : (c i : ℕ) → IsProcess sys c i → at_process (world.kept.queues c) i ≡ request_in ((state.classes c).busy i)
  at-of = at-same world.system world.script state world.kept w.stands

  stopped-at : (c i : ℕ) → IsProcessOf world.system c i → at_process (world.kept.queues c) i ≡ request_in ((state.classes c).busy i)
  stopped-at c i of = at-of c i (record { there = of.class; from_one = of.low; within = of.high })

  is-at : (t : ℕ) (e : Event) → IsThere world.system e → is_at world.kept t e ≡ at_terminal state t e
  is-at t (FailServer c i k) of = ap (works_for t) (stopped-at c i of)
  is-at t (Show u phase attempt k) of = refl
  is-at t (Key u k) of = refl
  is-at t (CheckStart u) of = refl
  is-at t (CheckEnd u) of = refl
  is-at t (CheckCopy u) of = refl
  is-at t (Applied u) of = refl
  is-at t (Begin u n r) of = refl
  is-at t (Send u n d) of = refl
  is-at t (Take d j u) of = refl
  is-at t (File d j op mode f status) of = refl
  is-at t (Reply d j u fault) of = refl
  is-at t (Again u n) of = refl
  is-at t (Commit u n) of = refl
  is-at t (Back u n) of = refl
  is-at t (Restart u n cause) of = refl
  is-at t (FailTcp q primary k) of = refl
  is-at t (Takeover q) of = refl
  is-at t (Raise q) of = refl
  is-at t (End u ending) of = refl

  is-class : (c : ℕ) (e : Event) → IsThere world.system e → is_at_class world.kept c e ≡ at_class state c e
  is-class c (FailServer d j k) of = class-stopped (d == c) refl
    where
      class-stopped : (a : Bool) → (d == c) ≡ a → (a && is_some (at_process (world.kept.queues c) j)) ≡ (a && is_some (request_in ((state.classes d).busy j)))
      class-stopped true same = ap is_some (ap (λ v. at_process (world.kept.queues v) j) (sym (eqb-true d c same)) ∙ stopped-at d j of)
      class-stopped false same = refl
  is-class c (Show u phase attempt k) of = refl
  is-class c (Key u k) of = refl
  is-class c (CheckStart u) of = refl
  is-class c (CheckEnd u) of = refl
  is-class c (CheckCopy u) of = refl
  is-class c (Applied u) of = refl
  is-class c (Begin u n r) of = refl
  is-class c (Send u n d) of = refl
  is-class c (Take d j u) of = refl
  is-class c (File d j op mode f status) of = refl
  is-class c (Reply d j u fault) of = refl
  is-class c (Again u n) of = refl
  is-class c (Commit u n) of = refl
  is-class c (Back u n) of = refl
  is-class c (Restart u n cause) of = refl
  is-class c (FailTcp q primary k) of = refl
  is-class c (Takeover q) of = refl
  is-class c (Raise q) of = refl
  is-class c (End u ending) of = refl

  is-process : (c i : ℕ) (e : Event) → IsThere world.system e → is_at_process world.kept c i e ≡ class.at_process state c i e
  is-process c i (FailServer d j k) of = process-stopped (d == c) (j == i) refl refl
    where
      process-stopped : (a b : Bool) → (d == c) ≡ a → (j == i) ≡ b → (a && (b && is_some (at_process (world.kept.queues c) i))) ≡ (a && (b && is_some (request_in ((state.classes d).busy j))))
      process-stopped true true same own =
          let one = eqb-true d c same in
          let two = eqb-true j i own in
          ap is_some (ap₂ (λ v l. at_process (world.kept.queues v) l) (sym one) (sym two) ∙ stopped-at d j of)
      process-stopped true false same own = refl
      process-stopped false b same own = refl
  is-process c i (Show u phase attempt k) of = refl
  is-process c i (Key u k) of = refl
  is-process c i (CheckStart u) of = refl
  is-process c i (CheckEnd u) of = refl
  is-process c i (CheckCopy u) of = refl
  is-process c i (Applied u) of = refl
  is-process c i (Begin u n r) of = refl
  is-process c i (Send u n d) of = refl
  is-process c i (Take d j u) of = refl
  is-process c i (File d j op mode f status) of = refl
  is-process c i (Reply d j u fault) of = refl
  is-process c i (Again u n) of = refl
  is-process c i (Commit u n) of = refl
  is-process c i (Back u n) of = refl
  is-process c i (Restart u n cause) of = refl
  is-process c i (FailTcp q primary k) of = refl
  is-process c i (Takeover q) of = refl
  is-process c i (Raise q) of = refl
  is-process c i (End u ending) of = refl

  is-pair : (p : ℕ) (e : Event) → IsThere world.system e → tells_of_pair world.system world.kept p e ≡ at_pair sys state p e
  is-pair p (Restart t n cause) low =
      let found = there-is world.system.terminals t low in
      ap (λ o. (sys.pair_of t == p) && is_takeover o) (w.stands.terminals t found.0 found.1).pending
  is-pair p (Show u phase attempt k) of = refl
  is-pair p (Key u k) of = refl
  is-pair p (CheckStart u) of = refl
  is-pair p (CheckEnd u) of = refl
  is-pair p (CheckCopy u) of = refl
  is-pair p (Applied u) of = refl
  is-pair p (Begin u n r) of = refl
  is-pair p (Send u n d) of = refl
  is-pair p (Take d j u) of = refl
  is-pair p (File d j op mode f status) of = refl
  is-pair p (Reply d j u fault) of = refl
  is-pair p (Again u n) of = refl
  is-pair p (Commit u n) of = refl
  is-pair p (Back u n) of = refl
  is-pair p (FailTcp q primary k) of = refl
  is-pair p (FailServer d j k) of = refl
  is-pair p (Takeover q) of = refl
  is-pair p (Raise q) of = refl
  is-pair p (End u ending) of = refl

  cancels-is : (e : Event) → IsThere world.system e → (has of : ℕ → Bool) → ((t : ℕ) → has t ≡ of t) → cancels_where world.system world.kept e has ≡ cancels_in (members_of world.system) state e of
  cancels-is (Restart t n cause) low has of same = same t
  cancels-is (End t ending) low has of same = ap (λ x. leaves ending && x) (same t)
  cancels-is (FailTcp p primary k) low has of same =
      ap₂ (λ m (f : ℕ → Bool). loses primary m && list_any f (members_of world.system p)) (mode-before p low) (fun_ext same)
      ∙ ap (λ x. x && list_any of (members_of world.system p)) (loses-same primary (state.modes p))
  cancels-is (Show u phase attempt k) low has of same = refl
  cancels-is (Key u k) low has of same = refl
  cancels-is (CheckStart u) low has of same = refl
  cancels-is (CheckEnd u) low has of same = refl
  cancels-is (CheckCopy u) low has of same = refl
  cancels-is (Applied u) low has of same = refl
  cancels-is (Begin u n r) low has of same = refl
  cancels-is (Send u n d) low has of same = refl
  cancels-is (Take d j u) low has of same = refl
  cancels-is (File d j op mode f status) low has of same = refl
  cancels-is (Reply d j u fault) low has of same = refl
  cancels-is (Again u n) low has of same = refl
  cancels-is (Commit u n) low has of same = refl
  cancels-is (Back u n) low has of same = refl
  cancels-is (FailServer d j k) low has of same = refl
  cancels-is (Takeover q) low has of same = refl
  cancels-is (Raise q) low has of same = refl

  -- ---- each actor

  terminal-differs : (t : ℕ) → t < length world.system.terminals → touches world.system world.kept entry (actor.Terminal t) ≡ true → state_in sys state (actor.Terminal t) ≡ state_in sys (change sys state entry) (actor.Terminal t) → ⊥
  terminal-differs t low e = ⊎_elim
      (λ at. own-differs sys w.deck state inv entry can.legal live t (sym (is-at t entry here) ∙ at))
      (λ turn is. turns-mode (sys.pair_of t) (w.deck.pairs t low) turn (ap mode_in is))
      (or_cases (is_at world.kept t entry) (turns world.system world.kept entry (tcp_of world.system t)) e)

  terminal-stays : (t : ℕ) → t < length world.system.terminals → touches world.system world.kept entry (actor.Terminal t) ≡ false → state_in sys state (actor.Terminal t) ≡ state_in sys (change sys state entry) (actor.Terminal t)
  terminal-stays t low e =
      let both = or_parts (is_at world.kept t entry) (turns world.system world.kept entry (tcp_of world.system t)) e in
      stays-same sys w.deck state inv t entry can.legal (sym (is-at t entry here) ∙ both.0) (stays-mode (sys.pair_of t) (w.deck.pairs t low) both.1)

  pair-touched : (p : ℕ) → p < length world.system.tcps → touches world.system world.kept entry (actor.Pair p) ≡ true → state_in sys state (actor.Pair p) ≡ state_in sys (change sys state entry) (actor.Pair p) → ⊥
  pair-touched p few e = ⊎_elim
      (λ at. pair-differs sys w.deck state inv p entry can.legal live (sym (is-pair p entry here) ∙ at))
      (λ turn is. turns-mode p few turn (ap mode_in is))
      (or_cases (tells_of_pair world.system world.kept p entry) (turns world.system world.kept entry p) e)

  pair-untouched : (p : ℕ) → p < length world.system.tcps → touches world.system world.kept entry (actor.Pair p) ≡ false → state_in sys state (actor.Pair p) ≡ state_in sys (change sys state entry) (actor.Pair p)
  pair-untouched p few e =
      let both = or_parts (tells_of_pair world.system world.kept p entry) (turns world.system world.kept entry p) e in
      pair-stays sys w.deck state inv p entry can.legal (sym (is-pair p entry here) ∙ both.0) (stays-mode p few both.1)

  class-cancel-is : (c : ℕ) → c < length world.system.classes
      → cancels_where world.system world.kept entry (λ t. queue.has_request t (world.kept.queues c)) ≡ cancels_in (members_of world.system) state entry (λ t. has_request t (sys.processes c) (state.classes c))
  class-cancel-is c low = cancels-is entry here _ _ (λ t. has-same world.system world.script state world.kept w.stands t c low)

  class-touched : (c : ℕ) → c < length world.system.classes → touches world.system world.kept entry (actor.Class c) ≡ true → state_in sys state (actor.Class c) ≡ state_in sys (change sys state entry) (actor.Class c) → ⊥
  class-touched c low e = ⊎_elim
      (λ at is. class-differs sys state entry can.legal c (sym (is-class c entry here) ∙ at) (ap class_in is))
      (λ cancel is. class-cancels sys state (change sys state entry) knows c (cancel-some sys (members_of world.system) among within state entry _ (sym (class-cancel-is c low) ∙ cancel)) (ap class_in is))
      (or_cases (is_at_class world.kept c entry) (cancels_where world.system world.kept entry (λ t. queue.has_request t (world.kept.queues c))) e)

  class-untouched : (c : ℕ) → c < length world.system.classes → touches world.system world.kept entry (actor.Class c) ≡ false → state_in sys state (actor.Class c) ≡ state_in sys (change sys state entry) (actor.Class c)
  class-untouched c low e =
      let both = or_parts (is_at_class world.kept c entry) (cancels_where world.system world.kept entry (λ t. queue.has_request t (world.kept.queues c))) e in
      ap OfClass (⊎_elim
      (λ may. class-spared sys state (change sys state entry) knows c (cancel-none sys (members_of world.system) among within state entry _ may (sym (class-cancel-is c low) ∙ both.1))
      (λ i job works. job-has sys state c i job (inv.requests.bounds.work c i job works) works))
      (λ plain. class-stays sys state entry plain c (sym (is-class c entry here) ∙ both.0)) (cases_Bool (may_cancel entry)))

  free-taken : (c i t : ℕ) → entry ≡ Take c i t → (state.classes c).busy i ≡ None
  free-taken c i t is =
      let legal : Legal sys state (Take c i t) = subst (Legal sys state) is can.legal in
      (found_free (state.classes c).busy 1 (sys.processes c) i legal.fits.free).0

  process-cancel-is : (c i : ℕ) → IsProcess sys c i
      → cancels_where world.system world.kept entry (λ t. works_for t (at_process (world.kept.queues c) i)) ≡ cancels_in (members_of world.system) state entry (λ t. works_for t (request_in ((state.classes c).busy i)))
  process-cancel-is c i of = cancels-is entry here _ _ (λ t. ap (works_for t) (at-of c i of))

  process-touched : (c i : ℕ) → IsProcess sys c i → touches world.system world.kept entry (actor.Process c i) ≡ true → state_in sys state (actor.Process c i) ≡ state_in sys (change sys state entry) (actor.Process c i) → ⊥
  process-touched c i of e = ⊎_elim
      (λ at is. process-differs sys state entry can.legal free-taken c i (sym (is-process c i entry here) ∙ at) (ap job_in is))
      (λ cancel is. process-cancels sys state (change sys state entry) knows c i (cancel-some sys (members_of world.system) among within state entry _ (sym (process-cancel-is c i of) ∙ cancel)) (ap job_in is))
      (or_cases (is_at_process world.kept c i entry) (cancels_where world.system world.kept entry (λ t. works_for t (at_process (world.kept.queues c) i))) e)

  process-untouched : (c i : ℕ) → IsProcess sys c i → touches world.system world.kept entry (actor.Process c i) ≡ false → state_in sys state (actor.Process c i) ≡ state_in sys (change sys state entry) (actor.Process c i)
  process-untouched c i of e =
      let both = or_parts (is_at_process world.kept c i entry) (cancels_where world.system world.kept entry (λ t. works_for t (at_process (world.kept.queues c) i))) e in
      ap OfProcess (⊎_elim
      (λ may. process-spared sys state (change sys state entry) knows c i (cancel-none sys (members_of world.system) among within state entry _ may (sym (process-cancel-is c i of) ∙ both.1)))
      (λ plain. process-stays sys state entry can.legal plain c i (sym (is-process c i entry here) ∙ both.0)) (cases_Bool (may_cancel entry)))

  process-there : (c i : ℕ) (o : Option ClassInfo) → slice_get world.system.classes c ≡ o → 1 ≤ i → i ≤ processes_by o → IsProcess sys c i
  process-there c i None none low high = absurd (omega (arith, low, high))
  process-there c i (Some info) is low high = record { there = slice_get_within world.system.classes c info is; from_one = low; within = subst (λ o. i ≤ processes_by o) (sym is) high }

  to-next : (a : Actor) → state_in sys (state_of (pushed world entry)) a ≡ state_in sys (change sys state entry) a
  to-next a = ap (λ (s : State). state_in sys s a) (then-is world books w entry can)

  changes-is : (a : Actor) → IsActor world.system a → touches world.system world.kept entry a ≡ true → state_in sys state a ≡ state_in sys (change sys state entry) a → ⊥
  changes-is (actor.Terminal t) low e = terminal-differs t low e
  changes-is (actor.Process c i) of e = process-touched c i (process-there c i (slice_get world.system.classes c) refl of.0 of.1) e
  changes-is (actor.Pair p) few e = pair-touched p few e
  changes-is (actor.Class c) low e = class-touched c low e

  stays-is : (a : Actor) → IsActor world.system a → touches world.system world.kept entry a ≡ false → state_in sys state a ≡ state_in sys (change sys state entry) a
  stays-is (actor.Terminal t) low e = terminal-stays t low e
  stays-is (actor.Process c i) of e = process-untouched c i (process-there c i (slice_get world.system.classes c) refl of.0 of.1) e
  stays-is (actor.Pair p) few e = pair-untouched p few e
  stays-is (actor.Class c) low e = class-untouched c low e

  pub changes : (a : Actor) → IsActor world.system a → touches world.system world.kept entry a ≡ true → state_in sys state a ≡ state_in sys (state_of (pushed world entry)) a → ⊥
  changes a of e is = changes-is a of e (is ∙ to-next a)

  pub stays : (a : Actor) → IsActor world.system a → touches world.system world.kept entry a ≡ false → state_in sys state a ≡ state_in sys (state_of (pushed world entry)) a
  stays a of e = stays-is a of e ∙ sym (to-next a)

  -- ---- stamps

  abbrev longer : List Event
  longer = world.log ++ entry ∷ []

  long : length longer ≡ length world.log + 1
  long = length-append world.log (entry ∷ [])

  -- before the entry the state is that of the log
  at-before : (a : Actor) (k : ℕ) → k ≤ length world.log → state_at sys longer a k ≡ state_at sys world.log a k
  at-before a k low = ap (λ log. state_in sys (after sys log) a) (take-append-le k world.log (entry ∷ []) low)

  at-log : (a : Actor) → state_at sys world.log a (length world.log) ≡ state_in sys state a
  at-log a = ap (λ log. state_in sys (after sys log) a) (take-length world.log)

  at-end : (a : Actor) → state_at sys longer a (length longer) ≡ state_in sys (state_of (pushed world entry)) a
  at-end a = ap (λ log. state_in sys (after sys log) a) (take-length longer)

  now-stamp : (a : Actor) → IsActor world.system a → touches world.system world.kept entry a ≡ true → IsStamp sys longer a (length world.log + 1)
  now-stamp a of e = record {
    within = omega (arith, long);
    since = λ k low high. let same : k ≡ length longer = omega (arith, low, high, long) in ap (state_at sys longer a) same;
    changed = inr (λ is. changes a of e
        (sym (at-log a)
        ∙ (sym (at-before a (length world.log) (omega arith))
        ∙ ((let one : length world.log ≡ length world.log + 1 - 1 = omega arith in ap (state_at sys longer a) one)
        ∙ (is ∙ (ap (state_at sys longer a) (sym long) ∙ at-end a))))));
  }

  old-stamp : (a : Actor) (n : ℕ) → IsActor world.system a → touches world.system world.kept entry a ≡ false → IsStamp sys world.log a n → IsStamp sys longer a n
  old-stamp a n of e old = record {
    within = let low = old.within in omega (arith, low, long);
    since = λ k low high. ⊎_elim
        (λ below. let few : k ≤ length world.log = omega (arith, below) in
        at-before a k few ∙ (old.since k low few ∙ (at-log a ∙ (stays a of e ∙ sym (at-end a)))))
        (λ above. let same : k ≡ length longer = omega (arith, above, high, long) in ap (state_at sys longer a) same)
        (cases_lt k (length world.log + 1));
    changed = ⊎_elim (λ none. inl none)
        (λ differ.
        let low : n ≤ length world.log = old.within in
        let less : n - 1 ≤ length world.log = omega (arith, low) in
        inr (λ is. differ (sym (at-before a (n - 1) less) ∙ (is ∙ at-before a n low)))) old.changed;
  }

  pub stamps : (a : Actor) → IsActor world.system a → IsStamp sys longer a (stamped world.system world.kept entry (length world.log + 1) books.stamps a)
  stamps a of = by (touches world.system world.kept entry a) refl
    where
      by : (b : Bool) → touches world.system world.kept entry a ≡ b → IsStamp sys longer a (if b then length world.log + 1 else books.stamps a)
      by true e = now-stamp a of e
      by false e = old-stamp a (books.stamps a) of e (w.books.stamps a of)
