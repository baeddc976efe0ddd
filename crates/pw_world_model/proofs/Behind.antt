-- A world behind an entry.
use Rattle.std.proofs.Common.{◌≡◌, ℕ, ◌+◌, ◌<◌, ◌≤◌, List, [], ◌∷◌, ◌++◌, map, length, None, Bool, true, false, refl, sym, ap, subst, ◌∙◌, ◌==◌, ◌&&◌, ⊎_elim, length-append, arith}
use Rattle.std.specs.Prelude.{◌-◌, ◌^◌, IsSome, min, if◌then◌else◌}
use Rattle.std.proofs.lemmas.Bool.{cases_eq, ne_eqb}
use Rattle.pw_base.specs.Outside.{Rose, counted}
use Rattle.pw_class.specs.Queue.{works_for}
use Rattle.pw_event.specs.declared.event.Ending.{Ending}
use Rattle.pw_event.specs.declared.event.Ending.TheVariants.{Stopped, NoEntries, Fault, Suspended, Lost}
use Rattle.pw_event.specs.declared.event.Event.{Event}
use Rattle.pw_event.specs.declared.event.Event.TheVariants.{Show, Key, CheckStart, CheckEnd, CheckCopy, Applied, Begin, Send, Take, File, Reply, Again, Commit, Back, Restart, FailTcp, FailServer, Takeover, Raise, End}
use Rattle.pw_world_state.specs.Changes.{kept_fail_tcp, kept_takeover}
use Rattle.pw_world_state.specs.Entered.{entered}
use Rattle.pw_world_state.specs.Kept.{Kept}
use Rattle.pw_world_state.specs.May.{IsThere}
use Rattle.pw_world_state.specs.Meeting.{IsStepRead}
use Rattle.pw_world_state.specs.Needs.{Needs}
use Rattle.pw_world_state.specs.Read.{AreValued, IsEntryRead, IsReplyRead}
use Rattle.pw_world_state.specs.Stands.{Stands}
use Rattle.pw_world_state.specs.TerminalTests.{is_out}
use Rattle.pw_world_state.proofs.EachEntry.{next-enters}
use Rattle.pw_world_state.proofs.Needed as needed
use Rattle.pw_world_state.proofs.Readings as readings
use Rattle.pw_world_model.specs.Actors.{IsActor}
use Rattle.pw_world_state.specs.Members.{members_of}
use Rattle.pw_world_model.specs.Commits.{commits_in}
use Rattle.pw_world_model.specs.OneSends.{begins_one_send}
use Rattle.pw_world_model.specs.Pushed.{AreMarked, CanPush, booked, live_behind, pushed}
use Rattle.pw_world_model.specs.Seen.{Seen, state_of, sys_of}
use Rattle.pw_world_model.specs.Stamps.{IsStamp}
use Rattle.pw_world_model.specs.Touches.{leaves, stamped}
use Rattle.pw_world_model.specs.Worlds.{Books, IsWorld, live_below}
use Rattle.pw_world_model.proofs.Books.{screens-more, sends-more}
use Rattle.pw_world_model.proofs.Counted.{commits-more, commits-same, commits-within, counted-one}
use Rattle.pw_world_model.proofs.Dues.{next-is}
use Rattle.pw_world_model.proofs.Endings.{live-more, same-live}
use Rattle.pw_world_state.proofs.Members.{members-are}
use Rattle.pw_world_model.proofs.Outs.{out-same}
use Rattle.pw_world_model.proofs.Readies.{ready-stays}
use Rattle.pw_world_model.proofs.Placed as placed
use Rattle.pw_world_model.proofs.Shapes.{IsSameShape, commits-kept, entered-shape}
use Rattle.pw_world_model.proofs.Steps.{owner, there}
use Rattle.pw_onecopy.specs.Behaviour.{Behaviour}
use Rattle.pw_onecopy.specs.declared.refresh.Refresh.{Refresh}
use Rattle.pw_paired.specs.End.{LegalEnd}
use Rattle.pw_paired.specs.Failure.{is_of_pair}
use Rattle.pw_paired.specs.Shown.{refresh_of}
use Rattle.pw_paired.specs.State.{State, starting}
use Rattle.pw_paired.specs.Step.{IsRun, Legal, after, change, effect}
use Rattle.pw_paired.specs.Units as units
use Rattle.pw_actor_queue.specs.declared.actor.Actor.{Actor}
use Rattle.pw_laws.proofs.RunSteps.{IsRunFrom-append, after_from-append}
use Rattle.pw_laws.proofs.induction.Runs.{kept}
use Rattle.pw_laws.proofs.kept.Kept.{Inv}
use Rattle.pw_laws.proofs.steps.Living.{live-ok}
use Rattle.pw_laws.specs.locking.Records.{commits_at}

module _ (world : Seen) (books : Books) (w : IsWorld world books) (entry : Event) (can : CanPush world entry) where
  abbrev sys : Behaviour
  sys = sys_of world

  abbrev state : State
  state = state_of world

  abbrev next : Kept
  next = entered world.system (members_of world.system) entry world.kept

  here : IsThere world.system entry
  here = there world books w entry can.legal

  plain-needs : (e : Event) → IsThere world.system e → IsEntryRead world.system world.kept e → IsReplyRead world.kept e → AreValued world.system world.kept e → Legal sys state e
      → Needs world.system world.script state world.kept e
  plain-needs e low read reply values legal = needed.needs world.system world.script w.valid w.deck world.log w.run world.kept w.stands e low read reply values legal.fits

  needs-of : (e : Event) → IsThere world.system e → IsStepRead world.system world.kept e → IsReplyRead world.kept e → AreValued world.system world.kept e → Legal sys state e
      → Needs world.system world.script state world.kept e
  needs-of (Restart t n cause) low read reply values legal = readings.placed world.system world.script w.valid w.deck world.log w.run t low
  needs-of (End t (Suspended cause)) low read reply values legal = readings.placed world.system world.script w.valid w.deck world.log w.run t low
  needs-of (Show t phase attempt k) low read reply values legal = plain-needs (Show t phase attempt k) low read reply values legal
  needs-of (Key t k) low read reply values legal = plain-needs (Key t k) low read reply values legal
  needs-of (CheckStart t) low read reply values legal = plain-needs (CheckStart t) low read reply values legal
  needs-of (CheckEnd t) low read reply values legal = plain-needs (CheckEnd t) low read reply values legal
  needs-of (CheckCopy t) low read reply values legal = plain-needs (CheckCopy t) low read reply values legal
  needs-of (Applied t) low read reply values legal = plain-needs (Applied t) low read reply values legal
  needs-of (Begin t n r) low read reply values legal = plain-needs (Begin t n r) low read reply values legal
  needs-of (Send t n c) low read reply values legal = plain-needs (Send t n c) low read reply values legal
  needs-of (Take c i t) low read reply values legal = plain-needs (Take c i t) low read reply values legal
  needs-of (File c i op mode f status) low read reply values legal = plain-needs (File c i op mode f status) low read reply values legal
  needs-of (Reply c i t fault) low read reply values legal = plain-needs (Reply c i t fault) low read reply values legal
  needs-of (Again t n) low read reply values legal = plain-needs (Again t n) low read reply values legal
  needs-of (Commit t n) low read reply values legal = plain-needs (Commit t n) low read reply values legal
  needs-of (Back t n) low read reply values legal = plain-needs (Back t n) low read reply values legal
  needs-of (FailTcp p primary k) low read reply values legal = plain-needs (FailTcp p primary k) low read reply values legal
  needs-of (FailServer c i k) low read reply values legal = plain-needs (FailServer c i k) low read reply values legal
  needs-of (Takeover p) low read reply values legal = plain-needs (Takeover p) low read reply values legal
  needs-of (Raise p) low read reply values legal = plain-needs (Raise p) low read reply values legal
  needs-of (End t Stopped) low read reply values legal = plain-needs (End t Stopped) low read reply values legal
  needs-of (End t NoEntries) low read reply values legal = plain-needs (End t NoEntries) low read reply values legal
  needs-of (End t (Fault x)) low read reply values legal = plain-needs (End t (Fault x)) low read reply values legal
  needs-of (End t Lost) low read reply values legal = plain-needs (End t Lost) low read reply values legal

  pub needs : Needs world.system world.script state world.kept entry
  needs = needs-of entry here can.read can.reply can.values can.legal

  pub stands : Stands world.system world.script (after sys (world.log ++ entry ∷ [])) next
  stands = next-enters world.system world.script (members_of world.system) world.log world.kept entry w.deck w.run (members-are world.system) w.stands can.legal needs

  pub run : IsRun sys (world.log ++ entry ∷ [])
  run = IsRunFrom-append sys (starting sys) world.log (entry ∷ []) w.run (can.legal, tt)

  pub then-is : after sys (world.log ++ entry ∷ []) ≡ effect sys state entry
  then-is = after_from-append sys (starting sys) world.log (entry ∷ [])

  shape : IsSameShape (commits-kept world.kept entry) world.kept next
  shape = entered-shape world.system (members_of world.system) entry world.kept

  -- the disc has counted those that commit in the log
  counts : next.disc.commits ≡ commits_in sys (world.log ++ entry ∷ [])
  counts =
      let within = commits-within sys (starting sys) world.log in
      shape.commits
      ∙ (ap (λ (b : Bool). if b then counted world.kept.disc.commits else world.kept.disc.commits) (commits-same world.system world.script state world.kept entry needs)
      ∙ (counted-one (commits_at state entry) world.kept.disc.commits (commits_in sys world.log) w.commits (omega (arith, within, w.room, w.few))
      ∙ sym (commits-more sys (starting sys) world.log entry)))

  inv : Inv sys state
  inv = kept sys w.deck world.log w.run

  -- the lists of members are looked at for failures and takeovers alone, of pairs that are there
  same-members : (members : ℕ → List ℕ) → ((p : ℕ) → p < length world.system.tcps → members p ≡ members_of world.system p) → (e : Event) → IsThere world.system e
      → entered world.system members e world.kept ≡ entered world.system (members_of world.system) e world.kept
  same-members members same (FailTcp p true k) low = ap (λ ts. kept_fail_tcp p true ts world.kept) (same p low)
  same-members members same (FailTcp p false k) low = ap (λ ts. kept_fail_tcp p false ts world.kept) (same p low)
  same-members members same (Takeover p) low = ap (λ ts. kept_takeover p ts world.kept) (same p low)
  same-members members same (Show t phase attempt k) low = refl
  same-members members same (Key t k) low = refl
  same-members members same (CheckStart t) low = refl
  same-members members same (CheckEnd t) low = refl
  same-members members same (CheckCopy t) low = refl
  same-members members same (Applied t) low = refl
  same-members members same (Begin t n r) low = refl
  same-members members same (Send t n c) low = refl
  same-members members same (Take c i t) low = refl
  same-members members same (File c i op mode f status) low = refl
  same-members members same (Reply c i t fault) low = refl
  same-members members same (Again t n) low = refl
  same-members members same (Commit t n) low = refl
  same-members members same (Back t n) low = refl
  same-members members same (Restart t n cause) low = refl
  same-members members same (FailServer c i k) low = refl
  same-members members same (Raise p) low = refl
  same-members members same (End t ending) low = refl

  pub same-entered : entered world.system (λ p. map (λ seat. seat.terminal) (world.kept.pairs p).seats) entry world.kept ≡ next
  same-entered = same-members (λ p. map (λ seat. seat.terminal) (world.kept.pairs p).seats) w.members entry here

  -- ---- a terminal whose request is out stands at its verb

  few-of : (p : ℕ) (primary : Bool) (k : ℕ) → entry ≡ FailTcp p primary k → p < length world.system.tcps
  few-of p primary k is = subst (IsThere world.system) is here

  ready-after : (t : ℕ) → t < length world.system.terminals → units.is_out sys (change sys state entry) t ≡ true → IsSome (world.kept.terminals t).ready
  ready-after t low out = by entry here needs (sym (placed.outs sys w.deck state inv entry can.legal t) ∙ out)
    where
      -- where it was out before
      before : units.is_out sys state t ≡ true → IsSome (world.kept.terminals t).ready
      before old = w.asking t low (out-same world.system world.script state world.kept w.stands t ∙ old)

      unless : (x o : Bool) → (if x then false else o) ≡ true → o ≡ true
      unless true o e = absurd (cc e)
      unless false o e = e

      by : (e : Event) → IsThere world.system e → Needs world.system world.script state world.kept e → placed.out_behind sys state e t (units.is_out sys state t) ≡ true → IsSome (world.kept.terminals t).ready
      by (Send own n c) low need is = ⊎_elim
          (λ same. let at = need.ready in subst (λ v. IsSome (world.kept.terminals v).ready) (sym same) (rw at refl))
          (λ differ. let e = ne_eqb t own differ in before (rw e at is)) (cases_eq t own)
      by (Reply c i own fault) low need is = before (unless (t == own) (units.is_out sys state t) is)
      by (FailServer c i k) low need is = before (unless (works_for t (units.request_in ((state.classes c).busy i))) (units.is_out sys state t) is)
      by (Restart own n cause) low need is = before (unless (t == own) (units.is_out sys state t) is)
      by (FailTcp p primary k) low need is = before (unless (is_of_pair sys p t && placed.loses_in primary (state.modes p)) (units.is_out sys state t) is)
      by (End own ending) low need is = before (unless (t == own && leaves ending) (units.is_out sys state t) is)
      by (Show own phase attempt k) low need is = before is
      by (Key own k) low need is = before is
      by (CheckStart own) low need is = before is
      by (CheckEnd own) low need is = before is
      by (CheckCopy own) low need is = before is
      by (Applied own) low need is = before is
      by (Begin own n r) low need is = before is
      by (Take c i own) low need is = before is
      by (File c i op mode f status) low need is = before is
      by (Again own n) low need is = before is
      by (Commit own n) low need is = before is
      by (Back own n) low need is = before is
      by (Takeover p) low need is = before is
      by (Raise p) low need is = before is

  asking : (t : ℕ) → t < length world.system.terminals → is_out world.system next t ≡ true → IsSome (next.terminals t).ready
  asking t low out =
      let old : units.is_out sys (change sys state entry) t ≡ true = subst (λ s. units.is_out sys s t ≡ true) then-is (sym (out-same world.system world.script (after sys (world.log ++ entry ∷ [])) next stands t) ∙ out) in
      subst IsSome (sym (ready-stays world.system world.script w.deck state inv (members_of world.system) (members-are world.system) world.kept w.stands t low entry can.legal few-of old)) (ready-after t low old)

  -- ---- books

  live-end : (t : ℕ) (ending : Ending) → LegalEnd sys state t ending → (t < length world.system.terminals) × ((state.terms t).ending ≡ None)
  live-end t Stopped l = (l.can.live.known, l.can.live.going_on)
  live-end t NoEntries l = (l.can.live.known, l.can.live.going_on)
  live-end t (Fault x) l = (l.can.live.known, l.can.live.going_on)
  live-end t (Suspended cause) l = (inv.known t l.unit l.caused.is_open, live-ok sys w.deck world.log w.run t l.unit l.caused.is_open)
  live-end t Lost l = (l.live.known, l.live.going_on)

  pub live-of : (t : ℕ) (ending : Ending) → entry ≡ End t ending → (t < length world.system.terminals) × ((state.terms t).ending ≡ None)
  live-of t ending is = live-end t ending (subst (λ e. Legal sys state e) is can.legal).fits

  -- the world behind the entry, with these stamps
  pub world-then : (marked : Actor → Bool) → AreMarked (pushed world entry) marked
      → ((actor : Actor) → IsActor world.system actor → IsStamp sys (world.log ++ entry ∷ []) actor (stamped world.system world.kept entry (length world.log + 1) books.stamps actor))
      → IsWorld (pushed world entry) (booked world entry marked books)
  world-then marked are_marked stamps = record {
    valid = w.valid;
    deck = w.deck;
    run = run;
    room = let room = can.room in let long : length (world.log ++ entry ∷ []) ≡ length world.log + 1 = length-append world.log (entry ∷ []) in omega (arith, room, long);
    few = w.few;
    stands = stands;
    members = λ p few. shape.seats p ∙ w.members p few;
    terminals = shape.terminals ∙ w.terminals;
    files = shape.files ∙ w.files;
    commits = counts;
    lines = w.lines;
    few_lines = w.few_lines;
    asking = asking;
    count = subst (λ n. min world.faults (2 ^ 64 - 1) ≤ n) (sym shape.faults) w.count;
    failed = λ e. subst (Rose world.faults) (sym shape.faults) (w.failed e);
    books = record {
      refreshes = ap (λ (rs : List Refresh). rs ++ refresh_of sys state entry) w.books.refreshes ∙ sym (screens-more sys (starting sys) world.log entry);
      one_sends = ap (λ (bs : List Bool). bs ++ begins_one_send sys state entry ∷ []) w.books.one_sends ∙ sym (sends-more sys (starting sys) world.log entry);
      due = next-is (length world.system.tcps) (length world.system.classes) sys.pair_of world.script world.log books.due w.books.due entry (owner world.system world.script w.deck entry here);
      live = ap (live_behind entry) w.books.live ∙ (live-more sys state entry live-of
          ∙ (sym (same-live sys.terminals (change sys state entry) (effect sys state entry) (λ u low. refl)) ∙ ap (live_below sys.terminals) (sym then-is)));
      stamps = stamps;
      marked = are_marked;
    };
  }
