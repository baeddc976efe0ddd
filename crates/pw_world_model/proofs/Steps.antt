-- Which entries of a world are steps, and whose.
use Rattle.std.proofs.Common.{◌≡◌, ℕ, ◌<◌, ◌≤◌, List, [], length, true, false, Option, Some, None, refl, sym, ap, subst, ◌∙◌, arith}
use Rattle.std.specs.Prelude.{nat_lt, nat_le, slice_get}
use Rattle.std.proofs.lemmas.Bool.{le-leb, lt-ltb}
use Rattle.std.proofs.lemmas.Option.{get_or_from_slice_get, slice_get_within}
use Rattle.pw_code.specs.Valid.{IsClass, IsValid}
use Rattle.pw_code.specs.declared.system.ClassInfo.{ClassInfo}
use Rattle.pw_code.specs.declared.system.System.{System}
use Rattle.pw_event.specs.Due.{owner_of}
use Rattle.pw_event.specs.declared.event.Ending.TheVariants.{Stopped, NoEntries, Fault, Suspended, Lost}
use Rattle.pw_event.specs.declared.event.Event.{Event}
use Rattle.pw_event.specs.declared.event.Event.TheVariants.{Show, Key, CheckStart, CheckEnd, CheckCopy, Applied, Begin, Send, Take, File, Reply, Again, Commit, Back, Restart, FailTcp, FailServer, Takeover, Raise, End}
use Rattle.pw_event.specs.declared.script.FailLine.{FailLine}
use Rattle.pw_code_meaning.specs.OfSystem.{behaviour, processes_by}
use Rattle.pw_world_state.specs.Kept.{Kept}
use Rattle.pw_world_state.specs.May.{IsThere, may}
use Rattle.pw_world_state.specs.Meeting.{IsStepRead, StepShows}
use Rattle.pw_world_state.specs.Read.{AreValued, IsEntryRead}
use Rattle.pw_world_state.proofs.Legally.{legal-may, may-legal}
use Rattle.pw_world_state.proofs.Showing.{may-shows, shows-may}
use Rattle.pw_world_state.proofs.There.{legal-there}
use Rattle.pw_world_model.specs.Actors.{IsActor, actor_of}
use Rattle.pw_world_model.specs.Dues.{IsOwner, due_in}
use Rattle.pw_world_model.specs.Enabled.{IsEnabled}
use Rattle.pw_world_model.specs.Seen.{Seen, finished, state_of, sys_of}
use Rattle.pw_world_model.specs.Worlds.{Books, IsWorld}
use Rattle.pw_world_model.proofs.Dues.{due-is}
use Rattle.pw_onecopy.specs.IsBehaviour.{IsBehaviour}
use Rattle.pw_paired.specs.State.{starting}
use Rattle.pw_paired.specs.Step.{Legal, line_due, line_wanted}
use Rattle.pw_actor_queue.specs.Places.{is_placed}
use Rattle.pw_actor_queue.specs.declared.actor.Actor.{Actor}
use Rattle.pw_actor_queue.specs.declared.actor.Actor.TheVariants as actor
use Rattle.pw_laws.specs.serial.Guarded.{is_fail}
use Rattle.pw_laws.proofs.restarts.Few.{log-from}

-- ---- owners and actors

module _ (system : System) (script : List FailLine) (b : IsBehaviour (behaviour script system)) where
  pub owner : (entry : Event) → IsThere system entry → IsOwner (length system.tcps) (length system.classes) (owner_of (behaviour script system).pair_of entry)
  owner (Show t phase attempt k) low = b.pairs t low
  owner (Key t k) low = b.pairs t low
  owner (CheckStart t) low = b.pairs t low
  owner (CheckEnd t) low = b.pairs t low
  owner (CheckCopy t) low = b.pairs t low
  owner (Applied t) low = b.pairs t low
  owner (Begin t n r) low = b.pairs t low
  owner (Send t n c) low = b.pairs t low
  owner (Take c i t) low = low
  owner (File c i op mode f status) of = of.class
  owner (Reply c i t fault) of = of.class
  owner (Again t n) low = b.pairs t low
  owner (Commit t n) low = b.pairs t low
  owner (Back t n) low = b.pairs t low
  owner (Restart t n cause) low = b.pairs t low
  owner (FailTcp p primary k) low = low
  owner (FailServer c i k) of = of.class
  owner (Takeover p) low = low
  owner (Raise p) low = low
  owner (End t ending) low = b.pairs t low

  pub acts : (entry : Event) → IsThere system entry → IsActor system (actor_of (behaviour script system) entry)
  acts (Show t phase attempt k) low = low
  acts (Key t k) low = low
  acts (CheckStart t) low = low
  acts (CheckEnd t) low = low
  acts (CheckCopy t) low = b.pairs t low
  acts (Applied t) low = b.pairs t low
  acts (Begin t n r) low = low
  acts (Send t n c) low = low
  acts (Take c i t) low = low
  acts (File c i op mode f status) of = (of.low, of.high)
  acts (Reply c i t fault) of = (of.low, of.high)
  acts (Again t n) low = low
  acts (Commit t n) low = low
  acts (Back t n) low = low
  acts (Restart t n cause) low = low
  acts (FailTcp p primary k) low = low
  acts (FailServer c i k) of = of.class
  acts (Takeover p) low = low
  acts (Raise p) low = low
  acts (End t ending) low = low

-- each actor has a place
process-placed : (system : System) → IsValid system → (c i : ℕ) (o : Option ClassInfo) → slice_get system.classes c ≡ o → 1 ≤ i → i ≤ processes_by o → is_placed (actor.Process c i) ≡ true
process-placed system valid c i None is low high = absurd (omega (arith, low, high))
process-placed system valid c i (Some info) is low high =
    let within : c < length system.classes = slice_get_within system.classes c info is in
    let few = valid.few.classes in
    let some : info.processes ≤ 16 = (subst (IsClass system) (get_or_from_slice_get system.classes c info info is) (valid.classes c info within)).few in
    let one : nat_lt c 16 ≡ true = lt-ltb c 16 (omega (arith, within, few)) in
    let two : nat_le 1 i ≡ true = le-leb 1 i low in
    let three : nat_le i 16 ≡ true = le-leb i 16 (omega (arith, high, some)) in
    rw (one, two, three) refl

pub placed : (system : System) → IsValid system → (actor : Actor) → IsActor system actor → is_placed actor ≡ true
placed system valid (actor.Terminal t) low = let few = valid.few.terminals in lt-ltb t 128 (omega (arith, low, few))
placed system valid (actor.Process c i) of = process-placed system valid c i (slice_get system.classes c) refl of.0 of.1
placed system valid (actor.Pair p) low = let few = valid.few.tcps in lt-ltb p 8 (omega (arith, low, few))
placed system valid (actor.Class c) low = let few = valid.few.classes in lt-ltb c 16 (omega (arith, low, few))

-- the script is not asked for an entry that is no FAIL entry
pub may-scripted : (system : System) (script : List FailLine) (kept : Kept) (entry : Event) → is_fail entry ≡ false → may system [] kept entry ≡ may system script kept entry
may-scripted system script kept (FailTcp p primary k) plain = absurd (cc plain)
may-scripted system script kept (FailServer c i k) plain = absurd (cc plain)
may-scripted system script kept (Show t phase attempt k) plain = refl
may-scripted system script kept (Key t k) plain = refl
may-scripted system script kept (CheckStart t) plain = refl
may-scripted system script kept (CheckEnd t) plain = refl
may-scripted system script kept (CheckCopy t) plain = refl
may-scripted system script kept (Applied t) plain = refl
may-scripted system script kept (Begin t n r) plain = refl
may-scripted system script kept (Send t n c) plain = refl
may-scripted system script kept (Take c i t) plain = refl
may-scripted system script kept (File c i op mode f status) plain = refl
may-scripted system script kept (Reply c i t fault) plain = refl
may-scripted system script kept (Again t n) plain = refl
may-scripted system script kept (Commit t n) plain = refl
may-scripted system script kept (Back t n) plain = refl
may-scripted system script kept (Restart t n cause) plain = refl
may-scripted system script kept (Takeover p) plain = refl
may-scripted system script kept (Raise p) plain = refl
may-scripted system script kept (End t Stopped) plain = refl
may-scripted system script kept (End t NoEntries) plain = refl
may-scripted system script kept (End t (Fault x)) plain = refl
may-scripted system script kept (End t (Suspended cause)) plain = refl
may-scripted system script kept (End t Lost) plain = refl

-- ---- steps

module _ (world : Seen) (books : Books) (w : IsWorld world books) where
  pub there : (entry : Event) → Legal (sys_of world) (state_of world) entry → IsThere world.system entry
  there entry legal = legal-there world.system world.script world.log entry w.deck w.lines w.run legal

  -- the book of failure lines says which one is due
  pub due-same : (entry : Event) → IsThere world.system entry → due_in books.due (owner_of (sys_of world).pair_of entry) ≡ line_due (sys_of world) (state_of world) entry
  due-same entry low =
      due-is (length world.system.tcps) (length world.system.classes) (sys_of world).pair_of world.script world.log books.due w.books.due
      (owner_of (sys_of world).pair_of entry) (owner world.system world.script w.deck entry low)
      ∙ ap (λ log. line_due (sys_of world) (record (state_of world) { log = log }) entry) (sym (log-from (sys_of world) (starting (sys_of world)) world.log))

  pub is-legal : (entry : Event) → IsThere world.system entry → IsEntryRead world.system world.kept entry → AreValued world.system world.kept entry → finished world ≡ false
      → due_in books.due (owner_of (sys_of world).pair_of entry) ≡ line_wanted entry → may world.system world.script world.kept entry ≡ true → Legal (sys_of world) (state_of world) entry
  is-legal entry low read values unfinished due passes =
      may-legal world.system world.script world.log world.kept entry w.valid w.deck w.run w.stands low read values unfinished (sym (due-same entry low) ∙ due) passes

  pub shows : (entry : Event) → IsThere world.system entry → IsStepRead world.system world.kept entry → AreValued world.system world.kept entry → finished world ≡ false
      → due_in books.due (owner_of (sys_of world).pair_of entry) ≡ line_wanted entry → may world.system world.script world.kept entry ≡ true → IsEnabled world (actor_of (sys_of world) entry) entry
  shows entry low read values unfinished due passes =
      let both = may-shows world.system world.script world.log world.kept w.valid w.deck w.run w.stands entry low read values unfinished (sym (due-same entry low) ∙ due) passes in
      record { legal = both.0; at_verb = both.1; own = refl }

  pub passes-shown : (entry : Event) → IsStepRead world.system world.kept entry → AreValued world.system world.kept entry → Legal (sys_of world) (state_of world) entry
      → StepShows (sys_of world) (state_of world) world.kept entry → may world.system world.script world.kept entry ≡ true
  passes-shown entry read values legal shows = shows-may world.system world.script world.log world.kept w.valid w.deck w.run w.stands entry (there entry legal) read values legal shows

  pub passes : (entry : Event) → IsEntryRead world.system world.kept entry → AreValued world.system world.kept entry → Legal (sys_of world) (state_of world) entry → may world.system world.script world.kept entry ≡ true
  passes entry read values legal = legal-may world.system world.script world.log world.kept entry w.valid w.deck w.run w.stands (there entry legal) read values legal
