-- The steps that are found of an actor are those of its world.
use Rattle.std.proofs.Common.{◌≡◌, ◌∙◌, ℕ, zero, suc, ◌+◌, ◌<◌, ◌≤◌, ◌==◌, length, List, [], ◌∷◌, Option, Some, None, Bool, true, false, filter, find, refl, sym, ap, subst, inl, inr, arith}
use Rattle.std.proofs.lemmas.Bool.{eq-eqb, eqb-true}
use Rattle.std.proofs.lemmas.Option.{slice_get_within}
use Rattle.std.specs.Prelude.{◌-◌, nat_le, if◌then◌else◌, slice_get}
use Rattle.pw_code.specs.declared.system.ClassInfo.{ClassInfo}
use Rattle.pw_code.specs.declared.system.System.{System}
use Rattle.pw_event.specs.Due.{after_of, owner_of}
use Rattle.pw_event.specs.declared.event.Event.{Event}
use Rattle.pw_event.specs.declared.event.Event.TheVariants.{Show, Key, CheckStart, CheckEnd, CheckCopy, Applied, Begin, Send, Take, File, Reply, Again, Commit, Back, Restart, FailTcp, FailServer, Takeover, Raise, End}
use Rattle.pw_event.specs.declared.script.FailLine.{FailLine}
use Rattle.pw_event.specs.declared.script.FailLine.TheVariants as line
use Rattle.pw_event.specs.declared.script.Owner.{Owner}
use Rattle.pw_code_meaning.specs.OfSystem.{behaviour, processes_by}
use Rattle.pw_world.specs.Found.{FindsStep, IsFound}
use Rattle.pw_world.specs.Owners.{fail_entry, owner_in}
use Rattle.pw_world_model.proofs.Failures.{only-fails, server-fails, tcp-fails}
use Rattle.pw_world_model.proofs.Idle.{reply-read}
use Rattle.pw_world_model.specs.Actors.{IsActor, actor_of}
use Rattle.pw_world_model.specs.Dues.{DueBook, IsOwner, due_in, if_due, is_line_of, open_behind, opened_from}
use Rattle.pw_world_model.specs.Enabled.{HasEnabledStep}
use Rattle.pw_world_model.specs.Failures.{FailsBy}
use Rattle.pw_world_model.specs.Seen.{Seen, finished, sys_of, work_of}
use Rattle.pw_world_model.specs.Worlds.{Books, IsWorld}
use Rattle.pw_world_model.specs.declared.due.OpenLine.{OpenLine}
use Rattle.pw_onecopy.specs.IsBehaviour.{IsBehaviour}
use Rattle.pw_paired.specs.Failure.{fail_line}
use Rattle.pw_actor_queue.specs.declared.actor.Actor.{Actor}
use Rattle.pw_actor_queue.specs.declared.actor.Actor.TheVariants as actor
use Rattle.pw_entry_tests.specs.Actors.{IsActorIn}
use Rattle.pw_entry_tests.specs.Steps.{IsStepFound}
use Rattle.pw_world.proofs.FoundEnabled.{all-unbuilt, none-has, some-shows}
use Rattle.pw_world.specs.OwnValues.{HasOwnValues}
use Rattle.pw_world.specs.Undue.{IsUndue}

-- ---- actors

pub same-in : (system : System) (a : Actor) → IsActor system a → IsActorIn system a
same-in system (actor.Terminal t) of = of
same-in system (actor.Process c i) of = of
same-in system (actor.Pair p) of = of
same-in system (actor.Class c) of = of

-- a class with a process of this number is there
class-there : (system : System) (c i : ℕ) (o : Option ClassInfo) → slice_get system.classes c ≡ o → 1 ≤ i
    → i ≤ processes_by o → c < length system.classes
class-there system c i None none low high = absurd (omega (arith, low, high))
class-there system c i (Some info) some low high = slice_get_within system.classes c info some

-- an actor's entries belong to a pair or class of the system
pub owner-there : (system : System) (script : List FailLine) (a : Actor)
    → IsBehaviour (behaviour script system) → IsActor system a
    → IsOwner (length system.tcps) (length system.classes) (owner_in system a)
owner-there system script (actor.Terminal t) b of = b.pairs t of
owner-there system script (actor.Process c i) b of =
    class-there system c i (slice_get system.classes c) refl of.0 of.1
owner-there system script (actor.Pair p) b of = of
owner-there system script (actor.Class c) b of = of

-- an entry belongs to whom its actor's entries do
owner-same : (system : System) (script : List FailLine) (entry : Event)
    → owner_of (behaviour script system).pair_of entry
    ≡ owner_in system (actor_of (behaviour script system) entry)
owner-same system script (Show t phase attempt k) = refl
owner-same system script (Key t k) = refl
owner-same system script (CheckStart t) = refl
owner-same system script (CheckEnd t) = refl
owner-same system script (CheckCopy t) = refl
owner-same system script (Applied t) = refl
owner-same system script (Begin t n r) = refl
owner-same system script (Send t n c) = refl
owner-same system script (Take c i t) = refl
owner-same system script (File c i op mode f status) = refl
owner-same system script (Reply c i t fault) = refl
owner-same system script (Again t n) = refl
owner-same system script (Commit t n) = refl
owner-same system script (Back t n) = refl
owner-same system script (Restart t n cause) = refl
owner-same system script (FailTcp p primary k) = refl
owner-same system script (FailServer c i k) = refl
owner-same system script (Takeover p) = refl
owner-same system script (Raise p) = refl
owner-same system script (End t ending) = refl

due-same : (world : Seen) (book : DueBook) (a : Actor) (entry : Event)
    → actor_of (sys_of world) entry ≡ a
    → due_in book (owner_of (sys_of world).pair_of entry) ≡ due_in book (owner_in world.system a)
due-same world book a entry own =
    ap (due_in book) (owner-same world.system world.script entry ∙ ap (owner_in world.system) own)

-- ---- lines count from 1

opened-low : (test waits : OpenLine → Bool) (k : ℕ) (lines : List FailLine) (one : OpenLine)
    → find test (filter waits (opened_from k lines)) ≡ Some one → k ≤ one.number
opened-low test waits k [] one found = absurd (cc found)
opened-low test waits k (own ∷ lines) one found =
    by (waits head) (test head) refl refl (opened-low test waits (k + 1) lines one)
  where
    head : OpenLine
    head = record { number = k; line = own }

    by : (a b : Bool) → waits head ≡ a → test head ≡ b
        → (find test (filter waits (opened_from (k + 1) lines)) ≡ Some one → k + 1 ≤ one.number)
        → k ≤ one.number
    by false b shut there later = let rest = later (rw shut at found) in omega (arith, rest)
    by true true is there later =
        let first : Some head ≡ Some one = rw (is, there) at found in
        let same : head ≡ one = cc first in
        let at : one.number ≡ k = ap (λ (x : OpenLine). x.number) (sym same) in
        omega (arith, at)
    by true false is other later = let rest = later (rw (is, other) at found) in omega (arith, rest)

abbrev IsNumbered : Option OpenLine → ℕ → Type 0
IsNumbered o k = (one : OpenLine) × ((o ≡ Some one) × (one.number ≡ k))

if-due-is : (entries k : ℕ) (o : Option OpenLine) → if_due entries o ≡ Some k → IsNumbered o k
if-due-is entries k None due = absurd (cc due)
if-due-is entries k (Some one) due = by (nat_le (after_of one.line) entries) due
  where
    by : (b : Bool) → (if b then Some one.number else None) ≡ Some k → IsNumbered (Some one) k
    by true due = (one, (refl, cc due))
    by false due = absurd (cc due)

pub due-low : (world : Seen) (books : Books) (owner : Owner) (k : ℕ) → IsWorld world books
    → due_in books.due owner ≡ Some k → 1 ≤ k
due-low world books owner k w due =
    let found = if-due-is _ k (find (is_line_of owner) books.due.waiting) due in
    let first : find (is_line_of owner) (open_behind world.script world.log) ≡ Some found.0 =
    ap (find (is_line_of owner)) (sym w.books.due.waiting_is) ∙ found.1.0 in
    subst (λ n. 1 ≤ n) found.1.1 (opened-low (is_line_of owner) _ 1 world.script found.0 first)

-- ---- a failure line is due

plain-some : {X : Type 0} (b : Bool) (x y : X) → (if b then Some x else None) ≡ Some y
    → (b ≡ true) × (x ≡ y)
plain-some true x y is = (refl, cc is)
plain-some false x y is = absurd (cc is)

module _ (world : Seen) (books : Books) (w : IsWorld world books) (a : Actor) (k : ℕ)
    (unfinished : finished world ≡ false)
    (due : due_in books.due (owner_in world.system a) ≡ Some k) where
  due-at : (b : Actor) → a ≡ b → due_in books.due (owner_in world.system b) ≡ Some k
  due-at b is = subst (λ (c : Actor). due_in books.due (owner_in world.system c) ≡ Some k) is due

  -- the actor's FAIL entry is the one of the line
  fails-entry : (entry : Event) → FailsBy world k a entry
      → fail_entry k (fail_line world.script k) a ≡ Some entry
  fails-entry entry (inl t) =
      let same : (t.p == t.p) ≡ true = eq-eqb t.p t.p refl in
      rw (t.names, t.actor_is, t.entry_is, same) refl
  fails-entry entry (inr s) =
      let same : (s.class == s.class) ≡ true = eq-eqb s.class s.class refl in
      rw (s.names, s.actor_is, s.entry_is, same) refl

  no-fail : fail_entry k (fail_line world.script k) a ≡ None → ¬ HasEnabledStep world a
  no-fail none has =
      let by = only-fails world books w a has.0 k has.1 (due-same world books.due a has.0 has.1.own ∙ due) in
      let clash = fails-entry has.0 by in
      absurd (cc (none, clash))

  some-fail : (l : Option FailLine) (b : Actor) (entry : Event) → fail_line world.script k ≡ l → a ≡ b
      → fail_entry k l b ≡ Some entry → IsFound world b entry
  some-fail (Some (line.Tcp p primary after)) (actor.Pair q) entry names is found =
      let both = plain-some (p == q) (FailTcp p primary k) entry found in
      let same : p ≡ q = eqb-true p q both.0 in
      let due_here = due-at (actor.Pair p) (is ∙ ap actor.Pair (sym same)) in
      subst (λ r. IsFound world (actor.Pair r) entry) same
      (subst (IsFound world (actor.Pair p)) both.1 (record {
        enabled = tcp-fails world books w p k after primary unfinished due_here names;
        read = tt;
        reply = tt;
        last = λ waits. absurd waits;
      }))
  some-fail (Some (line.Server c i after)) (actor.Class d) entry names is found =
      let both = plain-some (c == d) (FailServer c i k) entry found in
      let same : c ≡ d = eqb-true c d both.0 in
      let due_here = due-at (actor.Class c) (is ∙ ap actor.Class (sym same)) in
      subst (λ e. IsFound world (actor.Class e) entry) same
      (subst (IsFound world (actor.Class c)) both.1 (record {
        enabled = server-fails world books w c i k after unfinished due_here names;
        read = tt;
        reply = tt;
        last = λ waits. absurd waits;
      }))
  some-fail (Some (line.Tcp p primary after)) (actor.Terminal t) entry names is found = absurd (cc found)
  some-fail (Some (line.Tcp p primary after)) (actor.Process c i) entry names is found = absurd (cc found)
  some-fail (Some (line.Tcp p primary after)) (actor.Class c) entry names is found = absurd (cc found)
  some-fail (Some (line.Server c i after)) (actor.Terminal t) entry names is found = absurd (cc found)
  some-fail (Some (line.Server c i after)) (actor.Process d j) entry names is found = absurd (cc found)
  some-fail (Some (line.Server c i after)) (actor.Pair p) entry names is found = absurd (cc found)
  some-fail None (actor.Terminal t) entry names is found = absurd (cc found)
  some-fail None (actor.Process c i) entry names is found = absurd (cc found)
  some-fail None (actor.Pair p) entry names is found = absurd (cc found)
  some-fail None (actor.Class c) entry names is found = absurd (cc found)

  by-line : (result : Option Event) → result ≡ fail_entry k (fail_line world.script k) a
      → FindsStep world a result
  by-line None is = no-fail (sym is)
  by-line (Some entry) is = some-fail (fail_line world.script k) a entry refl refl (sym is)

  -- a line counts from 1, and lists from 0
  line-at : (n : ℕ) → 1 ≤ n → slice_get world.script (n - 1) ≡ fail_line world.script n
  line-at zero low = absurd (omega (arith, low))
  line-at (suc n) low = let same : suc n - 1 ≡ n = omega arith in ap (slice_get world.script) same

  pub fail-found : (result : Option Event) → result ≡ fail_entry k (slice_get world.script (k - 1)) a
      → FindsStep world a result
  fail-found result is =
      let low = due-low world books (owner_in world.system a) k w due in
      by-line result (is ∙ ap (λ l. fail_entry k l a) (line-at k low))

-- ---- no failure line is due

module _ (world : Seen) (books : Books) (w : IsWorld world books) (a : Actor)
    (unfinished : finished world ≡ false) (none : work_of world a ≡ None)
    (free : due_in books.due (owner_in world.system a) ≡ None) (values : HasOwnValues world.kept a) where
  undue : IsUndue world books a
  undue entry own = due-same world books.due a entry own ∙ free

  pub plain-found : (result : Option Event) → IsStepFound world.system world.kept a result
      → FindsStep world a result
  plain-found None found = λ has. none-has world books w a undue none values found has
  plain-found (Some entry) found =
      let enabled = some-shows world books w a entry undue unfinished values found.0 in
      record {
        enabled = enabled;
        read = found.0.read;
        reply = reply-read world books w entry enabled.legal;
        last = λ waits. all-unbuilt world books w a entry undue none values found enabled waits;
      }
