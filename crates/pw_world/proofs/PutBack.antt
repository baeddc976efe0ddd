-- A world in which a context that had run on is put back is the one before, but for the faults of its disc.
use Rattle.std.proofs.Common.{◌≡◌, ◌∙◌, ℕ, Bool, true, false, Option, Some, None, ap, refl, subst, sym}
use Rattle.std.specs.Prelude.{if◌then◌else◌, IsSome}
use Rattle.pw_class.specs.Queue.{Queue, at_process}
use Rattle.pw_code.specs.declared.context.Context.{Context}
use Rattle.pw_code.specs.declared.system.System.{System}
use Rattle.pw_world_store.specs.Keeps.{IsChanged, KeepState, kept_in}
use Rattle.pw_world_state.specs.Kept.{Kept, KeptTerminal}
use Rattle.pw_world.proofs.Noting.{marks_of}
use Rattle.pw_world.proofs.RanTo.{has-program}
use Rattle.pw_world.specs.Ledgers.{books_of}
use Rattle.pw_world.specs.PutBack.{RanFrom, faulted_as, put_back, ran_back}
use Rattle.pw_world.specs.Running.{HasProgram, ran_to}
use Rattle.pw_world.specs.States.{IsMonitor, WorldState, seen}
use Rattle.pw_world_model.proofs.SameWork.{faulted-stands}
use Rattle.pw_onecopy.proofs.Update.{upd-same}
use Rattle.pw_onecopy.specs.Update.{upd}
use Rattle.pw_world_model.proofs.Outcomes.{process-back, terminal-back, terminal-work}
use Rattle.pw_world_state.specs.Changes.{at_terminal, with_ready}
use Rattle.pw_world_store.specs.Calls.{before_verb}
use Rattle.pw_world_model.specs.Actors.{IsActor}
use Rattle.pw_world_model.specs.Answers.{FailsOnly, run_on}
use Rattle.pw_world_model.specs.Pushed.{AreMarked}
use Rattle.pw_world_model.specs.Seen.{Seen, at_answer, kept_context, work_of}
use Rattle.pw_world_model.specs.Worlds.{Books, IsWorld}
use Rattle.pw_actor_queue.specs.Places.{notes_in}
use Rattle.pw_actor_queue.specs.declared.actor.Actor.{Actor}
use Rattle.pw_actor_queue.specs.declared.actor.Actor.TheVariants as actor
use Rattle.pw_tmf.specs.Told.{Told}

-- ---- work stands at an answer

at-answer : (o : Option Context) (context : Context) → at_answer o ≡ Some context
    → context.at_verb ≡ false
at-answer None context is = absurd (cc is)
at-answer (Some own) context is = by own.at_verb refl is
  where
    by : (b : Bool) → own.at_verb ≡ b → (if b then None else Some own) ≡ Some context
        → context.at_verb ≡ false
    by true e is = absurd (cc is)
    by false e is = let same : own ≡ context = cc is in ap (λ (c : Context). c.at_verb) (sym same) ∙ e

-- to run on changes nothing of the disc
pub run-disc : (a : Actor) (work : Option Context) (kept : Kept) → (run_on a work kept).disc ≡ kept.disc
run-disc (actor.Terminal t) (Some work) kept = refl
run-disc (actor.Process c i) (Some work) kept = refl
run-disc (actor.Pair p) (Some work) kept = refl
run-disc (actor.Class c) (Some work) kept = refl
run-disc (actor.Terminal t) None kept = refl
run-disc (actor.Process c i) None kept = refl
run-disc (actor.Pair p) None kept = refl
run-disc (actor.Class c) None kept = refl

-- ---- faults of the disc

abbrev with_count : ℕ → Kept → Kept
with_count n kept = record kept { disc = record kept.disc { faults = n } }

abbrev faulted : Bool → ℕ → Seen → Seen
faulted failed n world = record world { failed = failed; kept = with_count n world.kept }

-- a world behind the same log as another, with the faults and the books of that
faulted-world : (world : Seen) (books : Books) (kept : Kept) (failed : Bool) (n : ℕ) (own : Books)
    (marked : Actor → Bool) → IsWorld world books
    → IsWorld (faulted failed n (record world { kept = kept })) own
    → AreMarked (faulted failed n world) marked
    → IsWorld (faulted failed n world) (record own { marked = marked })
faulted-world world books kept failed n own marked w other are = record {
  valid = w.valid;
  deck = w.deck;
  run = w.run;
  room = w.room;
  few = w.few;
  stands = faulted-stands world books w n;
  members = w.members;
  terminals = w.terminals;
  files = w.files;
  commits = w.commits;
  lines = w.lines;
  few_lines = w.few_lines;
  asking = w.asking;
  count = other.count;
  failed = other.failed;
  books = record {
    refreshes = other.books.refreshes;
    one_sends = other.books.one_sends;
    due = other.books.due;
    live = other.books.live;
    stamps = other.books.stamps;
    marked = are;
  };
}

-- ---- the context is put back

module _ (before now : Seen) (a : Actor) (given : Context) (ran : RanFrom before now a given) where
  system-is : now.system ≡ before.system
  system-is = ap (λ (world : Seen). world.system) ran.is

  pub actor-now : IsActor before.system a → IsActor now.system a
  actor-now of = subst (λ (s : System). IsActor s a) (sym system-is) of

  queues-are : now.kept.queues ≡ (run_on a (Some ran.work) before.kept).queues
  queues-are = ap (λ (world : Seen). world.kept.queues) ran.is

  actor-there : IsActor now.system a → IsActor before.system a
  actor-there of = subst (λ (s : System). IsActor s a) system-is of

  same-program : (b : Actor) → HasProgram before.system before.kept b
      → (run_on b (Some ran.work) before.kept).queues ≡ now.kept.queues → HasProgram now.system now.kept b
  same-program (actor.Terminal t) of queues =
      subst (λ (s : System). HasProgram s now.kept (actor.Terminal t)) (sym system-is) of
  same-program (actor.Process c i) of queues =
      subst (λ (s : System). HasProgram s now.kept (actor.Process c i)) (sym system-is)
      (of.0, subst (λ (qs : ℕ → Queue). IsSome (at_process (qs c) i)) queues of.1)
  same-program (actor.Pair p) of queues = absurd of
  same-program (actor.Class c) of queues = absurd of

  pub back-program : IsActor now.system a → HasProgram now.system now.kept a
  back-program of =
      same-program a (has-program before ran.books ran.world a given (actor-there of) ran.was)
      (sym queues-are)

  pub back-answer : given.at_verb ≡ false
  back-answer = at-answer (kept_context before.kept a) given ran.was

  kept-back : (b : Actor) (d : Told) → IsActor before.system b → work_of before b ≡ Some given
      → put_back b given (record (run_on b (Some ran.work) before.kept) { disc = d })
      ≡ record before.kept { disc = d }
  kept-back (actor.Terminal t) d of was =
      ap (λ (kept : Kept). record kept { disc = d })
      (terminal-back before ran.books ran.world t given ran.work of was)
  kept-back (actor.Process c i) d of was =
      ap (λ (kept : Kept). record kept { disc = d })
      (process-back before ran.books ran.world c i given ran.work was)
  kept-back (actor.Pair p) d of was = absurd (cc was)
  kept-back (actor.Class c) d of was = absurd (cc was)

  abbrev count : ℕ
  count = now.kept.disc.faults

  abbrev told : Told
  told = record before.kept.disc { faults = count }

  now-is : now ≡ record before {
    failed = now.failed;
    kept = record (run_on a (Some ran.work) before.kept) { disc = told };
  }
  now-is = ran.is
      ∙ ap (λ (d : Told). record before {
        failed = now.failed;
        kept = record (run_on a (Some ran.work) before.kept) { disc = record d { faults = count } };
      }) (run-disc a (Some ran.work) before.kept)

  -- it is the world before, with the faults of now
  pub back-is : IsActor now.system a → ran_back a given now ≡ faulted_as now before
  back-is of =
      ap (ran_back a given) now-is
      ∙ ap (λ (kept : Kept). record before { failed = now.failed; kept = kept })
      (kept-back a told (actor-there of) ran.was)

  pub back-world : (own : Books) (marked : Actor → Bool) → IsActor now.system a → IsWorld now own
      → AreMarked (ran_back a given now) marked
      → IsWorld (ran_back a given now) (record own { marked = marked })
  back-world own marked of w are =
      let same = back-is of in
      let mid = subst (λ (world : Seen). IsWorld world own) ran.is w in
      let marks = subst (λ (world : Seen). AreMarked world marked) same are in
      subst (λ (world : Seen). IsWorld world (record own { marked = marked })) (sym same)
      (faulted-world before ran.books (run_on a (Some ran.work) before.kept) now.failed count own marked
      ran.world mid marks)

-- ---- what has run on is so still where the disc fails

pub ran-as : (before now : Seen) (books : Books) (a : Actor) (given work : Context)
    → IsWorld before books → work_of before a ≡ Some given → now ≡ ran_to a work before
    → RanFrom before now a given
ran-as before now books a given work w was is = record {
  books = books;
  world = w;
  was = was;
  work = work;
  is = subst (λ (world : Seen). world ≡ faulted_as world (ran_to a work before)) (sym is) refl;
}

pub ran-still : (before world now : Seen) (a : Actor) (given : Context)
    → RanFrom before world a given → FailsOnly world now → RanFrom before now a given
ran-still before world now a given ran fails = record {
  books = ran.books;
  world = ran.world;
  was = ran.was;
  work = ran.work;
  is = fails.rest
      ∙ ap (λ (w : Seen). faulted true now.kept.disc.faults w) ran.is
      ∙ ap (λ b. faulted b now.kept.disc.faults (ran_to a ran.work before))
      (sym (ap (λ (w : Seen). w.failed) fails.rest));
}

-- ---- a world over a disc

pub back-seen : {D : Type 0} (told : D → Told) (w : WorldState D) (k : KeepState D) (a : Actor)
    (given : Context) → IsChanged told (put_back a given) w.keep k
    → seen told (record w { keep = k }) ≡ ran_back a given (seen told w)
back-seen told w k a given changed =
    ap (λ (s : System). record (seen told w) { system = s; kept = kept_in told k }) changed.system
    ∙ ap (λ (kept : Kept). record (seen told w) { kept = kept }) changed.kept

pub back-monitor : {D : Type 0} (told : D → Told) (w : WorldState D) (k : KeepState D) (before : Seen)
    (a : Actor) (given : Context)
    → IsMonitor told w → IsActor w.keep.system a → RanFrom before (seen told w) a given
    → ((other : Actor) → IsActor w.keep.system other → marks_of (notes_in w.ledger.notes) other ≡ true)
    → IsChanged told (put_back a given) w.keep k → IsMonitor told (record w { keep = k })
back-monitor told w k before a given m of ran marked changed =
    subst (λ (world : Seen). IsWorld world (books_of w.ledger)) (sym (back-seen told w k a given changed))
    (back-world before (seen told w) a given ran (books_of w.ledger) (marks_of (notes_in w.ledger.notes)) of m
    (λ other known may. marked other known))

-- ---- a terminal stands at its last answer again

left-is : (kept : Kept) (t : ℕ) (given : Context) → (kept.terminals t).context ≡ Some given
    → at_terminal t before_verb kept ≡ put_back (actor.Terminal t) given kept
left-is kept t given is =
    ap (λ c. record kept { terminals = upd kept.terminals t (record (kept.terminals t) { context = c; ready = None }) }) is

-- a terminal that has run on keeps the context from which it ran
keeps-given : (before now : Seen) (t : ℕ) (given : Context) → IsActor before.system (actor.Terminal t)
    → RanFrom before now (actor.Terminal t) given → (now.kept.terminals t).context ≡ Some given
keeps-given before now t given of ran =
    ap (λ (w : Seen). (w.kept.terminals t).context) ran.is
    ∙ ap (λ (own : KeptTerminal). own.context) (upd-same before.kept.terminals t (with_ready ran.work (before.kept.terminals t)) t refl)
    ∙ (terminal-work before ran.books ran.world t given of ran.was).0

pub left-changed : {D : Type 0} (told : D → Told) (w : WorldState D) (k : KeepState D) (before : Seen) (t : ℕ) (given : Context)
    → IsActor w.keep.system (actor.Terminal t) → RanFrom before (seen told w) (actor.Terminal t) given
    → IsChanged told (at_terminal t before_verb) w.keep k → IsChanged told (put_back (actor.Terminal t) given) w.keep k
left-changed told w k before t given of ran changed = record {
  system = changed.system;
  kept = changed.kept ∙ left-is (kept_in told w.keep) t given
      (keeps-given before (seen told w) t given (actor-there before (seen told w) (actor.Terminal t) given ran of) ran);
}
