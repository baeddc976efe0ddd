-- A world that is changed beside its log: a fault was answered, actors are out or marked, or a message is built.
use Rattle.std.proofs.Common.{◌≡◌, ℕ, ◌≤◌, map, length, Bool, true, inl, inr, refl, sym, ap, subst, ◌∙◌, ⊎_elim, arith}
use Rattle.std.specs.Prelude.{◌-◌, ◌^◌, IsSome, min}
use Rattle.pw_base.specs.Outside.{Rose}
use Rattle.pw_class.specs.Queue.{has_request}
use Rattle.pw_code.specs.declared.unit.Unit as unit
use Rattle.pw_event.specs.declared.event.Cause.{Cause}
use Rattle.pw_event.specs.declared.event.Cause.TheVariants as cause
use Rattle.pw_event.specs.declared.event.Ending.TheVariants.{Stopped, NoEntries, Fault, Suspended, Lost}
use Rattle.pw_event.specs.declared.event.Event.{Event}
use Rattle.pw_event.specs.declared.event.Event.TheVariants.{Show, Key, CheckStart, CheckEnd, CheckCopy, Applied, Begin, Send, Take, File, Reply, Again, Commit, Back, Restart, FailTcp, FailServer, Takeover, Raise, End}
use Rattle.pw_world_state.specs.Changes.{at_pair}
use Rattle.pw_world_state.specs.Kept.{Kept, KeptTerminal}
use Rattle.pw_world_state.specs.Meeting.{MeetsAtVerb, ShowsAtVerb, StepShows, UnitsMeet}
use Rattle.pw_world_state.specs.Stands.{Stands}
use Rattle.pw_world_state.specs.TerminalTests.{is_out}
use Rattle.pw_world_state.proofs.Built.{built-stands}
use Rattle.pw_world_model.specs.Enabled.{MayWork}
use Rattle.pw_world_model.specs.Pushed.{AreMarked}
use Rattle.pw_world_model.specs.Seen.{Seen, at_answer, context_of, kept_context, state_of, sys_of}
use Rattle.pw_world_model.specs.Worlds.{Books, IsWorld}
use Rattle.pw_world_model.proofs.Shapes.{map-same, at-same}
use Rattle.pw_onecopy.specs.Behaviour.{Behaviour}
use Rattle.pw_onecopy.proofs.Update.{upd_elim}
use Rattle.pw_pair.specs.Pairs.{SeenPair, changed_at}
use Rattle.pw_pair.specs.Seats.{built}
use Rattle.pw_pair.specs.declared.seat.BackupSeat.{BackupSeat}
use Rattle.pw_paired.specs.Failure.{unit_named}
use Rattle.pw_paired.specs.State.{State}
use Rattle.pw_paired.specs.Units.{any_below}
use Rattle.pw_actor_queue.specs.declared.actor.Actor.{Actor}
use Rattle.pw_actor_queue.specs.declared.actor.Actor.TheVariants as actor

-- ---- steps that show, where the same jobs are kept

module _ (sys : Behaviour) (state : State) (old new : Kept) (jobs : new.jobs ≡ old.jobs) where
  meets : (one other : unit.Unit) → MeetsAtVerb sys state new one other → MeetsAtVerb sys state old one other
  meets one other m = record { meets = m.meets; context = m.context; is_kept = ap (λ f. f m.meets.class m.meets.process) (sym jobs) ∙ m.is_kept; at_verb = m.at_verb }

  units-meet : (t o : ℕ) → UnitsMeet sys state new t o → UnitsMeet sys state old t o
  units-meet t o m = record {
    own = m.own;
    is_own = m.is_own;
    other = m.other;
    is_other = m.is_other;
    meets = ⊎_elim (λ first. inl (meets (unit_named t m.own) (unit_named o m.other) first)) (λ second. inr (meets (unit_named o m.other) (unit_named t m.own) second)) m.meets;
  }

  cause-shows : (t : ℕ) (kind : Cause) → ShowsAtVerb sys state new t kind → ShowsAtVerb sys state old t kind
  cause-shows t (cause.Older o m) s = units-meet t o s
  cause-shows t (cause.Takeover p) s = tt
  cause-shows t (cause.Server k) s = tt
  cause-shows t cause.Redo s = tt

  pub step-shows : (entry : Event) → StepShows sys state new entry → StepShows sys state old entry
  step-shows (Restart t n kind) s = cause-shows t kind s
  step-shows (End t (Suspended kind)) s = cause-shows t kind s
  step-shows (Show t phase attempt k) s = tt
  step-shows (Key t k) s = tt
  step-shows (CheckStart t) s = tt
  step-shows (CheckEnd t) s = tt
  step-shows (CheckCopy t) s = tt
  step-shows (Applied t) s = tt
  step-shows (Begin t n r) s = tt
  step-shows (Send t n c) s = tt
  step-shows (Take c i t) s = tt
  step-shows (File c i op mode f status) s = tt
  step-shows (Reply c i t fault) s = tt
  step-shows (Again t n) s = tt
  step-shows (Commit t n) s = tt
  step-shows (Back t n) s = tt
  step-shows (FailTcp p primary k) s = tt
  step-shows (FailServer c i k) s = tt
  step-shows (Takeover p) s = tt
  step-shows (Raise p) s = tt
  step-shows (End t Stopped) s = tt
  step-shows (End t NoEntries) s = tt
  step-shows (End t (Fault x)) s = tt
  step-shows (End t Lost) s = tt

-- ---- what is kept and told beside

module _ (world : Seen) (kept : Kept) (failed : Bool) (out : Actor → Bool) (terminals : kept.terminals ≡ world.kept.terminals) (jobs : kept.jobs ≡ world.kept.jobs) where
  abbrev pub beside : Seen
  beside = record world { kept = kept; failed = failed; out = out }

  same-context : (a : Actor) → kept_context kept a ≡ kept_context world.kept a
  same-context (actor.Terminal t) = ap (λ f. context_of (f t)) terminals
  same-context (actor.Process c i) = ap (λ f. f c i) jobs
  same-context (actor.Pair p) = refl
  same-context (actor.Class c) = refl

  pub may-same : (a : Actor) → MayWork beside a → MayWork world a
  may-same a = ⊎_elim
      (λ has. inl (has.0, record { legal = has.1.legal; at_verb = step-shows (sys_of world) (state_of world) world.kept kept jobs has.0 has.1.at_verb; own = has.1.own }))
      (λ unread. inr (unread.0, ap at_answer (sym (same-context a)) ∙ unread.1))

  module _ (books : Books) (w : IsWorld world books) (queues : kept.queues ≡ world.kept.queues) (stands : Stands world.system world.script (state_of world) kept) where
    pub changed : ((p : ℕ) → map (λ (seat : BackupSeat). seat.terminal) (kept.pairs p).seats ≡ map (λ (seat : BackupSeat). seat.terminal) (world.kept.pairs p).seats)
        → kept.disc.terminals ≡ world.kept.disc.terminals → kept.disc.file_count ≡ world.kept.disc.file_count → kept.disc.commits ≡ world.kept.disc.commits → min world.faults (2 ^ 64 - 1) ≤ kept.disc.faults → (failed ≡ true → Rose world.faults kept.disc.faults)
        → (marked : Actor → Bool) → AreMarked world marked → IsWorld beside (record books { marked = marked })
    changed seats sizes files commits count rose marked are = record {
      valid = w.valid;
      deck = w.deck;
      run = w.run;
      room = w.room;
      few = w.few;
      stands = stands;
      members = λ p few. seats p ∙ w.members p few;
      terminals = sizes ∙ w.terminals;
      files = files ∙ w.files;
      commits = commits ∙ w.commits;
      lines = w.lines;
      few_lines = w.few_lines;
      asking = λ t low is.
          let old : is_out world.system world.kept t ≡ true = ap (λ qs. any_below (length world.system.classes) (λ c. has_request t (qs c))) (sym queues) ∙ is in
          subst (λ (f : ℕ → KeptTerminal). IsSome (f t).ready) (sym terminals) (w.asking t low old);
      count = count;
      failed = rose;
      books = record {
        refreshes = w.books.refreshes;
        one_sends = w.books.one_sends;
        due = w.books.due;
        live = w.books.live;
        stamps = w.books.stamps;
        marked = λ a of may. are a of (may-same a may);
      };
    }

-- ---- each change

module _ (world : Seen) (books : Books) (w : IsWorld world books) where
  -- what is kept stands with any count of faults
  pub faulted-stands : (n : ℕ) → Stands world.system world.script (state_of world) (record world.kept { disc = record world.kept.disc { faults = n } })
  faulted-stands n = record {
    terminals = w.stands.terminals;
    disc = record {
      rule = w.stands.disc.rule;
      keys = w.stands.disc.keys;
      files = w.stands.disc.files;
      locks = w.stands.disc.locks;
      units = w.stands.disc.units;
      ended = w.stands.disc.ended;
      idle = w.stands.disc.idle;
    };
    classes = w.stands.classes;
    pairs = w.stands.pairs;
    births = w.stands.births;
  }

  -- the disc has failed
  pub has-failed : (n : ℕ) → Rose world.faults n → IsWorld (record world { failed = true; kept = record world.kept { disc = record world.kept.disc { faults = n } } }) books
  has-failed n rose =
      changed world (record world.kept { disc = record world.kept.disc { faults = n } }) true world.out refl refl books w refl (faulted-stands n) (λ p. refl) refl refl refl (omega (arith, rose)) (λ e. rose) books.marked w.books.marked

  -- other actors are marked, and out
  pub marked-so : (marked : Actor → Bool) → AreMarked world marked → IsWorld world (record books { marked = marked })
  marked-so marked are = changed world world.kept world.failed world.out refl refl books w refl w.stands (λ p. refl) refl refl refl w.count w.failed marked are

  pub out-so : (out : Actor → Bool) → IsWorld (record world { out = out }) books
  out-so out = changed world world.kept world.failed out refl refl books w refl w.stands (λ p. refl) refl refl refl w.count w.failed books.marked w.books.marked

  -- a message is built
  pub built-so : (p t : ℕ) (marked : Actor → Bool) → AreMarked world marked → IsWorld (record world { kept = at_pair p (changed_at t built) world.kept }) (record books { marked = marked })
  built-so p t marked are =
      changed world (at_pair p (changed_at t built) world.kept) world.failed world.out refl refl books w refl (built-stands world.system world.script (state_of world) world.kept p t w.stands)
      seats refl refl refl w.count w.failed marked are
    where
      seats : (q : ℕ) → map (λ (seat : BackupSeat). seat.terminal) ((at_pair p (changed_at t built) world.kept).pairs q).seats ≡ map (λ (seat : BackupSeat). seat.terminal) (world.kept.pairs q).seats
      seats q = upd_elim world.kept.pairs p (changed_at t built (world.kept.pairs p)) q (λ (pair : SeenPair). map (λ (seat : BackupSeat). seat.terminal) pair.seats ≡ map (λ (seat : BackupSeat). seat.terminal) (world.kept.pairs q).seats)
          (λ is. map-same _ (at-same t built (λ seat. refl)) (world.kept.pairs p).seats ∙ ap (λ r. map (λ (seat : BackupSeat). seat.terminal) (world.kept.pairs r).seats) (sym is)) (λ differ. refl)
