-- What has been read for an entry, behind the programs that ran on for it.
use Rattle.std.proofs.Common.{◌≡◌, ◌∙◌, ℕ, ◌<◌, true, false, Option, Some, None, ap, length, refl, subst, sym, ⊎_elim}
use Rattle.std.specs.List.{list_any}
use Rattle.std.proofs.lemmas.Bool.{cases_lt, eq-eqb, or_left}
use Rattle.pw_class.specs.Queue.{IsIn, Queue, at_process, is_of, works_for}
use Rattle.pw_class.specs.declared.request.RequestPlace.TheVariants as place
use Rattle.pw_class.specs.declared.request.Request.{Request}
use Rattle.pw_code.specs.declared.system.System.{System}
use Rattle.pw_event.specs.declared.event.Cause.{Cause}
use Rattle.pw_event.specs.declared.event.Cause.TheVariants as cause
use Rattle.pw_event.specs.declared.event.Ending.TheVariants.{Stopped, NoEntries, Fault, Suspended, Lost}
use Rattle.pw_event.specs.declared.event.Event.{Event}
use Rattle.pw_event.specs.declared.event.Event.TheVariants.{Show, Key, CheckStart, CheckEnd, CheckCopy, Applied, Begin, Send, Take, File, Reply, Again, Commit, Back, Restart, FailTcp, FailServer, Takeover, Raise, End}
use Rattle.pw_world_state.specs.Kept.{Kept}
use Rattle.pw_world_state.specs.Meeting.{IsRedoRead, IsStepRead}
use Rattle.pw_world_state.specs.Read.{AreServersRead, IsCauseRead, IsEntryRead}
use Rattle.pw_world_state.specs.TerminalTests.{is_out}
use Rattle.pw_world.proofs.RanTo.{read-server, server-read}
use Rattle.pw_world.specs.Entering.{older_by, older_in}
use Rattle.pw_world.specs.Running.{HasRunOn, IsWorkRead}
use Rattle.pw_world_model.proofs.Cancelled.{of-idle}
use Rattle.pw_world_model.proofs.OfUnits.{job-at}
use Rattle.pw_world_model.proofs.Queues.{none-in-line, one-process}
use Rattle.pw_world_model.specs.Actors.{IsActor}
use Rattle.pw_world_model.specs.Seen.{Seen, at_answer, sys_of}
use Rattle.pw_world_model.specs.Worlds.{Books, IsWorld}
use Rattle.pw_actor_queue.specs.declared.actor.Actor.TheVariants as actor
use Rattle.pw_laws.proofs.induction.Runs.{kept}
use Rattle.pw_world.specs.Bare.{IsBare}

-- ---- the server at work for a terminal

works : (t i : ℕ) (queue : Queue) (request : Request) → at_process queue i ≡ Some request
    → request.terminal ≡ t
    → works_for t (at_process queue i) ≡ true
works t i queue request here for = ap (works_for t) here ∙ eq-eqb request.terminal t for

module _ (world : Seen) (books : Books) (w : IsWorld world books) (t : ℕ) where
  pub none-works : is_out world.system world.kept t ≡ false → IsWorkRead world.system world.kept t
  none-works inside c i request low here for =
      let idle = of-idle world books w t c i low inside in
      let at = works t i (world.kept.queues c) request here for in
      absurd (cc (idle, at))

  pub waits : (class : ℕ) → IsBare world.system world.kept
      → IsIn (world.kept.queues class) class t (place.Waiting class)
      → IsWorkRead world.system world.kept t
  waits class bare at c i request low here for =
      ⊎_elim
      (λ few.
      let none = none-in-line world books w t c i class low few
      (works t i (world.kept.queues c) request here for) in
      let some = at.1 in
      absurd (cc (none, some)))
      (λ past.
      let none = bare.requests class t past in
      let some = or_left (list_any (is_of t) (world.kept.queues class).waiting)
      (list_any (works_for t) (world.kept.queues class).busy) at.1 in
      absurd (cc (none, some)))
      (cases_lt class (length world.system.classes))

  -- a process at work is one of the system
  process-there : (c i : ℕ) → IsBare world.system world.kept
      → works_for t (at_process (world.kept.queues c) i) ≡ true
      → c < length world.system.classes
  process-there c i bare at =
      ⊎_elim (λ few. few)
      (λ past. let none = ap (works_for t) (bare.busy c i past) in absurd (cc (none, at)))
      (cases_lt c (length world.system.classes))

  pub busy-actor : (c i : ℕ) → IsBare world.system world.kept
      → IsIn (world.kept.queues c) c t (place.Busy c i)
      → IsActor world.system (actor.Process c i)
  busy-actor c i bare at = by (at_process (world.kept.queues c) i) refl at.1
    where
      by : (o : Option Request) → at_process (world.kept.queues c) i ≡ o → works_for t o ≡ true
          → IsActor world.system (actor.Process c i)
      by None none for = absurd (cc for)
      by (Some request) some for =
          let job = job-at world books w c i request (process-there c i bare at.1) some in
          let inv = kept (sys_of world) w.deck world.log w.run in
          let of = inv.requests.bounds.work c i job.0 job.1.0 in
          (of.from_one, of.within)

  -- behind the run of that process its server has been read
  pub busy-read : (new : Seen) (c i : ℕ) → IsBare world.system world.kept
      → IsIn (world.kept.queues c) c t (place.Busy c i)
      → HasRunOn world new → at_answer (new.kept.jobs c i) ≡ None → IsWorkRead new.system new.kept t
  busy-read new c i bare at ran none d j request low here for =
      let queues = ap (λ (k : Kept). k.queues) ran.contexts in
      let system = ap (λ (s : Seen). s.system) ran.rest in
      let first = sym (ap (λ q. at_process (q d) j) queues) ∙ here in
      let same = one-process world books w t d j c i
      (subst (λ (s : System). d < length s.classes) system low) (process-there c i bare at.1)
      (works t j (world.kept.queues d) request first for) at.1 in
      read-server new.kept d j
      (ap (λ k. at_answer (new.kept.jobs k j)) same.0 ∙ ap (λ k. at_answer (new.kept.jobs c k)) same.1
      ∙ none)

-- ---- what has been read stays so

pub work-stays : (world new : Seen) (t : ℕ) → HasRunOn world new → IsWorkRead world.system world.kept t
    → IsWorkRead new.system new.kept t
work-stays world new t ran read c i request low here for =
    let queues = ap (λ (k : Kept). k.queues) ran.contexts in
    let system = ap (λ (s : Seen). s.system) ran.rest in
    read-server new.kept c i
    (ran.stay (actor.Process c i)
    (server-read world.kept c i
    (read c i request (subst (λ (s : System). c < length s.classes) system low)
    (sym (ap (λ q. at_process (q c) i) queues) ∙ here) for)))

pub both-read : (system : System) (kept : Kept) (t o : ℕ) → IsWorkRead system kept t
    → IsWorkRead system kept o → AreServersRead system kept t o
both-read system kept t o own other c i request low here for =
    ⊎_elim (λ first. own c i request low here first) (λ second. other c i request low here second) for

-- ---- entries

-- What is to be read for an entry: for a cause OLDER the servers for its two units, else what the steps that show ask for.
pub record Reads (system : System) (kept : Kept) (entry : Event) : Type 0 where
  pub older : (two : ℕ × ℕ) → older_in entry ≡ Some two → AreServersRead system kept two.0 two.1
      → IsEntryRead system kept entry
  pub plain : older_in entry ≡ None → IsStepRead system kept entry → IsEntryRead system kept entry
  pub shows : IsEntryRead system kept entry → IsStepRead system kept entry

pub record CauseReads (system : System) (kept : Kept) (t : ℕ) (kind : Cause) : Type 0 where
  pub older : (two : ℕ × ℕ) → older_by t kind ≡ Some two → AreServersRead system kept two.0 two.1
      → IsCauseRead system kept t kind
  pub plain : older_by t kind ≡ None → IsRedoRead system kept t kind → IsCauseRead system kept t kind
  pub shows : IsCauseRead system kept t kind → IsRedoRead system kept t kind

module _ (system : System) (kept : Kept) where
  of-cause : (t : ℕ) (kind : Cause) → CauseReads system kept t kind
  of-cause t (cause.Older o m) = record {
    older = λ two is read.
        let same : (t, o) ≡ two = cc is in
        subst (λ (pair : ℕ × ℕ). AreServersRead system kept pair.0 pair.1) (sym same) read;
    plain = λ is read. absurd (cc is);
    shows = λ read. tt;
  }
  of-cause t (cause.Takeover p) =
      record { older = λ two is read. absurd (cc is); plain = λ is read. tt; shows = λ read. tt }
  of-cause t (cause.Server k) =
      record { older = λ two is read. absurd (cc is); plain = λ is read. tt; shows = λ read. tt }
  of-cause t cause.Redo =
      record { older = λ two is read. absurd (cc is); plain = λ is read. read; shows = λ read. read }

  other : (entry : Event) → older_in entry ≡ None
      → (IsStepRead system kept entry → IsEntryRead system kept entry)
      → (IsEntryRead system kept entry → IsStepRead system kept entry) → Reads system kept entry
  other entry none plain shows =
      record {
        older = λ two is read. absurd (cc (none, is));
        plain = λ is read. plain read;
        shows = shows;
      }

  pub reads : (entry : Event) → Reads system kept entry
  reads (Restart t n kind) =
      let of = of-cause t kind in record { older = of.older; plain = of.plain; shows = of.shows }
  reads (End t (Suspended kind)) =
      let of = of-cause t kind in record { older = of.older; plain = of.plain; shows = of.shows }
  reads (End t Stopped) = other (End t Stopped) refl (λ read. read) (λ read. read)
  reads (End t NoEntries) = other (End t NoEntries) refl (λ read. read) (λ read. read)
  reads (End t (Fault x)) = other (End t (Fault x)) refl (λ read. read) (λ read. read)
  reads (End t Lost) = other (End t Lost) refl (λ read. read) (λ read. read)
  reads (Show t phase attempt k) = other (Show t phase attempt k) refl (λ read. read) (λ read. read)
  reads (Key t k) = other (Key t k) refl (λ read. read) (λ read. read)
  reads (CheckStart t) = other (CheckStart t) refl (λ read. read) (λ read. read)
  reads (CheckEnd t) = other (CheckEnd t) refl (λ read. read) (λ read. read)
  reads (CheckCopy t) = other (CheckCopy t) refl (λ read. read) (λ read. read)
  reads (Applied t) = other (Applied t) refl (λ read. read) (λ read. read)
  reads (Begin t n r) = other (Begin t n r) refl (λ read. read) (λ read. read)
  reads (Send t n c) = other (Send t n c) refl (λ read. read) (λ read. read)
  reads (Take c i t) = other (Take c i t) refl (λ read. read) (λ read. read)
  reads (File c i op mode f status) =
      other (File c i op mode f status) refl (λ read. read) (λ read. read)
  reads (Reply c i t fault) = other (Reply c i t fault) refl (λ read. read) (λ read. read)
  reads (Again t n) = other (Again t n) refl (λ read. read) (λ read. read)
  reads (Commit t n) = other (Commit t n) refl (λ read. read) (λ read. read)
  reads (Back t n) = other (Back t n) refl (λ read. read) (λ read. read)
  reads (FailTcp p primary k) = other (FailTcp p primary k) refl (λ read. read) (λ read. read)
  reads (FailServer c i k) = other (FailServer c i k) refl (λ read. read) (λ read. read)
  reads (Takeover p) = other (Takeover p) refl (λ read. read) (λ read. read)
  reads (Raise p) = other (Raise p) refl (λ read. read) (λ read. read)
