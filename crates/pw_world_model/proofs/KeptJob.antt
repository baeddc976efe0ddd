-- The context that is kept of a process that an entry does not start or answer.
use Rattle.std.proofs.Common.{◌≡◌, ℕ, ◌==◌, ◌&&◌, List, [], ◌∷◌, Option, Some, None, Bool, true, false, inl, inr, refl, sym, ap, ap₂}
use Rattle.std.specs.Prelude.{if◌then◌else◌}
use Rattle.std.specs.List.{list_any}
use Rattle.std.proofs.lemmas.Bool.{eq-eqb}
use Rattle.pw_class.specs.Queue.{at_process, works_for}
use Rattle.pw_class.specs.declared.request.Request.{Request}
use Rattle.pw_code.specs.declared.context.Context.{Context}
use Rattle.pw_code.specs.declared.system.System.{System}
use Rattle.pw_code.specs.declared.verb.Verb.{Verb}
use Rattle.pw_code.specs.declared.verb.Verb.TheVariants as verb
use Rattle.pw_event.specs.declared.event.Ending.{Ending}
use Rattle.pw_event.specs.declared.event.Ending.TheVariants.{Stopped, NoEntries, Fault, Suspended, Lost}
use Rattle.pw_event.specs.declared.event.Event.{Event}
use Rattle.pw_event.specs.declared.event.Event.TheVariants.{Show, Key, CheckStart, CheckEnd, CheckCopy, Applied, Begin, Send, Take, File, Reply, Again, Commit, Back, Restart, FailTcp, FailServer, Takeover, Raise, End}
use Rattle.pw_world_state.specs.Asked.{verb_in}
use Rattle.pw_world_state.specs.Changes.{backup_lost, job_without, leave_at, primary_lost, process_stops}
use Rattle.pw_world_state.specs.Entered.{begin_at, closing_context, copied, entered, file_at, file_by, is_outside_at, replies_last, replies_to, reply_by, send_image, unit_of_ready, verb_of}
use Rattle.pw_world_state.specs.Kept.{Kept}
use Rattle.pw_onecopy.specs.Update.{upd}
use Rattle.pw_onecopy.proofs.Update.{upd_elim}
use Rattle.pw_pair.specs.declared.message.CheckKind.{CheckKind}
use Rattle.pw_pair.specs.declared.message.CheckKind.TheVariants as kind
use Rattle.pw_pair.specs.declared.mode.Mode as pair
use Rattle.pw_pair.specs.declared.mode.Mode.TheVariants as mode
use Rattle.pw_paired.specs.State.{State}
use Rattle.pw_world_model.proofs.Classes as class
use Rattle.pw_world_model.proofs.KeptTerminal.{Stays}

both : (a b : Bool) → a ≡ true → b ≡ true → (a && b) ≡ true
both a b x y = ap₂ (λ p q. p && q) x y

-- the job of a process whose request may be cancelled
cancelled : (is : Bool) (job : Option Context) → Stays job (if is then None else job)
cancelled true job = inr refl
cancelled false job = inl refl

module _ (system : System) (members : ℕ → List ℕ) (kept : Kept) (c i : ℕ) where
  abbrev At : Kept → Type 0
  At next = Stays (kept.jobs c i) (next.jobs c i)

  -- another process gets a context
  other : (class process : ℕ) (job : Option Context) → ((class == c && process == i) ≡ true → ⊥) → upd kept.jobs class (upd (kept.jobs class) process job) c i ≡ kept.jobs c i
  other class process job differ = upd_elim kept.jobs class (upd (kept.jobs class) process job) c (λ f. f i ≡ kept.jobs c i)
      (λ is. upd_elim (kept.jobs class) process job i (λ x. x ≡ kept.jobs c i)
      (λ same. absurd (differ (both (class == c) (process == i) (eq-eqb class c (sym is)) (eq-eqb process i (sym same)))))
      (λ ne. ap (λ d. kept.jobs d i) (sym is)))
      (λ ne. refl)

  -- a process is free
  freed : (class process : ℕ) → Stays (kept.jobs c i) (upd kept.jobs class (upd (kept.jobs class) process None) c i)
  freed class process = upd_elim kept.jobs class (upd (kept.jobs class) process None) c (λ f. Stays (kept.jobs c i) (f i))
      (λ is. upd_elim (kept.jobs class) process None i (λ x. Stays (kept.jobs c i) x) (λ same. inr refl) (λ ne. inl (ap (λ d. kept.jobs d i) (sym is))))
      (λ ne. inl refl)

  -- the requests of these terminals are cancelled
  without : (terminals : List ℕ) → Stays (kept.jobs c i) (job_without terminals (at_process (kept.queues c) i) (kept.jobs c i))
  without terminals = cancelled (list_any (λ t. works_for t (at_process (kept.queues c) i)) terminals) (kept.jobs c i)

  sent : (t : ℕ) (kind : CheckKind) (o : Option Context) → At (send_image system t kind o kept)
  sent t kind None = inl refl
  sent t kind (Some context) = inl refl

  begun : (t n r : ℕ) (v : Option Verb) → At (begin_at system t n r v kept)
  begun t n r None = inl refl
  begun t n r (Some verb.Begin) = inl refl
  begun t n r (Some verb.Show) = inl refl
  begun t n r (Some (verb.Accept screen)) = inl refl
  begun t n r (Some (verb.Send class message)) = inl refl
  begun t n r (Some verb.End) = inl refl
  begun t n r (Some verb.Drop) = inl refl
  begun t n r (Some verb.Redo) = inl refl
  begun t n r (Some verb.Stop) = inl refl
  begun t n r (Some (verb.Fault x)) = inl refl
  begun t n r (Some (verb.File call)) = inl refl
  begun t n r (Some (verb.Reply reply)) = inl refl

  filed-by : (class process : ℕ) (request : Request) (context : Context) (v : Verb) → ((class == c && process == i) ≡ true → ⊥) → At (file_at system class process (Some request) context v kept)
  filed-by class process request context (verb.File call) differ = inl (other class process _ differ)
  filed-by class process request context verb.Begin differ = inl refl
  filed-by class process request context verb.Show differ = inl refl
  filed-by class process request context (verb.Accept screen) differ = inl refl
  filed-by class process request context (verb.Send to message) differ = inl refl
  filed-by class process request context verb.End differ = inl refl
  filed-by class process request context verb.Drop differ = inl refl
  filed-by class process request context verb.Redo differ = inl refl
  filed-by class process request context verb.Stop differ = inl refl
  filed-by class process request context (verb.Fault x) differ = inl refl
  filed-by class process request context (verb.Reply reply) differ = inl refl

  filed-at : (class process : ℕ) (request : Option Request) (context : Context) (v : Verb) → ((class == c && process == i) ≡ true → ⊥) → At (file_at system class process request context v kept)
  filed-at class process None context v differ = inl refl
  filed-at class process (Some request) context v differ = filed-by class process request context v differ

  filed : (class process : ℕ) (o : Option Context) → ((class == c && process == i) ≡ true → ⊥) → At (file_by system class process o kept)
  filed class process None differ = inl refl
  filed class process (Some context) differ = filed-at class process (at_process (kept.queues class) process) context (verb_in system context) differ

  replied : (class process t n : ℕ) (reply : List ℕ) (outside : Bool) → At (if outside then replies_last system class process t n reply kept else replies_to system class process t reply kept)
  replied class process t n reply true = freed class process
  replied class process t n reply false = freed class process

  lost-primary : (m : pair.Mode) (terminals : List ℕ) → At (primary_lost m terminals kept)
  lost-primary mode.Paired terminals = without terminals
  lost-primary mode.Raising terminals = without terminals
  lost-primary mode.Alone terminals = without terminals
  lost-primary mode.Down terminals = inl refl
  lost-primary mode.Gone terminals = inl refl

  lost-backup : (m : pair.Mode) (terminals : List ℕ) → At (backup_lost m terminals kept)
  lost-backup mode.Down terminals = without terminals
  lost-backup mode.Paired terminals = inl refl
  lost-backup mode.Raising terminals = inl refl
  lost-backup mode.Alone terminals = inl refl
  lost-backup mode.Gone terminals = inl refl

  stopped : (class process k : ℕ) (o : Option Request) → At (process_stops class process k o kept)
  stopped class process k None = inl refl
  stopped class process k (Some request) = freed class process

  left-at : (t : ℕ) (ending : Ending) → At (leave_at t ending kept)
  left-at t Stopped = inl refl
  left-at t NoEntries = without (t ∷ [])
  left-at t (Fault x) = without (t ∷ [])
  left-at t (Suspended cause) = without (t ∷ [])
  left-at t Lost = inl refl

  pub job-stays : (s : State) (entry : Event) → (class.at_process s c i entry ≡ true → ⊥) → At (entered system members entry kept)
  job-stays s (Show t phase attempt k) differ = inl refl
  job-stays s (Key t k) differ = inl refl
  job-stays s (CheckStart t) differ = sent t kind.Start (kept.terminals t).context
  job-stays s (CheckEnd t) differ = sent t kind.End (closing_context system (verb_of system (kept.terminals t)) (kept.terminals t))
  job-stays s (CheckCopy t) differ = sent t kind.Copy (copied (kept.terminals t).start (kept.terminals t).context)
  job-stays s (Applied t) differ = inl refl
  job-stays s (Begin t n r) differ = begun t n r (verb_of system (kept.terminals t))
  job-stays s (Send t n d) differ = inl refl
  job-stays s (Take class process t) differ = inl (other class process _ differ)
  job-stays s (File class process op mode f status) differ = filed class process (kept.jobs class process) differ
  job-stays s (Reply class process t None) differ = replied class process t (unit_of_ready (kept.terminals t).ready) (reply_by system (kept.jobs class process)) (is_outside_at (kept.terminals t).ready)
  job-stays s (Reply class process t (Some x)) differ = freed class process
  job-stays s (Again t n) differ = inl refl
  job-stays s (Commit t n) differ = inl refl
  job-stays s (Back t n) differ = inl refl
  job-stays s (Restart t n cause) differ = without (t ∷ [])
  job-stays s (FailTcp p true k) differ = lost-primary (kept.pairs p).mode (members p)
  job-stays s (FailTcp p false k) differ = lost-backup (kept.pairs p).mode (members p)
  job-stays s (FailServer class process k) differ = stopped class process k (at_process (kept.queues class) process)
  job-stays s (Takeover p) differ = inl refl
  job-stays s (Raise p) differ = inl refl
  job-stays s (End t ending) differ = left-at t ending
