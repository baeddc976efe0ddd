-- The context that is kept of a terminal at which an entry is not.
use Rattle.std.proofs.Common.{◌≡◌, ◌⊎◌, ℕ, ◌==◌, List, [], ◌∷◌, Option, Some, None, Bool, true, false, inl, inr, refl, sym, ap, ◌∙◌}
use Rattle.std.specs.Prelude.{if◌then◌else◌}
use Rattle.std.proofs.lemmas.Bool.{eq-eqb}
use Rattle.pw_class.specs.Queue.{at_process}
use Rattle.pw_class.specs.declared.request.Request.{Request}
use Rattle.pw_code.specs.declared.context.Context.{Context}
use Rattle.pw_code.specs.declared.system.System.{System}
use Rattle.pw_code.specs.declared.verb.Verb.{Verb}
use Rattle.pw_code.specs.declared.verb.Verb.TheVariants as verb
use Rattle.pw_event.specs.declared.event.Ending.{Ending}
use Rattle.pw_event.specs.declared.event.Ending.TheVariants.{Stopped, NoEntries, Fault, Suspended, Lost}
use Rattle.pw_event.specs.declared.event.Event.{Event}
use Rattle.pw_event.specs.declared.event.Event.TheVariants.{Show, Key, CheckStart, CheckEnd, CheckCopy, Applied, Begin, Send, Take, File, Reply, Again, Commit, Back, Restart, FailTcp, FailServer, Takeover, Raise, End}
use Rattle.pw_world_state.specs.Asked.{verb_in}
use Rattle.pw_world_state.specs.Changes.{backup_lost, leave_at, primary_lost, process_stops, without_path, without_unit}
use Rattle.pw_world_state.specs.Entered.{begin_at, closing_context, copied, entered, file_at, file_by, is_outside_at, replies_last, replies_to, reply_by, send_image, unit_of_ready, verb_of}
use Rattle.pw_world_state.specs.Kept.{Kept, KeptTerminal}
use Rattle.pw_onecopy.specs.Update.{upd}
use Rattle.pw_onecopy.proofs.Update.{upd-other, upd_elim}
use Rattle.pw_pair.specs.declared.message.CheckKind.{CheckKind}
use Rattle.pw_pair.specs.declared.message.CheckKind.TheVariants as kind
use Rattle.pw_pair.specs.declared.mode.Mode as pair
use Rattle.pw_pair.specs.declared.mode.Mode.TheVariants as mode
use Rattle.pw_paired.specs.State.{State}
use Rattle.pw_tmf.specs.Leaving.{is_among}
use Rattle.pw_world_model.specs.Seen.{context_of}
use Rattle.pw_world_model.proofs.Unlike.{at_terminal}

-- a context stays, or is gone
abbrev pub Stays : Option Context → Option Context → Type 0
Stays old new = (new ≡ old) ⊎ (new ≡ None)

-- a path that is gone, or a terminal that stays
path-gone : (gone : Bool) (x own : KeptTerminal) → context_of x ≡ context_of own → Stays (context_of own) (context_of (if gone then without_path x else x))
path-gone true x own same = inr refl
path-gone false x own same = inl same

-- a unit that is left changes no context
unit-left : (left : Bool) (own : KeptTerminal) → context_of (if left then without_unit own else own) ≡ context_of own
unit-left true own = refl
unit-left false own = refl

pick-other : (b : Bool) (x own : KeptTerminal) → b ≡ false → context_of (if b then x else own) ≡ context_of own
pick-other true x own e = absurd (cc e)
pick-other false x own e = refl

module _ (system : System) (members : ℕ → List ℕ) (kept : Kept) (u : ℕ) where
  abbrev own : KeptTerminal
  own = kept.terminals u

  abbrev At : Kept → Type 0
  At next = Stays (context_of own) (context_of (next.terminals u))

  -- another terminal is changed
  other : (terminals : ℕ → KeptTerminal) (t : ℕ) (new : KeptTerminal) → ((t == u) ≡ true → ⊥) → context_of (upd terminals t new u) ≡ context_of (terminals u)
  other terminals t new differ = ap context_of (upd-other terminals t new u (λ is. differ (eq-eqb t u (sym is))))

  sent : (t : ℕ) (kind : CheckKind) (o : Option Context) → At (send_image system t kind o kept)
  sent t kind None = inl refl
  sent t kind (Some context) = inl refl

  begun : (t n r : ℕ) (v : Option Verb) → ((t == u) ≡ true → ⊥) → At (begin_at system t n r v kept)
  begun t n r None differ = inl (other kept.terminals t _ differ)
  begun t n r (Some verb.Begin) differ = inl (other kept.terminals t _ differ)
  begun t n r (Some verb.Show) differ = inl (other kept.terminals t _ differ)
  begun t n r (Some (verb.Accept screen)) differ = inl (other kept.terminals t _ differ)
  begun t n r (Some (verb.Send class message)) differ = inl (other kept.terminals t _ differ)
  begun t n r (Some verb.End) differ = inl (other kept.terminals t _ differ)
  begun t n r (Some verb.Drop) differ = inl (other kept.terminals t _ differ)
  begun t n r (Some verb.Redo) differ = inl (other kept.terminals t _ differ)
  begun t n r (Some verb.Stop) differ = inl (other kept.terminals t _ differ)
  begun t n r (Some (verb.Fault x)) differ = inl (other kept.terminals t _ differ)
  begun t n r (Some (verb.File call)) differ = inl (other kept.terminals t _ differ)
  begun t n r (Some (verb.Reply reply)) differ = inl (other kept.terminals t _ differ)

  filed-by : (c i : ℕ) (request : Request) (context : Context) (v : Verb) → At (file_at system c i (Some request) context v kept)
  filed-by c i request context (verb.File call) = inl refl
  filed-by c i request context verb.Begin = inl refl
  filed-by c i request context verb.Show = inl refl
  filed-by c i request context (verb.Accept screen) = inl refl
  filed-by c i request context (verb.Send class message) = inl refl
  filed-by c i request context verb.End = inl refl
  filed-by c i request context verb.Drop = inl refl
  filed-by c i request context verb.Redo = inl refl
  filed-by c i request context verb.Stop = inl refl
  filed-by c i request context (verb.Fault x) = inl refl
  filed-by c i request context (verb.Reply reply) = inl refl

  filed-at : (c i : ℕ) (request : Option Request) (context : Context) (v : Verb) → At (file_at system c i request context v kept)
  filed-at c i None context v = inl refl
  filed-at c i (Some request) context v = filed-by c i request context v

  filed : (c i : ℕ) (o : Option Context) → At (file_by system c i o kept)
  filed c i None = inl refl
  filed c i (Some context) = filed-at c i (at_process (kept.queues c) i) context (verb_in system context)

  replied : (c i t n : ℕ) (reply : List ℕ) (outside : Bool) → ((t == u) ≡ true → ⊥) → At (if outside then replies_last system c i t n reply kept else replies_to system c i t reply kept)
  replied c i t n reply true differ = inl (other kept.terminals t _ differ)
  replied c i t n reply false differ = inl (other kept.terminals t _ differ)

  lost-primary : (m : pair.Mode) (terminals : List ℕ) → At (primary_lost m terminals kept)
  lost-primary mode.Paired terminals = path-gone (is_among terminals u) own own refl
  lost-primary mode.Raising terminals = path-gone (is_among terminals u) (if is_among terminals u then without_unit own else own) own (unit-left (is_among terminals u) own)
  lost-primary mode.Alone terminals = path-gone (is_among terminals u) (if is_among terminals u then without_unit own else own) own (unit-left (is_among terminals u) own)
  lost-primary mode.Down terminals = inl refl
  lost-primary mode.Gone terminals = inl refl

  lost-backup : (m : pair.Mode) (terminals : List ℕ) → At (backup_lost m terminals kept)
  lost-backup mode.Down terminals = path-gone (is_among terminals u) (if is_among terminals u then without_unit own else own) own (unit-left (is_among terminals u) own)
  lost-backup mode.Paired terminals = inl refl
  lost-backup mode.Raising terminals = inl refl
  lost-backup mode.Alone terminals = inl refl
  lost-backup mode.Gone terminals = inl refl

  stopped : (c i k : ℕ) (o : Option Request) → At (process_stops c i k o kept)
  stopped c i k None = inl refl
  stopped c i k (Some request) = inl (upd_elim kept.terminals request.terminal _ u (λ x. context_of x ≡ context_of own)
      (λ is. ap (λ v. context_of (kept.terminals v)) (sym is)) (λ differ. refl))

  left-at : (t : ℕ) (ending : Ending) → context_of ((leave_at t ending kept).terminals u) ≡ context_of own
  left-at t Stopped = refl
  left-at t NoEntries = unit-left (is_among (t ∷ []) u) own
  left-at t (Fault x) = unit-left (is_among (t ∷ []) u) own
  left-at t (Suspended cause) = unit-left (is_among (t ∷ []) u) own
  left-at t Lost = refl

  pub terminal-stays : (s : State) (entry : Event) → (at_terminal s u entry ≡ true → ⊥) → ((p : ℕ) → entry ≡ Takeover p → is_among (members p) u ≡ false) → At (entered system members entry kept)
  terminal-stays s (Show t phase attempt k) differ away = inl (other kept.terminals t _ differ)
  terminal-stays s (Key t k) differ away = inl (other kept.terminals t _ differ)
  terminal-stays s (CheckStart t) differ away = sent t kind.Start (kept.terminals t).context
  terminal-stays s (CheckEnd t) differ away = sent t kind.End (closing_context system (verb_of system (kept.terminals t)) (kept.terminals t))
  terminal-stays s (CheckCopy t) differ away = sent t kind.Copy (copied (kept.terminals t).start (kept.terminals t).context)
  terminal-stays s (Applied t) differ away = inl refl
  terminal-stays s (Begin t n r) differ away = begun t n r (verb_of system (kept.terminals t)) differ
  terminal-stays s (Send t n c) differ away = inl refl
  terminal-stays s (Take c i t) differ away = inl refl
  terminal-stays s (File c i op mode f status) differ away = filed c i (kept.jobs c i)
  terminal-stays s (Reply c i t None) differ away = replied c i t (unit_of_ready (kept.terminals t).ready) (reply_by system (kept.jobs c i)) (is_outside_at (kept.terminals t).ready) differ
  terminal-stays s (Reply c i t (Some x)) differ away = inl (other kept.terminals t _ differ)
  terminal-stays s (Again t n) differ away = inl (other kept.terminals t _ differ)
  terminal-stays s (Commit t n) differ away = inl (other kept.terminals t _ differ)
  terminal-stays s (Back t n) differ away = inl (other kept.terminals t _ differ)
  terminal-stays s (Restart t n cause) differ away = inl (other kept.terminals t _ differ)
  terminal-stays s (FailTcp p true k) differ away = lost-primary (kept.pairs p).mode (members p)
  terminal-stays s (FailTcp p false k) differ away = lost-backup (kept.pairs p).mode (members p)
  terminal-stays s (FailServer c i k) differ away = stopped c i k (at_process (kept.queues c) i)
  terminal-stays s (Takeover p) differ away = inl (pick-other (is_among (members p) u) _ own (away p refl))
  terminal-stays s (Raise p) differ away = inl refl
  terminal-stays s (End t ending) differ away = inl (other (leave_at t ending kept).terminals t _ differ ∙ left-at t ending)
