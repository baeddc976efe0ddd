-- A terminal whose request is out stands at its verb, also behind an entry.
use Rattle.std.proofs.Common.{◌≡◌, ◌≢◌, ℕ, ◌<◌, ◌==◌, ◌&&◌, List, [], ◌∷◌, length, Option, Some, None, Bool, true, false, refl, sym, ap, ap₂, subst, ◌∙◌, ⊎_elim, arith}
use Rattle.std.specs.Prelude.{if◌then◌else◌}
use Rattle.std.proofs.lemmas.Bool.{cases_Bool, eq-eqb, eqb-true}
use Rattle.pw_code.specs.declared.system.System.{System}
use Rattle.pw_code.specs.declared.verb.Verb.{Verb}
use Rattle.pw_code.specs.declared.verb.Verb.TheVariants as verb
use Rattle.pw_event.specs.declared.event.Ending.{Ending}
use Rattle.pw_event.specs.declared.event.Ending.TheVariants.{Stopped, NoEntries, Fault, Suspended, Lost}
use Rattle.pw_event.specs.declared.event.Event.{Event}
use Rattle.pw_event.specs.declared.event.Event.TheVariants.{Show, Key, CheckStart, CheckEnd, CheckCopy, Applied, Begin, Send, Take, File, Reply, Again, Commit, Back, Restart, FailTcp, FailServer, Takeover, Raise, End}
use Rattle.pw_event.specs.declared.script.FailLine.{FailLine}
use Rattle.pw_code_meaning.specs.OfSystem.{behaviour}
use Rattle.pw_class.specs.Queue.{at_process}
use Rattle.pw_class.specs.declared.request.Request.{Request}
use Rattle.pw_code.specs.declared.context.Context.{Context}
use Rattle.pw_world_state.specs.Asked.{verb_in}
use Rattle.pw_world_state.specs.Changes.{backup_lost, leave_at, primary_lost, process_stops, without_unit}
use Rattle.pw_world_state.specs.Entered.{begin_at, closing_context, copied, entered, file_at, file_by, is_outside_at, replies_last, replies_to, reply_by, send_image, unit_of_ready, verb_of}
use Rattle.pw_world_state.specs.Kept.{Kept, KeptTerminal}
use Rattle.pw_world_state.specs.Members.{AreOf}
use Rattle.pw_world_state.specs.Stands.{Stands}
use Rattle.pw_pair.specs.Follows.{mode_as}
use Rattle.pw_world_state.proofs.Agreeing.{pair-among}
use Rattle.pw_world_model.specs.Touches.{loses}
use Rattle.pw_world_model.proofs.Placed.{loses_in, out-at, outs, somewhere}
use Rattle.pw_world_model.proofs.Classes.{first-no}
use Rattle.pw_onecopy.specs.Behaviour.{Behaviour}
use Rattle.pw_onecopy.specs.IsBehaviour.{IsBehaviour}
use Rattle.pw_onecopy.specs.Update.{upd}
use Rattle.pw_onecopy.proofs.Update.{upd-other, upd_elim}
use Rattle.pw_pair.specs.declared.message.CheckKind.TheVariants as kind
use Rattle.pw_pair.specs.declared.mode.Mode as pair
use Rattle.pw_pair.specs.declared.mode.Mode.TheVariants as mode
use Rattle.pw_paired.specs.Failure.{is_of_pair}
use Rattle.pw_paired.specs.State.{PairMode, Alone, Raising, Paired, Down, Gone, State}
use Rattle.pw_paired.specs.Step.{Legal, change}
use Rattle.pw_paired.specs.Terminal.{next_verb}
use Rattle.pw_paired.specs.Units.{attempt_of, is_out}
use Rattle.pw_laws.proofs.kept.Kept.{Inv}
use Rattle.pw_laws.proofs.requests.Requests.{AtWork, InLine, Nowhere, Place, Sent, sent_of}
use Rattle.pw_laws.proofs.terms.KeepsEnds.{OutOk, out-path}
use Rattle.pw_laws.proofs.terms.TermOk.{IsWorking}
use Rattle.pw_tmf.specs.Leaving.{is_among}

-- ---- what a request that is out says

module _ (sys : Behaviour) (s : State) (i : Inv sys s) where
  pub out-ok : (t : ℕ) → is_out sys s t ≡ true → (request : Sent) × OutOk sys s t request
  out-ok t out = by (i.places t) refl (sym (out-at sys s i.places i.requests t) ∙ out)
    where
      by : (place : Place) → i.places t ≡ place → somewhere place ≡ true → (request : Sent) × OutOk sys s t request
      by Nowhere is none = absurd (cc none)
      by (InLine c request) is some = (record { class = c; request = request }, i.out t _ (ap sent_of is))
      by (AtWork c p job) is some = (record { class = c; request = job.request }, i.out t _ (ap sent_of is))

  -- a terminal that asks for anything but a reply has none out
  pub asks-other : (t : ℕ) → ((c : ℕ) (message : List ℕ) → next_verb sys s t ≡ verb.Send c message → ⊥) → is_out sys s t ≡ true → ⊥
  asks-other t other out = let found = out-ok t out in other found.0.class found.0.request.message found.1.asks

  -- nor has one whose pair does not work
  pub works-not : (t : ℕ) (m : PairMode) → s.modes (sys.pair_of t) ≡ m → (IsWorking m → ⊥) → is_out sys s t ≡ true → ⊥
  works-not t m is idle out = let found = out-ok t out in idle (subst IsWorking is found.1.working)

-- ---- the contexts at verbs, behind an entry

abbrev ReadyOf : Kept → ℕ → Option Context
ReadyOf kept u = (kept.terminals u).ready

-- a terminal is changed, and another one looked at
at-other : (terminals : ℕ → KeptTerminal) (t : ℕ) (own : KeptTerminal) (u : ℕ) → u ≢ t → (upd terminals t own u).ready ≡ (terminals u).ready
at-other terminals t own u differ = ap (λ (x : KeptTerminal). x.ready) (upd-other terminals t own u differ)

-- a terminal is changed that stays where it stands
at-same : (terminals : ℕ → KeptTerminal) (t : ℕ) (own : KeptTerminal) (u : ℕ) → own.ready ≡ (terminals t).ready → (upd terminals t own u).ready ≡ (terminals u).ready
at-same terminals t own u same = upd_elim terminals t own u (λ x. x.ready ≡ (terminals u).ready) (λ is. same ∙ ap (λ v. (terminals v).ready) (sym is)) (λ differ. refl)

-- the failure of a member, as what is kept has it
abbrev fails_kept : Bool → pair.Mode → List ℕ → Kept → Kept
fails_kept true m terminals kept = primary_lost m terminals kept
fails_kept false m terminals kept = backup_lost m terminals kept

pub loses-same : (q : Bool) (m : PairMode) → loses q (mode_as m) ≡ loses_in q m
loses-same true Alone = refl
loses-same true Raising = refl
loses-same true Paired = refl
loses-same true Down = refl
loses-same true Gone = refl
loses-same false Alone = refl
loses-same false Raising = refl
loses-same false Paired = refl
loses-same false Down = refl
loses-same false Gone = refl

pick-ready : (b : Bool) (x y : KeptTerminal) → b ≡ false → (if b then x else y).ready ≡ y.ready
pick-ready true x y e = absurd (cc e)
pick-ready false x y e = refl

-- a unit that is left changes no context
left-stays : (b : Bool) (own : KeptTerminal) → (if b then without_unit own else own).ready ≡ own.ready
left-stays true own = refl
left-stays false own = refl

-- left by the failure, or not one of the terminals
left-ready : (q : Bool) (m : pair.Mode) (terminals : List ℕ) (kept : Kept) (u : ℕ) → (is_among terminals u && loses q m) ≡ false → ReadyOf (fails_kept q m terminals kept) u ≡ ReadyOf kept u
left-ready true mode.Paired terminals kept u out = pick-ready (is_among terminals u) _ _ (first-no (is_among terminals u) out)
left-ready true mode.Raising terminals kept u out = pick-ready (is_among terminals u) _ _ (first-no (is_among terminals u) out) ∙ left-stays (is_among terminals u) (kept.terminals u)
left-ready true mode.Alone terminals kept u out = pick-ready (is_among terminals u) _ _ (first-no (is_among terminals u) out) ∙ left-stays (is_among terminals u) (kept.terminals u)
left-ready true mode.Down terminals kept u out = refl
left-ready true mode.Gone terminals kept u out = refl
left-ready false mode.Alone terminals kept u out = refl
left-ready false mode.Raising terminals kept u out = refl
left-ready false mode.Paired terminals kept u out = refl
left-ready false mode.Gone terminals kept u out = refl
left-ready false mode.Down terminals kept u out = pick-ready (is_among terminals u) _ _ (first-no (is_among terminals u) out) ∙ left-stays (is_among terminals u) (kept.terminals u)

module _ (system : System) (script : List FailLine) (b : IsBehaviour (behaviour script system)) (s : State) (i : Inv (behaviour script system) s) (members : ℕ → List ℕ) (are : (p : ℕ) → AreOf system p (members p))
    (kept : Kept) (stands : Stands system script s kept) (u : ℕ) (low : u < length system.terminals) where
  abbrev sys : Behaviour
  sys = behaviour script system

  -- of a terminal that is changed at its own verb
  own-verb : (t : ℕ) (own : KeptTerminal) → (is_out sys s t ≡ true → ⊥) → is_out sys s u ≡ true → (upd kept.terminals t own u).ready ≡ (kept.terminals u).ready
  own-verb t own inside out = at-other kept.terminals t own u (λ is. inside (subst (λ v. is_out sys s v ≡ true) is out))

  -- of one whose request goes with the entry
  gone : (t : ℕ) (own : KeptTerminal) (f : Bool → Bool) → f (u == t) ≡ true → f true ≡ false → (upd kept.terminals t own u).ready ≡ (kept.terminals u).ready
  gone t own f out none = at-other kept.terminals t own u (λ is. let e = eq-eqb u t is in let both : f true ≡ true = ap f (sym e) ∙ out in absurd (cc (none, both)))

  mode-is : (p : ℕ) → p < length system.tcps → (kept.pairs p).mode ≡ mode_as (s.modes p)
  mode-is p few = (stands.pairs p few).mode_is

  pub ready-stays : (entry : Event) → Legal sys s entry → (few : (p : ℕ) (primary : Bool) (k : ℕ) → entry ≡ FailTcp p primary k → p < length system.tcps)
      → is_out sys (change sys s entry) u ≡ true → ReadyOf (entered system members entry kept) u ≡ ReadyOf kept u
  ready-stays (Show t phase attempt k) l few out = own-verb t _ (asks-other sys s i t (λ c message is. let asks = l.fits.asks in absurd (cc (asks, is)))) out
  ready-stays (Key t k) l few out = own-verb t _ (asks-other sys s i t (λ c message is. let asks = l.fits.asks in absurd (cc (asks, is)))) out
  ready-stays (CheckStart t) l few out = sent (kept.terminals t).context
    where
      sent : (o : Option Context) → ReadyOf (send_image system t kind.Start o kept) u ≡ ReadyOf kept u
      sent None = refl
      sent (Some context) = refl
  ready-stays (CheckEnd t) l few out = sent (closing_context system (verb_of system (kept.terminals t)) (kept.terminals t))
    where
      sent : (o : Option Context) → ReadyOf (send_image system t kind.End o kept) u ≡ ReadyOf kept u
      sent None = refl
      sent (Some context) = refl
  ready-stays (CheckCopy t) l few out = sent (copied (kept.terminals t).start (kept.terminals t).context)
    where
      sent : (o : Option Context) → ReadyOf (send_image system t kind.Copy o kept) u ≡ ReadyOf kept u
      sent None = refl
      sent (Some context) = refl
  ready-stays (Applied t) l few out = refl
  ready-stays (Begin t n r) l few out = by (verb_of system (kept.terminals t))
    where
      inside : is_out sys s t ≡ true → ⊥
      inside is-out = let found = out-ok sys s i t is-out in let idle = l.fits.idle in let runs : attempt_of (s.units t) ≡ Some found.1.start = ap attempt_of found.1.is_open ∙ found.1.runs in absurd (cc (idle, runs))

      stays : ReadyOf (begin_at system t n r None kept) u ≡ ReadyOf kept u
      stays = at-same kept.terminals t _ u refl

      by : (v : Option Verb) → ReadyOf (begin_at system t n r v kept) u ≡ ReadyOf kept u
      by None = stays
      by (Some verb.Begin) = own-verb t _ inside out
      by (Some verb.Show) = stays
      by (Some (verb.Accept screen)) = stays
      by (Some (verb.Send class message)) = stays
      by (Some verb.End) = stays
      by (Some verb.Drop) = stays
      by (Some verb.Redo) = stays
      by (Some verb.Stop) = stays
      by (Some (verb.Fault x)) = stays
      by (Some (verb.File call)) = stays
      by (Some (verb.Reply reply)) = stays
  ready-stays (Send t n c) l few out = refl
  ready-stays (Take c p t) l few out = refl
  ready-stays (File c p op mode f status) l few out = by (kept.jobs c p)
    where
      by-verb : (request : Request) (context : Context) (v : Verb) → ReadyOf (file_at system c p (Some request) context v kept) u ≡ ReadyOf kept u
      by-verb request context (verb.File call) = refl
      by-verb request context verb.Begin = refl
      by-verb request context verb.Show = refl
      by-verb request context (verb.Accept screen) = refl
      by-verb request context (verb.Send class message) = refl
      by-verb request context verb.End = refl
      by-verb request context verb.Drop = refl
      by-verb request context verb.Redo = refl
      by-verb request context verb.Stop = refl
      by-verb request context (verb.Fault x) = refl
      by-verb request context (verb.Reply reply) = refl

      by-request : (request : Option Request) (context : Context) → ReadyOf (file_at system c p request context (verb_in system context) kept) u ≡ ReadyOf kept u
      by-request None context = refl
      by-request (Some request) context = by-verb request context (verb_in system context)

      by : (o : Option Context) → ReadyOf (file_by system c p o kept) u ≡ ReadyOf kept u
      by None = refl
      by (Some context) = by-request (at_process (kept.queues c) p) context
  ready-stays (Reply c p t None) l few out = by (is_outside_at (kept.terminals t).ready)
    where
      over : (if u == t then false else is_out sys s u) ≡ true
      over = sym (outs sys b s i (Reply c p t None) l u) ∙ out

      by : (o : Bool) → ReadyOf (if o then replies_last system c p t (unit_of_ready (kept.terminals t).ready) (reply_by system (kept.jobs c p)) kept else replies_to system c p t (reply_by system (kept.jobs c p)) kept) u ≡ ReadyOf kept u
      by true = gone t _ (λ e. if e then false else is_out sys s u) over refl
      by false = gone t _ (λ e. if e then false else is_out sys s u) over refl
  ready-stays (Reply c p t (Some x)) l few out = gone t _ (λ e. if e then false else is_out sys s u) (sym (outs sys b s i (Reply c p t (Some x)) l u) ∙ out) refl
  ready-stays (Again t n) l few out = own-verb t _ inside out
    where
      inside : is_out sys s t ≡ true → ⊥
      inside is-out =
          let found = out-ok sys s i t is-out in
          let ok = found.1 in
          let number = (out-path sys b s i.terms t found.0 ok).number in
          let own = l.fits.number in
          let last = l.fits.last in
          omega (arith, number, own, last)
  ready-stays (Commit t n) l few out = own-verb t _ (asks-other sys s i t (λ c message is. let asks = l.fits.asks in absurd (cc (asks, is)))) out
  ready-stays (Back t n) l few out = own-verb t _ (asks-other sys s i t (λ c message is. let asks = l.fits.asks in absurd (cc (asks, is)))) out
  ready-stays (Restart t n cause) l few out = gone t _ (λ e. if e then false else is_out sys s u) (sym (outs sys b s i (Restart t n cause) l u) ∙ out) refl
  ready-stays (FailTcp p primary k) l few out = by primary none
    where
      over : (if is_of_pair sys p u && loses_in primary (s.modes p) then false else is_out sys s u) ≡ true
      over = sym (outs sys b s i (FailTcp p primary k) l u) ∙ out

      unless : (x out : Bool) → (if x then false else out) ≡ true → x ≡ false
      unless true o e = absurd (cc e)
      unless false o e = refl

      none : (is_among (members p) u && loses primary (kept.pairs p).mode) ≡ false
      none =
          ap₂ (λ a m. a && loses primary m) (sym (pair-among system script p (members p) (are p) u low)) (mode-is p (few p primary k refl))
          ∙ (ap (λ e. is_of_pair sys p u && e) (loses-same primary (s.modes p)) ∙ unless (is_of_pair sys p u && loses_in primary (s.modes p)) (is_out sys s u) over)

      by : (q : Bool) → (is_among (members p) u && loses q (kept.pairs p).mode) ≡ false → ReadyOf (entered system members (FailTcp p q k) kept) u ≡ ReadyOf kept u
      by true e = left-ready true (kept.pairs p).mode (members p) kept u e
      by false e = left-ready false (kept.pairs p).mode (members p) kept u e
  ready-stays (FailServer c p k) l few out = by (at_process (kept.queues c) p)
    where
      by : (o : Option Request) → ReadyOf (process_stops c p k o kept) u ≡ ReadyOf kept u
      by None = refl
      by (Some request) = at-same kept.terminals request.terminal _ u refl
  ready-stays (Takeover p) l few out =
      pick-ready (is_among (members p) u) _ _ (⊎_elim
      (λ among. absurd (works-not sys s i u Down (ap s.modes (eqb-true (sys.pair_of u) p (pair-among system script p (members p) (are p) u low ∙ among)) ∙ l.fits.down) (λ w. w) out))
      (λ other. other) (cases_Bool (is_among (members p) u)))
  ready-stays (Raise p) l few out = refl
  ready-stays (End t ending) l few out = at-same (leave_at t ending kept).terminals t _ u refl ∙ by ending
    where
      by : (e : Ending) → ReadyOf (leave_at t e kept) u ≡ ReadyOf kept u
      by Stopped = refl
      by NoEntries = left-stays (is_among (t ∷ []) u) (kept.terminals u)
      by (Fault x) = left-stays (is_among (t ∷ []) u) (kept.terminals u)
      by (Suspended cause) = left-stays (is_among (t ∷ []) u) (kept.terminals u)
      by Lost = refl
