-- What is kept behind any entry stands for the state behind it.
use Rattle.std.proofs.Common.{◌≡◌, ℕ, List, [], ◌∷◌, ◌++◌, Some, false, refl, sym, ap, subst}
use Rattle.pw_code.specs.declared.system.System.{System}
use Rattle.pw_code.specs.declared.system.TermInfo.{TermInfo}
use Rattle.pw_code.specs.declared.verb.Verb.{Verb}
use Rattle.pw_code.specs.declared.verb.Verb.TheVariants as verb
use Rattle.pw_event.specs.declared.event.Event.{Event}
use Rattle.pw_event.specs.declared.event.Event.TheVariants.{Show, Key, CheckStart, CheckEnd, CheckCopy, Applied, Begin, Send, Take, File, Reply, Again, Commit, Back, Restart, FailTcp, FailServer, Takeover, Raise, End}
use Rattle.pw_event.specs.declared.script.FailLine.{FailLine}
use Rattle.pw_code_meaning.specs.OfSystem.{behaviour, number_by}
use Rattle.pw_world_state.specs.Changes.{kept_applied, kept_end, leave_at}
use Rattle.pw_world_state.specs.Entered.{entered, entered_begin, entered_check_end, tcp_of}
use Rattle.pw_world_state.specs.Kept.{Kept}
use Rattle.pw_world_state.specs.Members.{AreOf, KnowsAll}
use Rattle.pw_world_state.specs.Needs.{ClosingFits, MayBeginAt, Needs}
use Rattle.pw_world_state.specs.Stands.{Stands}
use Rattle.pw_world_state.specs.Tested.{IsPlaced}
use Rattle.pw_world_state.proofs.Agreeing.{agrees-of, tells-left}
use Rattle.pw_world_state.proofs.Applied.{applied-stands}
use Rattle.pw_world_state.proofs.Behind.{again-enters, key-enters, show-enters}
use Rattle.pw_tmf.proofs.Leaving.{tells-same}
use Rattle.pw_world_state.proofs.Ending.{end-stands, left-at}
use Rattle.pw_world_state.proofs.Failing.{fails-stands}
use Rattle.pw_world_state.proofs.Leaving.{cancel-stands, left-stands}
use Rattle.pw_world_state.proofs.OfRuns.{can-leave, knows-all, whole-down}
use Rattle.pw_world_state.proofs.Raised.{raise-stands}
use Rattle.pw_world_state.proofs.Restarted.{restart-stands}
use Rattle.pw_world_state.proofs.Sending.{back-enters, begin-enters, begin-send-enters, check-copy-enters, check-drop-enters, check-end-enters, check-start-enters, commit-enters, send-enters}
use Rattle.pw_world_state.proofs.Served as served
use Rattle.pw_world_state.proofs.TakenOver.{takeover-stands}
use Rattle.pw_world_state.proofs.Working.{file-enters, reply-any-enters, take-enters}
use Rattle.pw_onecopy.specs.Attempt.{BeginsUnit}
use Rattle.pw_onecopy.specs.IsBehaviour.{IsBehaviour}
use Rattle.pw_paired.specs.End.{do_end, leave_unit_at}
use Rattle.pw_paired.specs.Failure.{is_of_pair}
use Rattle.pw_paired.specs.Raising.{do_applied, lacks_one}
use Rattle.pw_paired.specs.State.{Down, State, starting}
use Rattle.pw_paired.specs.Step.{Fits, IsRun, Legal, after, change, effect}
use Rattle.pw_laws.proofs.RunSteps.{after_from-append}
use Rattle.pw_paired.specs.Terminal.{LegalBegin, LegalCheckEnd, closing_answer, do_begin, do_check_end, next_verb, path_of}
use Rattle.pw_tmf.specs.Leaving.{CanLeave}

module _ (system : System) (script : List FailLine) (members : ℕ → List ℕ) (state : State) (kept : Kept) (stands : Stands system script state kept)
    (are : (p : ℕ) → AreOf system p (members p)) (knows : KnowsAll (behaviour script system) state) (may : CanLeave (behaviour script system) state)
    (whole : (p : ℕ) → state.modes p ≡ Down → lacks_one (behaviour script system) p state ≡ false) where
  -- the pair of a terminal
  tcp-is : (t : ℕ) (placed : IsPlaced system t) → tcp_of system t ≡ placed.info.tcp
  tcp-is t placed = ap (number_by (λ (x : TermInfo). x.tcp)) placed.here

  -- a verb that begins a unit is Begin or Send
  begins : (t n r : ℕ) → MayBeginAt system script state kept t n → LegalBegin (behaviour script system) state t n r → Stands system script (do_begin (behaviour script system) t n r state) (entered_begin system t n r kept)
  begins t n r at legal = by (next_verb (behaviour script system) state t) refl legal.begins
    where
      by : (v : Verb) → next_verb (behaviour script system) state t ≡ v → BeginsUnit v (path_of state t) → Stands system script (do_begin (behaviour script system) t n r state) (entered_begin system t n r kept)
      by verb.Begin asks b = begin-enters system script state kept t stands at.asking n r legal at.number asks
      by (verb.Send class message) asks b = begin-send-enters system script state kept t stands at.asking n r class message legal at.number asks
      by verb.Show asks b = absurd b
      by (verb.Accept screen) asks b = absurd b
      by verb.End asks b = absurd b
      by verb.Drop asks b = absurd b
      by verb.Redo asks b = absurd b
      by verb.Stop asks b = absurd b
      by (verb.Fault code) asks b = absurd b
      by (verb.File call) asks b = absurd b
      by (verb.Reply reply) asks b = absurd b

  -- a verb that ends a transaction is End or Drop
  closes : (t : ℕ) → ClosingFits system script state kept t → LegalCheckEnd (behaviour script system) state t → Stands system script (do_check_end (behaviour script system) t state) (entered_check_end system t kept)
  closes t fits legal = by (next_verb (behaviour script system) state t) refl legal.closes
    where
      by : (v : Verb) → next_verb (behaviour script system) state t ≡ v → closing_answer v ≡ Some legal.answer → Stands system script (do_check_end (behaviour script system) t state) (entered_check_end system t kept)
      by verb.End asks e = check-end-enters system script state kept t stands fits.asking asks (fits.ends asks).0 (fits.ends asks).1 legal
      by verb.Drop asks e = check-drop-enters system script state kept t stands fits.asking asks (fits.drops asks).0 (fits.drops asks).1 legal
      by verb.Begin asks e = absurd (cc e)
      by (verb.Send class message) asks e = absurd (cc e)
      by verb.Show asks e = absurd (cc e)
      by (verb.Accept screen) asks e = absurd (cc e)
      by verb.Redo asks e = absurd (cc e)
      by verb.Stop asks e = absurd (cc e)
      by (verb.Fault code) asks e = absurd (cc e)
      by (verb.File call) asks e = absurd (cc e)
      by (verb.Reply reply) asks e = absurd (cc e)

  changed : (entry : Event) → Fits (behaviour script system) state entry → Needs system script state kept entry → Stands system script (change (behaviour script system) state entry) (entered system members entry kept)
  changed (Show t phase attempt k) fits needs = show-enters system script state kept t stands needs
  changed (Key t k) fits needs = key-enters system script state kept t stands needs k
  changed (CheckStart t) fits needs = check-start-enters system script state kept t stands needs.0 needs.1.own needs.1.there needs.1.carries fits
  changed (CheckEnd t) fits needs = closes t needs fits
  changed (CheckCopy t) fits needs = check-copy-enters system script state kept t stands needs.0 needs.1.own needs.1.there needs.1.carries fits
  changed (Applied t) fits needs =
      subst (λ p. Stands system script (do_applied (behaviour script system) t state) (kept_applied p t kept)) (sym (tcp-is t needs))
      (applied-stands system script state kept t needs.info stands needs.here)
  changed (Begin t n r) fits needs = begins t n r needs fits
  changed (Send t n c) fits needs = send-enters system script state kept t stands needs n c fits
  changed (Take c i t) fits needs = take-enters system script state kept stands c i t needs.info needs.here fits
  changed (File c i op mode f status) fits needs = file-enters system script state kept stands c i needs op mode f status fits
  changed (Reply c i t fault) fits needs = reply-any-enters system script state kept stands c i needs.0 t needs.1 fault
  changed (Again t n) fits needs = again-enters system script state kept t stands needs
  changed (Commit t n) fits needs = commit-enters system script state kept t stands needs n
  changed (Back t n) fits needs = back-enters system script state kept t stands needs n
  changed (Restart t n cause) fits needs = restart-stands system script state kept t n cause fits.unit fits.caused.start stands fits.caused.is_open fits.caused.runs
  changed (FailTcp p primary k) fits few =
      let agrees = agrees-of system script p (members p) state (are p) knows in
      fails-stands system script p (members p) (are p) few state kept stands
      (cancel-stands system script state kept (is_of_pair (behaviour script system) p) (members p) stands agrees)
      (left-stands system script state kept (is_of_pair (behaviour script system) p) (members p) stands agrees
      (tells-left system script p (members p) state kept (are p) knows may stands)) primary
  changed (FailServer c i k) fits needs = served.fails-stands system script state kept c i k needs.class.info stands needs.class.here needs.low needs.high
  changed (Takeover p) fits few = takeover-stands system script state kept p (members p) stands fits.down few (are p) (whole p fits.down)
  changed (Raise p) fits needs = raise-stands system script state kept p stands fits.alone
  changed (End t ending) fits needs =
      subst (λ p. Stands system script (do_end (behaviour script system) t ending state) (kept_end p t ending kept)) (sym (tcp-is t needs))
      (end-stands system script (leave_unit_at (behaviour script system) t ending state) (leave_at t ending kept) t needs.info ending
      (left-at system script state kept t stands may ending) needs.here)

-- what is kept stands whatever the log is
logged : (system : System) (script : List FailLine) (state : State) (kept : Kept) (log : List Event) → Stands system script state kept → Stands system script (record state { log = log }) kept
logged system script state kept log stands = record {
  terminals = stands.terminals;
  disc = tells-same (behaviour script system) state (record state { log = log }) kept.disc refl refl refl refl refl stands.disc;
  classes = stands.classes;
  pairs = stands.pairs;
  births = stands.births;
}

pub entry-enters : (system : System) (script : List FailLine) (members : ℕ → List ℕ) (state : State) (kept : Kept) (entry : Event) → Stands system script state kept → ((p : ℕ) → AreOf system p (members p))
    → KnowsAll (behaviour script system) state → CanLeave (behaviour script system) state
    → ((p : ℕ) → state.modes p ≡ Down → lacks_one (behaviour script system) p state ≡ false)
    → Legal (behaviour script system) state entry → Needs system script state kept entry
    → Stands system script (effect (behaviour script system) state entry) (entered system members entry kept)
entry-enters system script members state kept entry stands are knows may whole legal needs =
    logged system script (change (behaviour script system) state entry) (entered system members entry kept) (state.log ++ entry ∷ [])
    (changed system script members state kept stands are knows may whole entry legal.fits needs)

pub next-enters : (system : System) (script : List FailLine) (members : ℕ → List ℕ) (log : List Event) (kept : Kept) (entry : Event) → IsBehaviour (behaviour script system) → IsRun (behaviour script system) log
    → ((p : ℕ) → AreOf system p (members p)) → Stands system script (after (behaviour script system) log) kept → Legal (behaviour script system) (after (behaviour script system) log) entry
    → Needs system script (after (behaviour script system) log) kept entry
    → Stands system script (after (behaviour script system) (log ++ entry ∷ [])) (entered system members entry kept)
next-enters system script members log kept entry b run are stands legal needs =
    subst (λ s. Stands system script s (entered system members entry kept)) (sym (after_from-append (behaviour script system) (starting (behaviour script system)) log (entry ∷ [])))
    (entry-enters system script members (after (behaviour script system) log) kept entry stands are
    (knows-all (behaviour script system) b log run) (can-leave (behaviour script system) b log run) (whole-down (behaviour script system) b log run) legal needs)
