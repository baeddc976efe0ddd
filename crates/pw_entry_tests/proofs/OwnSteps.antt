-- The entry that a terminal's next step names is a step, and where it waits none at its verb is.
use Rattle.std.proofs.Common.{◌≡◌, ℕ, ◌<◌, ◌&&◌, [], Option, None, Some, Bool, true, false, cond, length, is_some, refl, sym, ap, ap₂, subst, ◌∙◌}
use Rattle.std.specs.Option.{ForSome, IfSome}
use Rattle.pw_base.proofs.Plain.{cond_passed}
use Rattle.pw_code.specs.declared.context.Context.{Context}
use Rattle.pw_code.specs.declared.system.System.{System}
use Rattle.pw_code.specs.declared.verb.Verb.{Verb}
use Rattle.pw_event.specs.declared.event.Cause.{Cause}
use Rattle.pw_event.specs.declared.event.Cause.TheVariants as cause
use Rattle.pw_event.specs.declared.event.Event.{Event}
use Rattle.pw_image.specs.Image.{image_of}
use Rattle.pw_pair.specs.Pairs.{passes}
use Rattle.pw_pair.specs.Seats.{holds_end}
use Rattle.pw_pair.specs.declared.mode.Mode.{Mode}
use Rattle.pw_pair.specs.declared.mode.Mode.TheVariants.{Alone, Raising, Paired, Down, Gone}
use Rattle.pw_tcp.specs.NextStep.{is_calm, needs_end, needs_start, next_step_of}
use Rattle.pw_tcp.specs.declared.step.TcpStep.{TcpStep}
use Rattle.pw_tcp.specs.declared.step.TcpStep.TheVariants as step
use Rattle.pw_tcp.specs.declared.terminal.Note.{Note}
use Rattle.pw_tcp.specs.declared.terminal.Terminal.{Terminal}
use Rattle.pw_world_state.specs.CauseTests.{most_restarts}
use Rattle.pw_world_state.specs.Kept.{Kept}
use Rattle.pw_world_state.specs.May.{may}
use Rattle.pw_world_state.specs.Meeting.{IsRedoRead}
use Rattle.pw_world_state.specs.NextSteps.{HasNoVerbStep, MayStepAt, closed_held, entry_at, has_member, kept_cause, next_step_at, note_at, plain_note_at, standing, terminal_at}
use Rattle.pw_world_state.specs.Read.{IsRead}
use Rattle.pw_world_state.specs.TerminalTests.{is_live, is_paired, seat_at, seen_pair_of, start_held}
use Rattle.pw_world_store.specs.declared.seat.Ready.{Ready}
use Rattle.pw_entry_tests.proofs.EndTests.{closed-same}
use Rattle.pw_entry_tests.specs.Images.{behind_end}
use Rattle.pw_entry_tests.specs.Known.{StandsThere, stepping}
use Rattle.pw_entry_tests.specs.Steps.{IsFoundOr, next_entry_at}

-- ---- what holds of the one value, and of none

pub for-one : (o : Option Context) (P : Context → Type 0) (at : Context) → o ≡ Some at → P at → ForSome o P
for-one o P at is h context found = let same : at ≡ context = cc (sym is ∙ found) in subst P same h

pub for-none : (o : Option Context) (P : Context → Type 0) → o ≡ None → ForSome o P
for-none o P is context found = absurd (cc (sym is ∙ found))

-- ---- where a terminal stands nowhere it cannot step

none-can : (live paired calm member : Bool) (ready : Option Context) → (paired ≡ true → member ≡ true)
    → cond (live && member) ready None ≡ None → cond (live && (paired && calm)) ready None ≡ None
none-can false paired calm member ready has none = refl
none-can true false calm member ready has none = refl
none-can true true calm member ready has none = cases calm
  where
    cases : (b : Bool) → cond b ready None ≡ None
    cases false = refl
    cases true = ap (λ b. cond b ready None) (sym (has refl)) ∙ none

paired-member : (mode : Mode) → is_paired mode ≡ true → has_member mode ≡ true
paired-member Paired e = refl
paired-member Alone e = absurd (cc e)
paired-member Raising e = absurd (cc e)
paired-member Down e = absurd (cc e)
paired-member Gone e = absurd (cc e)

pub stands-nowhere : (system : System) (kept : Kept) (t : ℕ) → standing system kept t ≡ None → stepping system kept t ≡ None
stands-nowhere system kept t none =
    none-can (is_live system kept t) (is_paired (seen_pair_of system kept t).mode) _ (has_member (seen_pair_of system kept t).mode) (kept.terminals t).ready
    (paired-member (seen_pair_of system kept t).mode) none

-- ---- the entry that a step names

module _ (system : System) (kept : Kept) (t : ℕ) (low : t < length system.terminals) (at : Ready) (stands : StandsThere system kept t at) where
  abbrev context : Context
  context = at.context

  read : IsRead system kept t
  read can = ap is_some (cond_passed (is_live system kept t && has_member (seen_pair_of system kept t).mode) (kept.terminals t).ready context stands.stands).1

  redo-read : (why : Cause) → IsRedoRead system kept t why
  redo-read cause.Redo = read
  redo-read (cause.Takeover p) = tt
  redo-read (cause.Server k) = tt
  redo-read (cause.Older o m) = tt

  named : (s : TcpStep) → IfSome (entry_at system kept t context s) (λ e. may system [] kept e ≡ true) → (s ≡ step.Wait → HasNoVerbStep system kept t)
      → IsFoundOr system kept t (HasNoVerbStep system kept t) (entry_at system kept t context s)
  named step.Show p waits = record { own = refl; there = low; read = read; passes = p }
  named step.Key p waits = record { own = refl; there = low; read = read; passes = p }
  named step.CheckStart p waits = record { own = refl; there = low; read = read; passes = p }
  named step.CheckEnd p waits = record { own = refl; there = low; read = read; passes = p }
  named step.Begin p waits = record { own = refl; there = low; read = read; passes = p }
  named step.Again p waits = record { own = refl; there = low; read = read; passes = p }
  named step.Send p waits = record { own = refl; there = low; read = read; passes = p }
  named step.Commit p waits = record { own = refl; there = low; read = read; passes = p }
  named step.Back p waits = record { own = refl; there = low; read = read; passes = p }
  named step.Restart p waits = record { own = refl; there = low; read = redo-read (kept_cause kept t); passes = p }
  named step.Suspend p waits = record { own = refl; there = low; read = redo-read (kept_cause kept t); passes = p }
  named step.Stopped p waits = record { own = refl; there = low; read = read; passes = p }
  named step.NoEntries p waits = record { own = refl; there = low; read = read; passes = p }
  named (step.Fault code) p waits = record { own = refl; there = low; read = read; passes = p }
  named step.Wait p waits = waits refl

  -- it is a step, and where the terminal waits there is none
  pub found : MayStepAt system kept t context → (entry : Option Event) → entry ≡ next_entry_at system kept t context
      → IsFoundOr system kept t (HasNoVerbStep system kept t) entry
  found asked entry is =
      subst (IsFoundOr system kept t (HasNoVerbStep system kept t)) (sym is) (named (next_step_at system kept t context) asked.passes asked.waits)

  -- ---- what the step is told

  module _ (own : Terminal) (own-is : own ≡ terminal_at system kept t context) where
    pub noted : (plain : Note) → plain ≡ plain_note_at system kept t → (start end : Bool)
        → start ≡ (needs_start own at.verb context.in_unit plain && start_held system kept t own.unit)
        → end ≡ (needs_end own at.verb plain && passes (holds_end (image_of (behind_end context))) (seat_at system kept t))
        → record plain { start_held = start; end_held = end } ≡ note_at system kept t context
    noted plain plain-is start end start-is end-is =
        ap₂ (λ s e. record plain { start_held = s; end_held = e }) start-is (end-is ∙ closed-same system kept t context (is_calm own plain) at.verb stands.verb)
        ∙ (ap₂ (λ o p. by o p at.verb) own-is plain-is ∙ ap (by (terminal_at system kept t context) (plain_note_at system kept t)) stands.verb)
      where
        by : Terminal → Note → Verb → Note
        by o p v = record p {
          start_held = needs_start o v context.in_unit p && start_held system kept t o.unit;
          end_held = needs_end o v p && closed_held system kept t context;
        }

    -- the entry that is named is that of the next step
    pub told : (note : Note) → note ≡ note_at system kept t context → (most : ℕ) → most ≡ most_restarts system t → (s : TcpStep)
        → s ≡ next_step_of own at.verb context.in_unit note most → (entry : Option Event) → entry ≡ entry_at system kept t context s → entry ≡ next_entry_at system kept t context
    told note note-is most most-is s s-is entry entry-is =
        entry-is
        ∙ ap (entry_at system kept t context)
        (s-is
        ∙ (ap₂ (λ o n. next_step_of o at.verb context.in_unit n most) own-is note-is
        ∙ ap₂ (λ v m. next_step_of (terminal_at system kept t context) v context.in_unit (note_at system kept t context) m) stands.verb most-is))
