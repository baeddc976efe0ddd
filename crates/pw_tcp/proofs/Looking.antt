-- The next step looks at what the backup holds only where it needs that.
use Rattle.std.proofs.Common.{◌≡◌, ℕ, Bool, true, false, ◌&&◌, ◌||◌, cond, not, refl, sym, ap, ap₂, ◌∙◌}
use Rattle.std.proofs.lemmas.Bool.{and_from, true≢false}
use Rattle.pw_code.specs.declared.verb.Verb.{Verb}
use Rattle.pw_code.specs.declared.verb.Verb.TheVariants as verb
use Rattle.pw_tcp.specs.NextStep.{SaysEnough, check_of, ends_unit, held_step, is_calm, is_pending, is_restarting, is_to_begin, lacks_check, needs_end, needs_start, next_step_of, restart_of}
use Rattle.pw_tcp.specs.declared.step.TcpStep.{TcpStep}
use Rattle.pw_tcp.specs.declared.step.TcpStep.TheVariants as step
use Rattle.pw_tcp.specs.declared.terminal.Note.{Note}
use Rattle.pw_tcp.specs.declared.terminal.Pending.{Pending}
use Rattle.pw_tcp.specs.declared.terminal.Pending.TheVariants.{Nothing, Server, Takeover}
use Rattle.pw_tcp.specs.declared.terminal.Terminal.{Terminal}

-- where the pair is Paired and no restart is due, no cause is pending
calm-of : (pending : Pending) (v : Verb) (paired : Bool) → is_restarting pending v paired ≡ false → paired ≡ true → (paired && not (is_pending pending)) ≡ true
calm-of Takeover v paired h p = absurd (true≢false h)
calm-of Server v paired h p = absurd (true≢false (sym p ∙ h))
calm-of Nothing v paired h p = ap (λ b. b && true) p

-- a test that comes behind another matters only where that passes
guard : (b c d : Bool) → (b ≡ true → c ≡ d) → (b && not c) ≡ (b && not d)
guard true c d same = ap not (same refl)
guard false c d same = refl

module _ (terminal : Terminal) (in_unit : Bool) (note : Note) (start end : Bool) where
  -- the note with these in the place of what is held
  abbrev told : Note
  told = record { paired = note.paired; in_flight = note.in_flight; start_held = start; end_held = end; ended = note.ended }

  held-same : (v : Verb) → held_step terminal v in_unit told ≡ held_step terminal v in_unit note
  held-same verb.Show = refl
  held-same (verb.Accept screen) = refl
  held-same verb.Begin = refl
  held-same (verb.Send class message) = refl
  held-same verb.End = refl
  held-same verb.Drop = refl
  held-same verb.Redo = refl
  held-same verb.Stop = refl
  held-same (verb.Fault code) = refl
  held-same (verb.File call) = refl
  held-same (verb.Reply reply) = refl

  starts : (v : Verb) → is_calm terminal note ≡ true → (needs_start terminal v in_unit note ≡ true → start ≡ note.start_held)
      → (is_to_begin terminal v in_unit note && not start) ≡ (is_to_begin terminal v in_unit note && not note.start_held)
  starts v calm same =
      guard (is_to_begin terminal v in_unit note) start note.start_held
      (λ begins. same (and_from (is_calm terminal note) (is_to_begin terminal v in_unit note) calm begins))

  ends : (v : Verb) → is_calm terminal note ≡ true → ends_unit v ≡ true → (needs_end terminal v note ≡ true → end ≡ note.end_held) → not end ≡ not note.end_held
  ends v calm closes same = ap not (same (and_from (is_calm terminal note) (ends_unit v) calm closes))

  lacks-same : (v : Verb) → is_calm terminal note ≡ true → (needs_start terminal v in_unit note ≡ true → start ≡ note.start_held)
      → (needs_end terminal v note ≡ true → end ≡ note.end_held) → lacks_check terminal v in_unit told ≡ lacks_check terminal v in_unit note
  lacks-same verb.End calm s e = ends verb.End calm refl e
  lacks-same verb.Drop calm s e = ends verb.Drop calm refl e
  lacks-same verb.Show calm s e = starts verb.Show calm s
  lacks-same (verb.Accept screen) calm s e = starts (verb.Accept screen) calm s
  lacks-same verb.Begin calm s e = starts verb.Begin calm s
  lacks-same (verb.Send class message) calm s e = starts (verb.Send class message) calm s
  lacks-same verb.Redo calm s e = starts verb.Redo calm s
  lacks-same verb.Stop calm s e = starts verb.Stop calm s
  lacks-same (verb.Fault code) calm s e = starts (verb.Fault code) calm s
  lacks-same (verb.File call) calm s e = starts (verb.File call) calm s
  lacks-same (verb.Reply reply) calm s e = starts (verb.Reply reply) calm s

  -- the step by whether a restart is due, whether the pair is Paired, and whether a check is lacking
  abbrev chosen : Verb → ℕ → Bool → Bool → Bool → TcpStep → TcpStep
  chosen v max restarts paired lacks held =
      cond restarts (restart_of terminal.restarts max)
      (cond (not paired || terminal.request_out || terminal.awaited_open || (note.in_flight && lacks)) step.Wait (cond lacks (check_of v) held))

  step-same : (v : Verb) (max : ℕ) → (needs_start terminal v in_unit note ≡ true → start ≡ note.start_held)
      → (needs_end terminal v note ≡ true → end ≡ note.end_held) → next_step_of terminal v in_unit told max ≡ next_step_of terminal v in_unit note max
  step-same v max s e = by (is_restarting terminal.pending v note.paired) refl note.paired refl
    where
      by : (restarts : Bool) → is_restarting terminal.pending v note.paired ≡ restarts → (paired : Bool) → note.paired ≡ paired
          → chosen v max restarts paired (lacks_check terminal v in_unit told) (held_step terminal v in_unit told)
          ≡ chosen v max restarts paired (lacks_check terminal v in_unit note) (held_step terminal v in_unit note)
      by true r paired p = refl
      by false r true p =
          ap₂ (λ (l : Bool) (h : TcpStep). chosen v max false true l h)
          (lacks-same v (calm-of terminal.pending v note.paired r p) s e) (held-same v)
      by false r false p = refl

-- a note that says enough has the same step
pub says-enough : (terminal : Terminal) (asked : Verb) (in_unit : Bool) (note other : Note) (max : ℕ) → SaysEnough terminal asked in_unit note other
    → next_step_of terminal asked in_unit other max ≡ next_step_of terminal asked in_unit note max
says-enough terminal asked in_unit note other max says =
    ap (λ (n : Note). next_step_of terminal asked in_unit n max) same
    ∙ step-same terminal in_unit note other.start_held other.end_held asked max says.start says.end
  where
    same : other ≡ record { paired = note.paired; in_flight = note.in_flight; start_held = other.start_held; end_held = other.end_held; ended = note.ended }
    same =
        ap (λ (p : Bool). record other { paired = p }) says.paired
        ∙ (ap (λ (f : Bool). record other { paired = note.paired; in_flight = f }) says.in_flight
        ∙ ap (λ (n : ℕ). record other { paired = note.paired; in_flight = note.in_flight; ended = n }) says.ended)
