-- What an entry leaves of what is kept of other terminals.
use Rattle.std.proofs.Common.{◌≡◌, ◌≢◌, ℕ, Bool, true, false, Some, None, refl, ap, sym, ◌∙◌}
use Rattle.std.proofs.lemmas.Bool.{cond-false, ne_eqb}
use Rattle.pw_event.specs.declared.event.Cause.TheVariants as cause
use Rattle.pw_event.specs.declared.event.Ending.{Ending}
use Rattle.pw_event.specs.declared.event.Event.{Event}
use Rattle.pw_event.specs.declared.event.Event.TheVariants as event
use Rattle.pw_onecopy.proofs.Update.{upd-other, upd_elim}
use Rattle.pw_onecopy.specs.Behaviour.{Behaviour}
use Rattle.pw_onecopy.specs.Update.{upd}
use Rattle.pw_serial_order.proofs.Keeping.{parts}
use Rattle.pw_serial_order.proofs.Seating.{seat-is, seat_with, the-term}
use Rattle.pw_serial_order.specs.Entries.{terminal_in}
use Rattle.pw_serial_order.specs.Seats.{rested}
use Rattle.pw_serial_order.specs.Shadow.{seat_of}
use Rattle.pw_paired.specs.End.{end_terminal}
use Rattle.pw_paired.specs.Serial.{Reading}
use Rattle.pw_paired.specs.State.{LastEnded, State, Term}
use Rattle.pw_paired.specs.Step.{change}
use Rattle.pw_paired.specs.Units.{leave_units, only}
use Rattle.pw_laws.proofs.induction.Failed.{end-any, process-cases}
use Rattle.pw_laws.proofs.induction.Served.{file-cases, reply-any}

-- an entry of a pair
abbrev pub is_of_pairs : Event → Bool
is_of_pairs (event.FailTcp p primary k) = true
is_of_pairs (event.Takeover p) = true
is_of_pairs (event.Raise p) = true
is_of_pairs _ = false

module _ (sys : Behaviour) (s : State) (r : Reading) (t : ℕ) (rest : rested (seat_of sys s r t) ≡ seat_of sys s r t) where
  -- the terminal's parts are as they were
  abbrev pub Stays : State → Type 0
  Stays x = parts sys s r t rest x ≡ seat_of sys s r t

  last-other : (own : ℕ) (l : LastEnded) → t ≢ own → (upd s.ended own l t).number ≡ (s.ended t).number
  last-other own l differ = ap (λ (x : LastEnded). x.number) (upd-other s.ended own l t differ)

  -- another terminal is answered, or its unit ends too
  term-other : (own : ℕ) (term : Term) → t ≢ own → upd s.terms own term t ≡ s.terms t
  term-other own term differ = upd-other s.terms own term t differ

  -- another terminal ends
  end-other : (own : ℕ) (e : Ending) (x : State) → t ≢ own → Stays x → Stays (end_terminal own e x)
  end-other own e x differ same =
      seat-is refl refl (upd-other x.memory own None t differ) (upd-other x.flight own None t differ) (upd-other x.terms own _ t differ) ∙ same

  left-other : (own : ℕ) → t ≢ own → Stays (leave_units sys (only own) s)
  left-other own differ =
      seat-is {term' = s.terms t} (ap (λ (x : LastEnded). x.number) (cond-false (only own t) _ (s.ended t) (ne_eqb t own differ))) (cond-false (only own t) None (s.units t) (ne_eqb t own differ)) refl refl refl

  -- a pending cause is not kept
  pends : (own k : ℕ) → seat_with (sys.pair_of t) (s.ended t).number (s.units t) (s.memory t) (s.flight t)
      (upd s.terms own (record (s.terms own) { pending = Some (cause.Server k) }) t) (r.longest t) ≡ seat_of sys s r t
  pends own k =
      upd_elim s.terms own _ t (λ (term : Term). seat_with (sys.pair_of t) (s.ended t).number (s.units t) (s.memory t) (s.flight t) term (r.longest t) ≡ seat_of sys s r t)
      (λ same. ap (λ (o : ℕ). seat_with (sys.pair_of t) (s.ended t).number (s.units t) (s.memory t) (s.flight t) (s.terms o) (r.longest t)) (sym same)) (λ _. refl)

  apart : (own : ℕ) → Some own ≢ Some t → t ≢ own
  apart own other same = other (ap Some (sym same))

  -- an entry of another terminal, or of none
  pub stays : (entry : Event) → is_of_pairs entry ≡ false → terminal_in entry ≢ Some t → Stays (change sys s entry)
  stays (event.Show own phase attempt k) single other = seat-is refl refl refl refl (term-other own _ (apart own other))
  stays (event.Key own k) single other = seat-is refl refl refl refl (term-other own _ (apart own other))
  stays (event.CheckStart own) single other = seat-is refl refl refl (upd-other s.flight own _ t (apart own other)) (the-term (s.terms t))
  stays (event.CheckEnd own) single other = seat-is refl refl refl (upd-other s.flight own _ t (apart own other)) (the-term (s.terms t))
  stays (event.CheckCopy own) single other = seat-is refl refl refl (upd-other s.flight own _ t (apart own other)) (the-term (s.terms t))
  stays (event.Applied own) single other = seat-is refl refl (upd-other s.memory own _ t (apart own other)) (upd-other s.flight own _ t (apart own other)) (the-term (s.terms t))
  stays (event.Begin own n k) single other = seat-is refl (upd-other s.units own _ t (apart own other)) refl refl (term-other own _ (apart own other))
  stays (event.Send own n c) single other = refl
  stays (event.Take c i own) single other = refl
  stays (event.File c i op mode f status) single other = file-cases sys s c i Stays refl (λ job call works asks. refl)
  stays (event.Reply c i own fault) single other =
      reply-any sys s c i own Stays fault
      (λ reply outside. seat-is (last-other own _ (apart own other)) (upd-other s.units own None t (apart own other)) refl refl (term-other own _ (apart own other)))
      (λ reply inside. seat-is refl refl refl refl (term-other own _ (apart own other)))
      (λ x. seat-is refl refl refl refl (term-other own _ (apart own other)))
  stays (event.Again own n) single other = seat-is refl refl refl refl (term-other own _ (apart own other))
  stays (event.Commit own n) single other = seat-is (last-other own _ (apart own other)) (upd-other s.units own None t (apart own other)) refl refl (term-other own _ (apart own other))
  stays (event.Back own n) single other = seat-is (last-other own _ (apart own other)) (upd-other s.units own None t (apart own other)) refl refl (term-other own _ (apart own other))
  stays (event.Restart own n kind) single other = seat-is refl (upd-other s.units own _ t (apart own other)) refl refl (term-other own _ (apart own other))
  stays (event.FailTcp p primary k) single other = absurd (cc single)
  stays (event.FailServer c i k) single other = process-cases sys s Stays c i k refl (λ job works. pends job.request.terminal k)
  stays (event.Takeover p) single other = absurd (cc single)
  stays (event.Raise p) single other = absurd (cc single)
  stays (event.End own e) single other =
      end-any sys s Stays own e (end-other own e s (apart own other) refl) (end-other own e (leave_units sys (only own) s) (apart own other) (left-other own (apart own other)))
