-- What an entry of a terminal makes of what is kept of it.
use Rattle.std.proofs.Common.{◌≡◌, ℕ, ◌+◌, Bool, true, false, not, max, is_none, List, [], ◌∷◌, ◌++◌, Option, Some, None, unwrap_or, if◌then◌else◌, refl, ap, sym, subst, ◌∙◌}
use Rattle.std.proofs.lemmas.Bool.{cond-true, eq-eqb}
use Rattle.std.specs.Option.{option_map}
use Rattle.pw_code.specs.declared.verb.Verb.{Verb}
use Rattle.pw_code.specs.declared.verb.Verb.TheVariants as verb
use Rattle.pw_event.specs.declared.event.Cause.{Cause}
use Rattle.pw_event.specs.declared.event.Ending.{Ending}
use Rattle.pw_event.specs.declared.event.Ending.TheVariants as ending
use Rattle.pw_event.specs.declared.event.Event.TheVariants as event
use Rattle.pw_onecopy.proofs.Update.{upd-same}
use Rattle.pw_onecopy.specs.Attempt.{BeginsUnit}
use Rattle.pw_onecopy.specs.Behaviour.{Behaviour}
use Rattle.pw_onecopy.specs.Path.{Dropped, Ended, Entry, Failed, PathAnswer, Replied, Shown, is_outside, unit_number}
use Rattle.pw_serial_order.proofs.Marking.{mark-begun, mark-closing, mark-plain, mark-reply-inside, mark-reply-outside}
use Rattle.pw_serial_order.proofs.Seating.{running-is, seat-is, seat_with, the-term}
use Rattle.pw_serial_order.specs.Entries.{leaves, seat_behind_reply}
use Rattle.pw_serial_order.specs.Marks.{mark_begun, mark_closed, mark_more}
use Rattle.pw_serial_order.specs.Seats.{again, path_answered, applied, at_path, attempt_begun, check_copy, check_end, check_start, done, unit_closed, last_left, send_replied, rested, attempt_restarted, running_of, taken_in, with_attempt, without_attempt}
use Rattle.pw_serial_order.specs.Shadow.{IsOneSendFlag, flight_of, held_of, is_send, mark_of, open_of, seat_of}
use Rattle.pw_serial_order.specs.declared.mark.PathMark.{PathMark}
use Rattle.pw_serial_order.specs.declared.seat.CheckpointInFlight.TheVariants as flight
use Rattle.pw_serial_order.specs.declared.seat.HeldMarks.{HeldMarks}
use Rattle.pw_serial_order.specs.declared.seat.MarkedUnit as order_unit
use Rattle.pw_serial_order.specs.declared.seat.OrderSeat.{OrderSeat}
use Rattle.pw_paired.specs.End.{end_terminal}
use Rattle.pw_paired.specs.Failure.{with_restart, with_start_path}
use Rattle.pw_paired.specs.Raising.{copied_path, with_message}
use Rattle.pw_paired.specs.Serial.{Reading}
use Rattle.pw_paired.specs.Server.{free_process, reply_at}
use Rattle.pw_paired.specs.State.{BackupCopy, Copy, End, LastEnded, Message, OpenUnit, Start, State, Term}
use Rattle.pw_paired.specs.Step.{Fits, change}
use Rattle.pw_paired.specs.Terminal.{begun_path, closing_answer, kept_reply, next_verb, path_of, path_with, unit_with_attempt}
use Rattle.pw_paired.specs.Units.{attempt_of, commit_unit, give_answer, last_after_leaving, leave_units, only}
use Rattle.pw_laws.proofs.Paths.{Dropped-closing, Ended-closing, Entry-plain, Failed-plain, IsClosing, IsPlain, Shown-plain}

-- what closes a transaction ends a unit
closing-ends : (v : Verb) (a : PathAnswer) → closing_answer v ≡ Some a → IsClosing a
closing-ends verb.End a is = subst IsClosing (cc is) Ended-closing
closing-ends verb.Drop a is = subst IsClosing (cc is) Dropped-closing
closing-ends _ a is = absurd (cc is)

-- a message that is taken in
taken-is : (flight : Option Message) (memory : Option BackupCopy)
    → option_map held_of (with_message flight memory) ≡ taken_in (option_map flight_of flight) (option_map held_of memory)
taken-is None memory = refl
taken-is (Some (Start unit path)) memory = refl
taken-is (Some (Copy unit path)) memory = refl
taken-is (Some (End path)) None = refl
taken-is (Some (End path)) (Some held) = refl

-- an attempt that begins
attempt-is : (n birth : ℕ) (path : List PathAnswer) (unit : Option OpenUnit)
    → option_map open_of (Some (unit_with_attempt n birth path unit)) ≡ Some (with_attempt n (mark_of path) (option_map open_of unit))
attempt-is n birth path None = refl
attempt-is n birth path (Some unit) = refl

begun-is : (r : ℕ) (v : Verb) (path : List PathAnswer) → BeginsUnit v path
    → mark_of (begun_path r v path) ≡ (if is_send v then mark_of path else mark_begun (mark_of path))
begun-is r verb.Begin path begins = mark-begun r path
begun-is r (verb.Send class message) path begins = refl
begun-is r _ path begins = absurd begins

-- an attempt that goes back
restart-is : (cause : Cause) (unit : Option OpenUnit) → option_map open_of (with_restart cause unit) ≡ without_attempt (option_map open_of unit)
restart-is cause None = refl
restart-is cause (Some unit) = refl

start-is : (q : Option (List PathAnswer)) (term : Term) → mark_of (with_start_path q term).path ≡ unwrap_or (option_map mark_of q) (mark_of term.path)
start-is None term = refl
start-is (Some q) term = refl

start-ending : (q : Option (List PathAnswer)) (term : Term) → (with_start_path q term).ending ≡ term.ending
start-ending None term = refl
start-ending (Some q) term = refl

copied-is : (q : Option (List PathAnswer)) (path : List PathAnswer) → mark_of (unwrap_or q path) ≡ unwrap_or (option_map mark_of q) (mark_of path)
copied-is None path = refl
copied-is (Some q) path = refl

-- a unit that is left
pub left-is : (unit : Option OpenUnit) (last : LastEnded) → (last_after_leaving unit last).number ≡ last_left (option_map open_of unit) last.number
left-is None last = refl
left-is (Some unit) last = refl

module _ (sys : Behaviour) (s : State) (r : Reading) (t : ℕ) (rest : rested (seat_of sys s r t) ≡ seat_of sys s r t) where
  abbrev was : OrderSeat
  was = seat_of sys s r t

  -- the parts of a state
  abbrev pub parts : State → OrderSeat
  parts x = seat_with (sys.pair_of t) (x.ended t).number (x.units t) (x.memory t) (x.flight t) (x.terms t) (r.longest t)

  -- behind a change
  abbrev pub resting : State → OrderSeat
  resting x = rested (parts x)

  -- the length stays where neither the path nor the unit changes
  long : (if is_none (running_of was.unit) then max (r.longest t) was.path.answers else r.longest t) ≡ r.longest t
  long = ap (λ (seat : OrderSeat). seat.longest) rest

  pub answers : (a : PathAnswer) → IsPlain a → (x : State) → (x.ended t).number ≡ (s.ended t).number → x.units t ≡ s.units t → x.memory t ≡ s.memory t → x.flight t ≡ s.flight t
      → x.terms t ≡ record (s.terms t) { path = path_of s t ++ a ∷ [] } → resting x ≡ path_answered was
  answers a plain x e u m f k =
      ap rested (seat-is e u m f k) ∙ ap (λ (mark : PathMark). rested (record was { path = mark })) (mark-plain a plain (path_of s t))

  pub own-show : (phase attempt k : ℕ) → resting (change sys s (event.Show t phase attempt k)) ≡ path_answered was
  own-show phase attempt k = answers Shown Shown-plain (change sys s (event.Show t phase attempt k)) refl refl refl refl (upd-same s.terms t _ t refl)

  pub own-key : (k : ℕ) → resting (change sys s (event.Key t k)) ≡ path_answered was
  own-key k = answers (Entry k) (Entry-plain k) (change sys s (event.Key t k)) refl refl refl refl (upd-same s.terms t _ t refl)

  pub own-check-start : resting (change sys s (event.CheckStart t)) ≡ check_start was
  own-check-start =
      ap rested (seat-is refl refl refl (upd-same s.flight t _ t refl) (the-term (s.terms t)))
      ∙ ap (λ (n : ℕ). record (check_start was) { longest = n }) long

  pub own-check-copy : resting (change sys s (event.CheckCopy t)) ≡ check_copy was
  own-check-copy =
      ap rested (seat-is refl refl refl (upd-same s.flight t _ t refl) (the-term (s.terms t)))
      ∙ (ap (λ (n : ℕ). record was { flight = Some (flight_of (Copy (unit_number (copied_path s t)) (copied_path s t))); longest = n }) long
      ∙ ap (λ (mark : PathMark). record was { flight = Some (flight.Start (mark.ended + 1) mark) })
      (copied-is (attempt_of (s.units t)) (path_of s t) ∙ ap (λ (q : Option PathMark). unwrap_or q (mark_of (path_of s t))) (sym (running-is (s.units t)))))

  pub own-check-end : Fits sys s (event.CheckEnd t) → resting (change sys s (event.CheckEnd t)) ≡ check_end was
  own-check-end l =
      ap rested (seat-is refl refl refl (upd-same s.flight t _ t refl ∙ ap (λ (a : Option PathAnswer). Some (End (path_with a (path_of s t)))) l.closes) (the-term (s.terms t)))
      ∙ (ap (λ (n : ℕ). record was { flight = Some (flight_of (End (path_of s t ++ l.answer ∷ []))); longest = n }) long
      ∙ ap (λ (mark : PathMark). record was { flight = Some (flight.End mark) }) (mark-closing l.answer (closing-ends (next_verb sys s t) l.answer l.closes) (path_of s t)))

  pub own-applied : resting (change sys s (event.Applied t)) ≡ applied was
  own-applied =
      ap rested (seat-is refl refl (upd-same s.memory t _ t refl) (upd-same s.flight t None t refl) (the-term (s.terms t)))
      ∙ (ap (λ (n : ℕ). record was { memory = option_map held_of (with_message (s.flight t) (s.memory t)); flight = None; longest = n }) long
      ∙ ap (λ (m : Option HeldMarks). record was { memory = m; flight = None }) (taken-is (s.flight t) (s.memory t)))

  pub own-begin : (n k : ℕ) (one_send : Bool) → Fits sys s (event.Begin t n k) → IsOneSendFlag sys s (event.Begin t n k) one_send
      → resting (change sys s (event.Begin t n k)) ≡ attempt_begun n one_send was
  own-begin n k one_send l told =
      ap rested (seat-is refl (upd-same s.units t _ t refl) refl refl (upd-same s.terms t _ t refl))
      ∙ (runs (s.units t)
      ∙ (ap (λ (u : Option order_unit.MarkedUnit). record was { unit = u; path = mark_of (begun_path k (next_verb sys s t) (path_of s t)) }) (attempt-is n s.births (path_of s t) (s.units t))
      ∙ (ap (λ (mark : PathMark). record was { unit = Some (with_attempt n was.path was.unit); path = mark }) (begun-is k (next_verb sys s t) (path_of s t) l.begins)
      ∙ ap (λ (b : Bool). record was { unit = Some (with_attempt n was.path was.unit); path = if b then was.path else mark_begun was.path }) (sym told))))
    where
      runs : (unit : Option OpenUnit)
          → rested (record was { unit = option_map open_of (Some (unit_with_attempt n s.births (path_of s t) unit)); path = mark_of (begun_path k (next_verb sys s t) (path_of s t)) })
          ≡ record was { unit = option_map open_of (Some (unit_with_attempt n s.births (path_of s t) unit)); path = mark_of (begun_path k (next_verb sys s t) (path_of s t)) }
      runs None = refl
      runs (Some unit) = refl

  pub ends : (a : PathAnswer) → IsClosing a → (n : ℕ) (x : State) → (x.ended t).number ≡ n → x.units t ≡ None → x.memory t ≡ s.memory t → x.flight t ≡ s.flight t
      → x.terms t ≡ record (s.terms t) { path = path_of s t ++ a ∷ [] } → resting x ≡ unit_closed n was
  ends a closing n x e u m f k =
      ap rested (seat-is e u m f k)
      ∙ ap (λ (mark : PathMark). rested (record was { unit = None; last = n; path = mark })) (mark-closing a closing (path_of s t))

  -- a REPLY
  reply-ok : (reply : List ℕ) (c i : ℕ) (outside : Bool) → is_outside (path_of s t) ≡ outside
      → resting (give_answer t (Replied reply) (if outside then commit_unit t (unit_number (path_of s t)) (Some reply) (free_process c i s) else free_process c i s)) ≡ send_replied was
  reply-ok reply c i true is =
      ap rested (seat-is (ap (λ (l : LastEnded). l.number) (upd-same s.ended t _ t refl)) (upd-same s.units t None t refl) refl refl (upd-same s.terms t _ t refl))
      ∙ (ap (λ (mark : PathMark). rested (record was { unit = None; last = unit_number (path_of s t); path = mark })) (mark-reply-outside reply (path_of s t) is)
      ∙ ap (λ (b : Bool). if not b then path_answered was else unit_closed (unit_number (path_of s t)) was) (sym is))
  reply-ok reply c i false is =
      ap rested (seat-is refl refl refl refl (upd-same s.terms t _ t refl))
      ∙ (ap (λ (mark : PathMark). rested (record was { path = mark })) (mark-reply-inside reply (path_of s t) is)
      ∙ ap (λ (b : Bool). if not b then path_answered was else unit_closed (unit_number (path_of s t)) was) (sym is))

  pub own-reply : (c i : ℕ) (fault : Option ℕ) → resting (change sys s (event.Reply c i t fault)) ≡ seat_behind_reply fault was
  own-reply c i None = reply-ok (reply_at sys c ((s.classes c).busy i)) c i (is_outside (path_of s t)) refl
  own-reply c i (Some x) = answers (Failed x) (Failed-plain x) (change sys s (event.Reply c i t (Some x))) refl refl refl refl (upd-same s.terms t _ t refl)

  pub own-again : (n : ℕ) → Fits sys s (event.Again t n) → resting (change sys s (event.Again t n)) ≡ again was
  own-again n l =
      ap rested (seat-is refl refl refl refl (upd-same s.terms t _ t refl))
      ∙ (ap (λ (mark : PathMark). rested (record was { path = mark })) (mark-reply-outside (kept_reply (s.ended t)) (path_of s t) l.outside)
      ∙ ap (λ (b : Bool). at_path (if not b then mark_more was.path else mark_closed was.path) was) (sym l.outside))

  pub own-commit : (n : ℕ) → resting (change sys s (event.Commit t n)) ≡ unit_closed n was
  own-commit n =
      ends Ended Ended-closing n (change sys s (event.Commit t n)) (ap (λ (l : LastEnded). l.number) (upd-same s.ended t _ t refl)) (upd-same s.units t None t refl) refl refl
      (upd-same s.terms t _ t refl)

  pub own-back : (n : ℕ) → resting (change sys s (event.Back t n)) ≡ unit_closed n was
  own-back n =
      ends Dropped Dropped-closing n (change sys s (event.Back t n)) (ap (λ (l : LastEnded). l.number) (upd-same s.ended t _ t refl)) (upd-same s.units t None t refl) refl refl
      (upd-same s.terms t _ t refl)

  pub own-restart : (n : ℕ) (cause : Cause) → resting (change sys s (event.Restart t n cause)) ≡ attempt_restarted was
  own-restart n cause =
      ap rested (seat-is refl (upd-same s.units t _ t refl) refl refl (upd-same s.terms t _ t refl))
      ∙ (ap (λ (u : Option order_unit.MarkedUnit). rested (record was { unit = u; path = mark_of (with_start_path (attempt_of (s.units t)) (s.terms t)).path; live = is_none (with_start_path (attempt_of (s.units t)) (s.terms t)).ending })) (restart-is cause (s.units t))
      ∙ (ap (λ (mark : PathMark). rested (record was { unit = without_attempt was.unit; path = mark; live = is_none (with_start_path (attempt_of (s.units t)) (s.terms t)).ending }))
      (start-is (attempt_of (s.units t)) (s.terms t) ∙ ap (λ (q : Option PathMark). unwrap_or q was.path) (sym (running-is (s.units t))))
      ∙ ap (λ (e : Option Ending). rested (record was { unit = without_attempt was.unit; path = unwrap_or (running_of was.unit) was.path; live = is_none e }))
      (start-ending (attempt_of (s.units t)) (s.terms t))))

  -- an ending, with the open unit left or without one
  end-of : (e : Ending) (x : State) → x.memory ≡ s.memory → x.flight ≡ s.flight → x.terms ≡ s.terms
      → resting (end_terminal t e x)
      ≡ rested (record (seat_with (sys.pair_of t) (x.ended t).number (x.units t) None None (s.terms t) (r.longest t)) { live = false })
  end-of e x m f k =
      ap rested (seat-is refl refl (upd-same x.memory t None t refl) (upd-same x.flight t None t refl)
      (upd-same x.terms t _ t refl ∙ ap (λ (g : ℕ → Term). record (g t) { pending = None; ending = Some e }) k))

  end-left : (e : Ending) → resting (end_terminal t e (leave_units sys (only t) s)) ≡ done true was
  end-left e =
      end-of e (leave_units sys (only t) s) refl refl refl
      ∙ ap rested
      (ap (λ (n : ℕ). record (seat_with (sys.pair_of t) n (if only t t then None else s.units t) None None (s.terms t) (r.longest t)) { live = false })
      (ap (λ (l : LastEnded). l.number) (cond-true (only t t) _ (s.ended t) (eq-eqb t t refl)) ∙ left-is (s.units t) (s.ended t))
      ∙ ap (λ (u : Option OpenUnit). record (seat_with (sys.pair_of t) (last_left was.unit was.last) u None None (s.terms t) (r.longest t)) { live = false })
      (cond-true (only t t) None (s.units t) (eq-eqb t t refl)))

  pub own-end : (e : Ending) → resting (change sys s (event.End t e)) ≡ done (leaves e) was
  own-end ending.Stopped = end-of ending.Stopped s refl refl refl
  own-end ending.NoEntries = end-left ending.NoEntries
  own-end (ending.Fault x) = end-left (ending.Fault x)
  own-end (ending.Suspended cause) = end-left (ending.Suspended cause)
  own-end ending.Lost = end-of ending.Lost s refl refl refl
