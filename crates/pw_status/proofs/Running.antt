-- Behind an entry an attempt of a terminal runs where the entry begins one, and where one ran that is not over.
use Rattle.std.proofs.Common.{◌≡◌, ℕ, ⊎_elim, Bool, true, false, List, length, Option, Some, None, refl, sym, ap, subst, ◌∙◌}
use Rattle.std.proofs.lemmas.Bool.{cases_eq, eq-eqb, ne_eqb}
use Rattle.std.proofs.lemmas.List.{length-map}
use Rattle.std.proofs.lemmas.Option.{slice_get-map}
use Rattle.std.specs.Prelude.{◌==◌, is_some, slice_get, if◌then◌else◌}
use Rattle.std.specs.Option.{option_map}
use Rattle.pw_status.proofs.Gone.{gone-cases}
use Rattle.pw_status.specs.Attempts.{AreSeatsOf, begun_in, is_running, stopped, stopped_by, stopped_of, with_runs}
use Rattle.pw_status.specs.Counts.{is_one}
use Rattle.pw_status.specs.Over.{begun_terminal, ends_at, is_over, over_at, theirs_by}
use Rattle.pw_status.specs.declared.attempts.AttemptSeat.{AttemptSeat}
use Rattle.pw_status.specs.declared.over.Over.{Over}
use Rattle.pw_status.specs.declared.over.Whose.{Whose}
use Rattle.pw_status.specs.declared.over.Whose.TheVariants.{One, Pair}
use Rattle.pw_event.specs.declared.event.Cause.{Cause}
use Rattle.pw_event.specs.declared.event.Ending.{Ending}
use Rattle.pw_event.specs.declared.event.Ending.TheVariants as ending
use Rattle.pw_event.specs.declared.event.Event.{Event}
use Rattle.pw_event.specs.declared.event.Event.TheVariants as event
use Rattle.pw_onecopy.proofs.Update.{upd_elim}
use Rattle.pw_onecopy.specs.Behaviour.{Behaviour}
use Rattle.pw_onecopy.specs.Path.{PathAnswer, is_outside, unit_number}
use Rattle.pw_onecopy.specs.Update.{upd}
use Rattle.pw_serial_order.proofs.Changing.{changed-length, changed-other, changed-same}
use Rattle.pw_serial_order.specs.Entries.{changed_at}
use Rattle.pw_paired.specs.Failure.{is_of_pair, with_restart}
use Rattle.pw_paired.specs.Server.{free_process, reply_at}
use Rattle.pw_paired.specs.State.{OpenUnit, State}
use Rattle.pw_paired.specs.Step.{effect}
use Rattle.pw_paired.specs.Terminal.{path_of, unit_with_attempt}
use Rattle.pw_paired.specs.Units.{attempt_of, commit_unit, only}
use Rattle.pw_laws.proofs.induction.Failed.{process-cases}
use Rattle.pw_laws.proofs.induction.Served.{file-cases}

-- whether one runs behind an entry
abbrev pub runs_behind : (ℕ → ℕ) → Option ℕ → Option Over → ℕ → Bool → Bool
runs_behind pair_of begun_terminal over t now = if is_one t begun_terminal then true else (if is_over pair_of over t then false else now)

-- ---- in the state

-- of a unit that is left, or not
left-runs : (b : Bool) (unit : Option OpenUnit) → is_some (attempt_of (if b then None else unit)) ≡ (if b then false else is_some (attempt_of unit))
left-runs true unit = refl
left-runs false unit = refl

begun-runs : (n birth : ℕ) (path : List PathAnswer) (unit : Option OpenUnit) → is_some (attempt_of (Some (unit_with_attempt n birth path unit))) ≡ true
begun-runs n birth path None = refl
begun-runs n birth path (Some unit) = refl

module _ (sys : Behaviour) (s : State) where
  -- the unit of one terminal alone changes
  changed : (own t : ℕ) (unit : Option OpenUnit) (b : Bool) → is_some (attempt_of unit) ≡ b
      → is_some (attempt_of (upd s.units own unit t)) ≡ (if own == t then b else is_running s t)
  changed own t unit b is =
      upd_elim s.units own unit t (λ (u : Option OpenUnit). is_some (attempt_of u) ≡ (if own == t then b else is_running s t))
      (λ same. is ∙ ap (λ (c : Bool). if c then b else is_running s t) (sym (eq-eqb own t (sym same))))
      (λ differ. ap (λ (c : Bool). if c then b else is_running s t) (sym (ne_eqb own t (λ e. differ (sym e)))))

  -- the same, where none runs
  stops : (own t : ℕ) (unit : Option OpenUnit) → is_some (attempt_of unit) ≡ false
      → is_some (attempt_of (upd s.units own unit t)) ≡ (if t == own then false else is_running s t)
  stops own t unit is =
      upd_elim s.units own unit t (λ (u : Option OpenUnit). is_some (attempt_of u) ≡ (if t == own then false else is_running s t))
      (λ same. is ∙ ap (λ (c : Bool). if c then false else is_running s t) (sym (eq-eqb t own same)))
      (λ differ. ap (λ (c : Bool). if c then false else is_running s t) (sym (ne_eqb t own differ)))

  restart-none : (cause : Cause) (unit : Option OpenUnit) → is_some (attempt_of (with_restart cause unit)) ≡ false
  restart-none cause None = refl
  restart-none cause (Some unit) = refl

  module _ (t : ℕ) where
    -- a REPLY
    abbrev replied : ℕ → ℕ → ℕ → List ℕ → Bool → State
    replied c i own reply outside =
        if outside then commit_unit own (unit_number (path_of s own)) (Some reply) (free_process c i s) else free_process c i s

    reply-runs : (c i own : ℕ) (reply : List ℕ) (outside : Bool)
        → is_running (replied c i own reply outside) t ≡ runs_behind sys.pair_of None (over_at outside (event.Reply c i own None)) t (is_running s t)
    reply-runs c i own reply true = stops own t None refl
    reply-runs c i own reply false = refl

    fault-runs : (c i own x : ℕ) (b : Bool) → is_running s t ≡ runs_behind sys.pair_of None (over_at b (event.Reply c i own (Some x))) t (is_running s t)
    fault-runs c i own x true = refl
    fault-runs c i own x false = refl

    -- an END
    end-runs : (own : ℕ) (how : Ending) → is_running (effect sys s (event.End own how)) t ≡ runs_behind sys.pair_of None (over_at true (event.End own how)) t (is_running s t)
    end-runs own ending.Stopped = refl
    end-runs own ending.Lost = refl
    end-runs own ending.NoEntries = left-runs (only own t) (s.units t)
    end-runs own (ending.Fault x) = left-runs (only own t) (s.units t)
    end-runs own (ending.Suspended cause) = left-runs (only own t) (s.units t)

    pub runs-next : (entry : Event) → is_running (effect sys s entry) t ≡ runs_behind sys.pair_of (begun_terminal entry) (over_at (ends_at sys s entry) entry) t (is_running s t)
    runs-next (event.Show own phase attempt k) = refl
    runs-next (event.Key own k) = refl
    runs-next (event.CheckStart own) = refl
    runs-next (event.CheckEnd own) = refl
    runs-next (event.CheckCopy own) = refl
    runs-next (event.Applied own) = refl
    runs-next (event.Begin own n r) =
        changed own t (Some (unit_with_attempt n s.births (path_of s own) (s.units own))) true (begun-runs n s.births (path_of s own) (s.units own))
    runs-next (event.Send own n c) = refl
    runs-next (event.Take c i own) = refl
    runs-next (event.File c i op mode f status) = file-cases sys s c i (λ (next : State). is_running next t ≡ is_running s t) refl (λ job call works asks. refl)
    runs-next (event.Reply c i own None) = reply-runs c i own (reply_at sys c ((s.classes c).busy i)) (is_outside (path_of s own))
    runs-next (event.Reply c i own (Some x)) = fault-runs c i own x (is_outside (path_of s own))
    runs-next (event.Again own n) = refl
    runs-next (event.Commit own n) = stops own t None refl
    runs-next (event.Back own n) = stops own t None refl
    runs-next (event.Restart own n cause) = stops own t (with_restart cause (s.units own)) (restart-none cause (s.units own))
    runs-next (event.FailTcp p primary k) =
        gone-cases sys s (λ b next. is_running next t ≡ runs_behind sys.pair_of None (over_at b (event.FailTcp p primary k)) t (is_running s t)) p k
        refl refl (left-runs (is_of_pair sys p t) (s.units t)) refl primary
    runs-next (event.FailServer c i k) = process-cases sys s (λ (next : State). is_running next t ≡ is_running s t) c i k refl (λ job works. refl)
    runs-next (event.Takeover p) = refl
    runs-next (event.Raise p) = refl
    runs-next (event.End own how) = end-runs own how

-- ---- in the seats

-- a seat with another flag
with-same : (seat : AttemptSeat) (tcp : ℕ) (b c : Bool) → seat ≡ record { tcp = tcp; runs = c } → with_runs b seat ≡ record { tcp = tcp; runs = b }
with-same seat tcp b c is = ap (with_runs b) is

module _ (pair_of : ℕ → ℕ) (runs : ℕ → Bool) where
  abbrev seat_as : ℕ → Bool → AttemptSeat
  seat_as t b = record { tcp = pair_of t; runs = b }

  put-seat : (seats : List AttemptSeat) (own t : ℕ) (b now : Bool) → slice_get seats t ≡ Some (seat_as t now)
      → slice_get (changed_at own (with_runs b) seats) t ≡ Some (seat_as t (if own == t then b else now))
  put-seat seats own t b now here =
      ⊎_elim
      (λ same.
      subst (λ (k : ℕ). slice_get (changed_at k (with_runs b) seats) t ≡ Some (seat_as t (if k == t then b else now))) (sym same)
      (changed-same seats t (with_runs b) (seat_as t now) here ∙ ap (λ (c : Bool). Some (seat_as t (if c then b else now))) (sym (eq-eqb t t refl))))
      (λ differ.
      changed-other seats own t (with_runs b) (λ e. differ (sym e)) ∙ (here
      ∙ ap (λ (c : Bool). Some (seat_as t (if c then b else now))) (sym (ne_eqb own t differ))))
      (cases_eq own t)

  one-stopped : (p t : ℕ) (now c : Bool) → (pair_of t == p) ≡ c → stopped_of p (seat_as t now) ≡ seat_as t (if c then false else now)
  one-stopped p t now true is = ap (λ (b : Bool). if b then with_runs false (seat_as t now) else seat_as t now) is
  one-stopped p t now false is = ap (λ (b : Bool). if b then with_runs false (seat_as t now) else seat_as t now) is

  same-way : (own t : ℕ) → (own == t) ≡ (t == own)
  same-way own t = ⊎_elim (λ same. eq-eqb own t same ∙ sym (eq-eqb t own (sym same))) (λ differ. ne_eqb own t differ ∙ sym (ne_eqb t own (λ e. differ (sym e)))) (cases_eq own t)

  stopped-seat : (seats : List AttemptSeat) (over : Option Over) (t : ℕ) (now : Bool) → slice_get seats t ≡ Some (seat_as t now)
      → slice_get (stopped_by over seats) t ≡ Some (seat_as t (if is_over pair_of over t then false else now))
  stopped-seat seats None t now here = here
  stopped-seat seats (Some over) t now here = by over.whose
    where
      by : (whose : Whose) → slice_get (stopped whose seats) t ≡ Some (seat_as t (if theirs_by pair_of whose t then false else now))
      by (One own) = put-seat seats own t false now here ∙ ap (λ (c : Bool). Some (seat_as t (if c then false else now))) (same-way own t)
      by (Pair p) = slice_get-map (stopped_of p) seats t ∙ (ap (option_map (stopped_of p)) here ∙ ap Some (one-stopped p t now (pair_of t == p) refl))

  begun-seat : (seats : List AttemptSeat) (begun_terminal : Option ℕ) (t : ℕ) (now : Bool) → slice_get seats t ≡ Some (seat_as t now)
      → slice_get (begun_in begun_terminal seats) t ≡ Some (seat_as t (if is_one t begun_terminal then true else now))
  begun-seat seats None t now here = here
  begun-seat seats (Some own) t now here = put-seat seats own t true now here

stopped-length : (seats : List AttemptSeat) (over : Option Over) → length (stopped_by over seats) ≡ length seats
stopped-length seats None = refl
stopped-length seats (Some over) = by over.whose
  where
    by : (whose : Whose) → length (stopped whose seats) ≡ length seats
    by (One own) = changed-length seats own (with_runs false)
    by (Pair p) = length-map seats (stopped_of p)

begun-length : (seats : List AttemptSeat) (begun_terminal : Option ℕ) → length (begun_in begun_terminal seats) ≡ length seats
begun-length seats None = refl
begun-length seats (Some own) = changed-length seats own (with_runs true)

-- the seats behind an entry
pub next-seats : (sys : Behaviour) (s : State) (entry : Event) (seats : List AttemptSeat) → AreSeatsOf sys s seats
    → AreSeatsOf sys (effect sys s entry) (begun_in (begun_terminal entry) (stopped_by (over_at (ends_at sys s entry) entry) seats))
next-seats sys s entry seats are =
    let over = over_at (ends_at sys s entry) entry in
    record {
      count = begun-length (stopped_by over seats) (begun_terminal entry) ∙ (stopped-length seats over ∙ are.count);
      seat = λ t known.
          begun-seat sys.pair_of (is_running s) (stopped_by over seats) (begun_terminal entry) t (if is_over sys.pair_of over t then false else is_running s t)
          (stopped-seat sys.pair_of (is_running s) seats over t (is_running s t) (are.seat t known))
          ∙ ap (λ (b : Bool). Some (record { tcp = sys.pair_of t; runs = b })) (sym (runs-next sys s t entry));
    }
