-- Each attempt of a unit begins once.
use Rattle.std.proofs.Common.{◌≡◌, ◌≢◌, ℕ, ◌+◌, ◌<◌, ◌≤◌, ◌⊎◌, inl, inr, ⊎_elim, Bool, true, false, ◌&&◌, ◌==◌, cond, length, filter, List, [], ◌∷◌, ◌++◌, Option, Some, None, if◌then◌else◌, refl, ap, sym, subst, ◌∙◌, arith}
use Rattle.std.proofs.lemmas.Bool.{cases_eq, eq-eqb, ne_eqb, and_left}
use Rattle.pw_event.specs.declared.event.Cause.{Cause}
use Rattle.pw_event.specs.declared.event.Cause.TheVariants as cause
use Rattle.pw_event.specs.declared.event.Ending.TheVariants as ending
use Rattle.pw_event.specs.declared.event.Event.{Event}
use Rattle.pw_event.specs.declared.event.Event.TheVariants.{Show, Key, CheckStart, CheckEnd, CheckCopy, Applied, Begin, Send, Take, File, Reply, Again, Commit, Back, Restart, FailTcp, FailServer, Takeover, Raise, End}
use Rattle.pw_onecopy.proofs.Update.{upd-same, upd-other}
use Rattle.pw_onecopy.specs.Behaviour.{Behaviour}
use Rattle.pw_onecopy.specs.IsBehaviour.{IsBehaviour}
use Rattle.pw_onecopy.specs.Path.{Replied, PathAnswer, unit_number}
use Rattle.pw_onecopy.specs.Update.{upd}
use Rattle.pw_paired.specs.End.{end_terminal}
use Rattle.pw_paired.specs.Failure.{lose_pair, LegalRestart, awaited_after, is_of_pair, with_restart}
use Rattle.pw_paired.specs.Raising.{settle_mode}
use Rattle.pw_paired.specs.Server.{free_process}
use Rattle.pw_paired.specs.State.{LastEnded, OpenUnit, State, starting}
use Rattle.pw_paired.specs.Step.{after, Fits, IsRun, IsRunFrom, after_from, effect}
use Rattle.pw_paired.specs.Terminal.{IsOver, LegalBegin, awaited_of, unit_with_attempt, path_of}
use Rattle.pw_paired.specs.Units.{give_answer, leave_units, attempt_of, commit_unit, last_after_leaving, only, restarts_of}
use Rattle.pw_laws.specs.progress.Running.{is_restart_of, restarts_in}
use Rattle.pw_laws.proofs.RunSteps.{IsRunFrom-split}
use Rattle.pw_laws.proofs.induction.Failed.{end-any, fail-cases, process-cases}
use Rattle.pw_laws.proofs.induction.Runs.{holds-behind, kept}
use Rattle.pw_laws.proofs.induction.Served.{file-cases, reply-any}
use Rattle.pw_laws.proofs.kept.Failing.{out-job}
use Rattle.pw_laws.proofs.kept.Kept.{Inv}
use Rattle.pw_laws.proofs.kept.Runs.{keeps, kept-at-start, kept-from}
use Rattle.pw_laws.proofs.terms.KeepsChecks.{can_path, path_ok-is, resting, within}
use Rattle.pw_laws.proofs.terms.KeepsEnds.{out-path}

-- the number of a terminal's last ended unit
abbrev pub last_of : State → ℕ → ℕ
last_of s t = (s.ended t).number

-- an open unit was open before, or it has the next birth
abbrev pub Kin : State → ℕ → OpenUnit → Type 0
Kin s t unit = ((was : OpenUnit) × (s.units t ≡ Some was) × (was.birth ≡ unit.birth) × (was.number ≡ unit.number)) ⊎ ((s.units t ≡ None) × (unit.birth ≡ s.births))

-- what an entry other than a restart may do to the open unit of a terminal and to the number of its last ended one
pub data Moves (t : ℕ) (s after : State) : Type 0 where
  stays : after.units t ≡ s.units t → last_of after t ≡ last_of s t → Moves t s after
  begins : (unit : OpenUnit) → after.units t ≡ Some unit → unit.restarts ≡ restarts_of (s.units t) → attempt_of (s.units t) ≡ None → IsOver s.ended (awaited_of (s.units t)) → Kin s t unit → last_of after t ≡ last_of s t → Moves t s after
  ends : after.units t ≡ None → last_of after t ≡ last_of s t + 1 → Moves t s after

-- an entry is no restart of a terminal, or it is one of its open unit
pub data Goes (limit t : ℕ) (s after : State) (entry : Event) : Type 0 where
  plainly : ((n : ℕ) → is_restart_of t n entry ≡ false) → Moves t s after → Goes limit t s after entry
  restarting : (was unit : OpenUnit) → s.units t ≡ Some was → after.units t ≡ Some unit → unit.restarts ≡ was.restarts + 1 → was.restarts < limit → was.running ≢ None → (was.birth ≡ unit.birth) × (was.number ≡ unit.number) → last_of after t ≡ last_of s t
      → ((n : ℕ) → is_restart_of t n entry ≡ (was.number == n)) → Goes limit t s after entry

-- attempt r of unit n has begun
data Past (t n r : ℕ) (s : State) : Type 0 where
  has_ended : n ≤ last_of s t → Past t n r s
  has_restarted : (unit : OpenUnit) → n ≡ last_of s t + 1 → s.units t ≡ Some unit → r < unit.restarts → Past t n r s
  is_running : (unit : OpenUnit) (q : List PathAnswer) → n ≡ last_of s t + 1 → s.units t ≡ Some unit → r ≡ unit.restarts → unit.running ≡ Some q → Past t n r s

-- it stays so
still-past : (limit t n r : ℕ) (s after : State) (entry : Event) → Goes limit t s after entry → Past t n r s → Past t n r after
still-past limit t n r s after entry (plainly other (stays units last)) (has_ended low) = has_ended (omega (arith, low, last))
still-past limit t n r s after entry (plainly other (stays units last)) (has_restarted unit next is less) = has_restarted unit (omega (arith, next, last)) (units ∙ is) less
still-past limit t n r s after entry (plainly other (stays units last)) (is_running unit q next is same runs) = is_running unit q (omega (arith, next, last)) (units ∙ is) same runs
still-past limit t n r s after entry (plainly other (begins unit is counts idle over kin last)) (has_ended low) = has_ended (omega (arith, low, last))
still-past limit t n r s after entry (plainly other (begins unit is counts idle over kin last)) (has_restarted u next was less) =
    has_restarted unit (omega (arith, next, last)) is (let same : unit.restarts ≡ u.restarts = counts ∙ ap restarts_of was in omega (arith, less, same))
still-past limit t n r s after entry (plainly other (begins unit is counts idle over kin last)) (is_running u q next was same runs) =
    absurd (let running = ap attempt_of was in cc (running, idle, runs))
still-past limit t n r s after entry (restarting was unit was_is is more few runs_then alike last at_entry) (has_ended low) = has_ended (omega (arith, low, last))
still-past limit t n r s after entry (restarting was unit was_is is more few runs_then alike last at_entry) (has_restarted u next u_is less) =
    has_restarted unit (omega (arith, next, last)) is (let same : u.restarts ≡ was.restarts = cc (u_is, was_is) in omega (arith, less, same, more))
still-past limit t n r s after entry (restarting was unit was_is is more few runs_then alike last at_entry) (is_running u q next u_is at runs) =
    has_restarted unit (omega (arith, next, last)) is (let same : u.restarts ≡ was.restarts = cc (u_is, was_is) in omega (arith, at, same, more))
still-past limit t n r s after entry (plainly other (ends none more)) (has_ended low) = has_ended (omega (arith, low, more))
still-past limit t n r s after entry (plainly other (ends none more)) (has_restarted u next is less) = has_ended (omega (arith, next, more))
still-past limit t n r s after entry (plainly other (ends none more)) (is_running u q next is same runs) = has_ended (omega (arith, next, more))

module _ (sys : Behaviour) (b : IsBehaviour sys) (s : State) (i : Inv sys s) (t : ℕ) where
  -- the open units of some terminals are left
  left-moves : (whose : Bool) (after : State) → after.units t ≡ (if whose then None else s.units t)
      → after.ended t ≡ (if whose then last_after_leaving (s.units t) (s.ended t) else s.ended t) → Moves t s after
  left-moves false after units last = stays units (ap (λ (x : LastEnded). x.number) last)
  left-moves true after units last = by (s.units t) refl last
    where
      by : (unit : Option OpenUnit) → s.units t ≡ unit → after.ended t ≡ last_after_leaving unit (s.ended t) → Moves t s after
      by None is now = stays (units ∙ sym is) (ap (λ (x : LastEnded). x.number) now)
      by (Some unit) is now = ends units (ap (λ (x : LastEnded). x.number) now ∙ ((i.terms t (i.known t unit is)).unit_ok unit is).number)

  -- a unit ends
  ends-moves : (own number : ℕ) (reply : Option (List ℕ)) (after : State) → after.units ≡ upd s.units own None → after.ended ≡ upd s.ended own (record { number = number; reply = reply })
      → number ≡ last_of s own + 1 → Moves t s after
  ends-moves own number reply after units ended next =
      ⊎_elim
      (λ same.
      ends (ap (λ (x : ℕ → Option OpenUnit). x t) units ∙ upd-same s.units own None t same) (ap (λ (x : ℕ → LastEnded). (x t).number) ended
      ∙ (subst (λ (o : ℕ). (upd s.ended o (record { number = number; reply = reply }) t).number ≡ number) same (ap (λ (x : LastEnded). x.number) (upd-same s.ended t (record { number = number; reply = reply }) t refl))
      ∙ subst (λ (o : ℕ). number ≡ last_of s o + 1) (sym same) next)))
      (λ differ. stays (ap (λ (x : ℕ → Option OpenUnit). x t) units ∙ upd-other s.units own None t differ)
      (ap (λ (x : ℕ → LastEnded). (x t).number) ended ∙ ap (λ (x : LastEnded). x.number) (upd-other s.ended own (record { number = number; reply = reply }) t differ)))
      (cases_eq t own)

  -- the same with the entry in the log
  logged : (x : State) (entry : Event) → Moves t s x → Moves t s (record x { log = s.log ++ entry ∷ [] })
  logged x entry (stays units last) = stays units last
  logged x entry (begins unit is counts idle over kin last) = begins unit is counts idle over kin last
  logged x entry (ends none more) = ends none more

  -- what each entry does to one terminal's open unit
  pub moves : (entry : Event) → Fits sys s entry → Goes (sys.max_restarts t) t s (effect sys s entry) entry
  moves (Show own phase attempt k) l = plainly (λ n. refl) (stays refl refl)
  moves (Key own k) l = plainly (λ n. refl) (stays refl refl)
  moves (CheckStart own) l = plainly (λ n. refl) (stays refl refl)
  moves (CheckEnd own) l = plainly (λ n. refl) (stays refl refl)
  moves (CheckCopy own) l = plainly (λ n. refl) (stays refl refl)
  moves (Applied own) l = plainly (λ n. refl) (stays refl refl)
  moves (Begin own n r) l =
      plainly (λ m. refl)
      (⊎_elim
      (λ same.
      begins (unit_with_attempt n s.births (path_of s own) (s.units own)) (upd-same s.units own _ t same)
      (begun-restarts (s.units own) ∙ ap (λ (o : ℕ). restarts_of (s.units o)) (sym same)) (ap (λ (o : ℕ). attempt_of (s.units o)) same ∙ l.idle)
      (subst (λ (o : ℕ). IsOver s.ended (awaited_of (s.units o))) (sym same) l.over)
      (subst (λ (o : ℕ). Kin s o (unit_with_attempt n s.births (path_of s own) (s.units own))) (sym same) (kin (s.units own) refl)) refl)
      (λ differ. stays (upd-other s.units own _ t differ) refl)
      (cases_eq t own))
    where
      begun-restarts : (unit : Option OpenUnit) → (unit_with_attempt n s.births (path_of s own) unit).restarts ≡ restarts_of unit
      begun-restarts None = refl
      begun-restarts (Some unit) = refl

      kin : (unit : Option OpenUnit) → s.units own ≡ unit → Kin s own (unit_with_attempt n s.births (path_of s own) unit)
      kin None is = inr (is, refl)
      kin (Some unit) is = inl (unit, is, refl, refl)
  moves (Send own n c) l = plainly (λ n. refl) (stays refl refl)
  moves (Take c p own) l = plainly (λ n. refl) (stays refl refl)
  moves (File c p op mode f status) l =
      plainly (λ n. refl) (logged _ _ (file-cases sys s c p (Moves t s) (stays refl refl) (λ job call works asks. stays refl refl)))
  moves (Reply c p own fault) l =
      let number : unit_number (path_of s own) ≡ last_of s own + 1 =
      subst (λ (o : ℕ). unit_number (path_of s o) ≡ last_of s o + 1) l.whose
      (out-path sys b s i.terms l.job.request.terminal (record { class = c; request = l.job.request }) (out-job sys b s i c p l.job l.at_work)).number in
      plainly (λ n. refl)
      (logged _ _ (reply-any sys s c p own (Moves t s) fault
      (λ reply outside. ends-moves own (unit_number (path_of s own)) (Some reply)
      (give_answer own (Replied reply) (commit_unit own (unit_number (path_of s own)) (Some reply) (free_process c p s))) refl refl number)
      (λ reply inside. stays refl refl) (λ x. stays refl refl)))
  moves (Again own n) l = plainly (λ n. refl) (stays refl refl)
  moves (Commit own n) l =
      let path = can_path sys b s i.terms own l.can in
      plainly (λ m. refl)
      (ends-moves own n None (effect sys s (Commit own n)) refl refl
      (l.number ∙ (within (s.units own) (b.ends own (path_of s own) (path_ok-is _ (s.units own) path) l.asks) path).path_is.number))
  moves (Back own n) l =
      let path = can_path sys b s i.terms own l.can in
      plainly (λ m. refl)
      (ends-moves own n None (effect sys s (Back own n)) refl refl
      (l.number ∙ (within (s.units own) (b.drops own (path_of s own) (path_ok-is _ (s.units own) path) l.asks) path).path_is.number))
  moves (Restart own number cause) l =
      ⊎_elim
      (λ same.
      restarting l.unit (record l.unit { restarts = l.unit.restarts + 1; awaits = awaited_after cause l.unit.awaits; running = None }) (ap s.units same ∙ l.caused.is_open)
      (upd-same s.units own _ t same ∙ ap (with_restart cause) l.caused.is_open) refl
      (subst (λ (o : ℕ). l.unit.restarts < sys.max_restarts o) (sym same) l.few) (λ none. absurd (let runs = l.caused.runs in cc (none, runs))) (refl, refl) refl
      (λ n. ap (λ (own_is : Bool). own_is && (number == n)) (eq-eqb own t (sym same)) ∙ ap (λ (m : ℕ). m == n) (sym l.caused.number)))
      (λ differ. plainly (λ n. and_left (own == t) (number == n) (ne_eqb own t (λ same. differ (sym same)))) (stays (upd-other s.units own _ t differ) refl))
      (cases_eq t own)
  moves (FailTcp p primary k) l =
      plainly (λ n. refl)
      (logged _ _ (fail-cases sys s (Moves t s) p (stays refl refl) (λ paired. stays refl refl)
      (λ member breaks. left-moves (is_of_pair sys p t) (lose_pair sys p s) refl refl) (λ has. stays refl refl) primary))
  moves (FailServer c p k) l = plainly (λ n. refl) (logged _ _ (process-cases sys s (Moves t s) c p k (stays refl refl) (λ job works. stays refl refl)))
  moves (Takeover p) l = plainly (λ n. refl) (stays refl refl)
  moves (Raise p) l = plainly (λ n. refl) (stays refl refl)
  moves (End own e) l =
      plainly (λ n. refl)
      (logged _ _ (end-any sys s (Moves t s) own e (stays refl refl)
      (left-moves (only own t) (settle_mode sys (sys.pair_of own) (end_terminal own e (leave_units sys (only own) s))) refl refl)))

  module _ (n r : ℕ) (l : LegalBegin sys s t n r) where
    abbrev next : last_of s t ≤ n × (n ≤ last_of s t + 1)
    next =
        let rest = resting (s.units t) l.idle (can_path sys b s i.terms t l.can) in
        let low = rest.low_is in
        let high = rest.high_is in
        let number = l.number in
        (omega (arith, low, number), omega (arith, high, number))

    -- its unit is the next to end
    pub begins-next : n ≡ last_of s t + 1
    begins-next = let low = next.0 in let high = next.1 in let new = l.new in omega (arith, low, high, new)

    -- such an attempt has not begun before
    barred : Past t n r s → ⊥
    barred (has_ended le) = let low = next.0 in l.new (omega (arith, le, low))
    barred (has_restarted unit at is less) = let same : r ≡ unit.restarts = l.restarts ∙ ap restarts_of is in absurd (omega (arith, less, same))
    barred (is_running unit q at is same runs) = absurd (let idle = l.idle in let running = ap attempt_of is in cc (idle, running, runs))

    -- and now it has
    has-begun : Past t n r (effect sys s (Begin t n r))
    has-begun = by (s.units t) refl
      where
        by : (unit : Option OpenUnit) → s.units t ≡ unit → Past t n r (effect sys s (Begin t n r))
        by None is = is_running (unit_with_attempt n s.births (path_of s t) (s.units t)) (path_of s t) begins-next (upd-same s.units t _ t refl)
            (l.restarts ∙ (ap restarts_of is ∙ sym (ap (λ (u : Option OpenUnit). (unit_with_attempt n s.births (path_of s t) u).restarts) is))) (ap (λ (u : Option OpenUnit). (unit_with_attempt n s.births (path_of s t) u).running) is)
        by (Some unit) is = is_running (unit_with_attempt n s.births (path_of s t) (s.units t)) (path_of s t) begins-next (upd-same s.units t _ t refl)
            (l.restarts ∙ (ap restarts_of is ∙ sym (ap (λ (u : Option OpenUnit). (unit_with_attempt n s.births (path_of s t) u).restarts) is))) (ap (λ (u : Option OpenUnit). (unit_with_attempt n s.births (path_of s t) u).running) is)

past-from : (sys : Behaviour) → IsBehaviour sys → (t n r : ℕ) (s : State) → Inv sys s → (log : List Event) → IsRunFrom sys s log → Past t n r s → Past t n r (after_from sys s log)
past-from sys b t n r s i [] run past = past
past-from sys b t n r s i (entry ∷ log) run past =
    past-from sys b t n r (effect sys s entry) (keeps sys b s i entry run.0) log run.1 (still-past (sys.max_restarts t) t n r s (effect sys s entry) entry (moves sys b s i t entry run.0.fits) past)

-- no attempt begins twice
pub begins-once : (sys : Behaviour) → IsBehaviour sys → (before between : List Event) (t n r : ℕ)
    → ¬ IsRun sys (before ++ Begin t n r ∷ (between ++ Begin t n r ∷ []))
begins-once sys b before between t n r run =
    let first = IsRunFrom-split sys (starting sys) before (Begin t n r ∷ (between ++ Begin t n r ∷ [])) run in
    let s : State = after_from sys (starting sys) before in
    let i = kept-from sys b (starting sys) (kept-at-start sys) before first.0 in
    let next : State = effect sys s (Begin t n r) in
    let j = keeps sys b s i (Begin t n r) first.1.0 in
    let second = IsRunFrom-split sys next between (Begin t n r ∷ []) first.1.1 in
    barred sys b (after_from sys next between) (kept-from sys b next j between second.0) t n r second.1.0.fits
    (past-from sys b t n r next j between second.0 (has-begun sys b s i t n r first.1.0.fits))

-- an open unit has no more recorded restarts than its terminal may have
still-few : (limit t : ℕ) (s after : State) (entry : Event) → Goes limit t s after entry → ((unit : OpenUnit) → s.units t ≡ Some unit → unit.restarts ≤ limit)
    → (unit : OpenUnit) → after.units t ≡ Some unit → unit.restarts ≤ limit
still-few limit t s after entry (plainly other (stays units last)) few unit is = few unit (sym units ∙ is)
still-few limit t s after entry (plainly other (begins now now_is counts idle over kin last)) few unit is =
    by (s.units t) few (ap (λ (u : OpenUnit). u.restarts) (let same : unit ≡ now = cc (is, now_is) in same) ∙ counts)
  where
    by : (was : Option OpenUnit) → ((u : OpenUnit) → was ≡ Some u → u.restarts ≤ limit) → unit.restarts ≡ restarts_of was → unit.restarts ≤ limit
    by None before counts = omega (arith, counts)
    by (Some u) before counts = let low = before u refl in omega (arith, counts, low)
still-few limit t s after entry (plainly other (ends none more)) few unit is = absurd (cc (none, is))
still-few limit t s after entry (restarting was now was_is now_is more below runs_then alike last at_entry) few unit is =
    let same : unit.restarts ≡ now.restarts = cc (is, now_is) in omega (arith, same, more, below)

-- a unit has no more restarts than its terminal may have
pub few-restarts : (sys : Behaviour) → IsBehaviour sys → (log : List Event) → IsRun sys log → (t : ℕ) (unit : OpenUnit) → (after_from sys (starting sys) log).units t ≡ Some unit
    → unit.restarts ≤ sys.max_restarts t
few-restarts sys b log run t =
    holds-behind sys (λ s. (unit : OpenUnit) → s.units t ≡ Some unit → unit.restarts ≤ sys.max_restarts t)
    (λ log run entry legal few.
    still-few (sys.max_restarts t) t (after sys log) (effect sys (after sys log) entry) entry
    (moves sys b (after sys log) (kept sys b log run) t entry legal.fits) few)
    (λ unit is. absurd (cc is)) log run

-- how many restarts of a unit an entry is
abbrev one : ℕ → ℕ → Event → ℕ
one t n entry = if is_restart_of t n entry then 1 else 0

-- so many restarts of each unit of the terminal have been: the recorded ones of the next to end, none of later ones
record Counted (t : ℕ) (s : State) (count : ℕ → ℕ) : Type 0 where
  now : count (last_of s t + 1) ≡ restarts_of (s.units t)
  later : (n : ℕ) → last_of s t + 1 < n → count n ≡ 0

still-counted : (sys : Behaviour) (s : State) (i : Inv sys s) (limit t : ℕ) (after : State) (entry : Event) (count : ℕ → ℕ) → Goes limit t s after entry → Counted t s count
    → Counted t after (λ n. count n + one t n entry)
still-counted sys s i limit t after entry count (plainly other plain) counted = by plain
  where
    none : (n : ℕ) → one t n entry ≡ 0
    none n = ap (λ (b : Bool). if b then 1 else 0) (other n)

    by : Moves t s after → Counted t after (λ n. count n + one t n entry)
    by (stays units last) = record {
      now = let zero = none (last_of after t + 1) in let same = ap (λ (n : ℕ). count (n + 1)) last in let was = counted.now in let restarts = ap restarts_of units in omega (arith, zero, same, was, restarts);
      later = λ n above. let zero = none n in let was = counted.later n (omega (arith, above, last)) in omega (arith, zero, was);
    }
    by (begins unit is counts idle over kin last) = record {
      now = let zero = none (last_of after t + 1) in let same = ap (λ (n : ℕ). count (n + 1)) last in let was = counted.now in let restarts = ap restarts_of is in omega (arith, zero, same, was, restarts, counts);
      later = λ n above. let zero = none n in let was = counted.later n (omega (arith, above, last)) in omega (arith, zero, was);
    }
    by (ends gone more) = record {
      now = let zero = none (last_of after t + 1) in let was = counted.later (last_of after t + 1) (omega (arith, more)) in let restarts = ap restarts_of gone in omega (arith, zero, was, restarts);
      later = λ n above. let zero = none n in let was = counted.later n (omega (arith, above, more)) in omega (arith, zero, was);
    }
still-counted sys s i limit t after entry count (restarting was unit was_is is more few runs_then alike last at_entry) counted =
    let number = ((i.terms t (i.known t was was_is)).unit_ok was was_is).number in
    record {
      now =
          let one_more : one t (last_of after t + 1) entry ≡ 1 = ap (λ (b : Bool). if b then 1 else 0) (at_entry (last_of after t + 1) ∙ eq-eqb was.number (last_of after t + 1) (omega (arith, number, last))) in
          let same = ap (λ (n : ℕ). count (n + 1)) last in let before = counted.now in let restarts = ap restarts_of is in let old = ap restarts_of was_is in
          omega (arith, one_more, same, before, restarts, old, more);
      later = λ n above.
          let zero : one t n entry ≡ 0 = ap (λ (b : Bool). if b then 1 else 0) (at_entry n ∙ ne_eqb was.number n (λ same. absurd (omega (arith, same, number, last, above)))) in
          let before = counted.later n (omega (arith, above, last)) in omega (arith, zero, before);
    }

one-first : (t n : ℕ) (entry : Event) (log : List Event) → restarts_in t n (entry ∷ log) ≡ one t n entry + restarts_in t n log
one-first t n entry log = by (is_restart_of t n entry)
  where
    by : (b : Bool) → length (cond b (entry ∷ filter (is_restart_of t n) log) (filter (is_restart_of t n) log)) ≡ (if b then 1 else 0) + restarts_in t n log
    by true = omega arith
    by false = omega arith

counted-from : (sys : Behaviour) → IsBehaviour sys → (t : ℕ) (s : State) → Inv sys s → (count : ℕ → ℕ) → Counted t s count → (log : List Event) → IsRunFrom sys s log
    → (unit : OpenUnit) → (after_from sys s log).units t ≡ Some unit → count unit.number + restarts_in t unit.number log ≡ unit.restarts
counted-from sys b t s i count counted [] run unit is =
    let number = ((i.terms t (i.known t unit is)).unit_ok unit is).number in
    let now = counted.now in let same = ap count number in let restarts = ap restarts_of is in omega (arith, now, same, restarts)
counted-from sys b t s i count counted (entry ∷ log) run unit is =
    let rest = counted-from sys b t (effect sys s entry) (keeps sys b s i entry run.0) (λ n. count n + one t n entry)
    (still-counted sys s i (sys.max_restarts t) t (effect sys s entry) entry count (moves sys b s i t entry run.0.fits) counted) log run.1 unit is in
    let first = one-first t unit.number entry log in
    omega (arith, rest, first)

-- the recorded restarts of an open unit are its RESTART entries
pub restarts-counted : (sys : Behaviour) → IsBehaviour sys → (log : List Event) → IsRun sys log → (t : ℕ) (unit : OpenUnit) → (after_from sys (starting sys) log).units t ≡ Some unit
    → restarts_in t unit.number log ≡ unit.restarts
restarts-counted sys b log run t unit is =
    let whole = counted-from sys b t (starting sys) (kept-at-start sys) (λ n. 0) (record { now = refl; later = λ n above. refl }) log run unit is in
    omega (arith, whole)

-- a terminal is suspended after exactly as many as it may have
pub suspended-after : (sys : Behaviour) → IsBehaviour sys → (log : List Event) (t : ℕ) (kind : Cause) → IsRun sys (log ++ End t (ending.Suspended kind) ∷ []) → (unit : OpenUnit)
    → (after_from sys (starting sys) log).units t ≡ Some unit → restarts_in t unit.number log ≡ sys.max_restarts t
suspended-after sys b log t kind run unit is =
    let parts = IsRunFrom-split sys (starting sys) log (End t (ending.Suspended kind) ∷ []) run in
    let l = parts.1.0.fits in
    let same : unit ≡ l.unit = let open_is = l.caused.is_open in cc (is, open_is) in
    restarts-counted sys b log parts.0 t unit is ∙ (ap (λ (u : OpenUnit). u.restarts) same ∙ l.full)

-- the number of a terminal's last ended unit never falls
pub rises : {limit t : ℕ} {s after : State} {entry : Event} → Goes limit t s after entry → last_of s t ≤ last_of after t
rises (plainly other (stays units last)) = omega (arith, last)
rises (plainly other (begins unit is counts idle over kin last)) = omega (arith, last)
rises (plainly other (ends none more)) = omega (arith, more)
rises (restarting was unit was_is is more few runs_then alike last at_entry) = omega (arith, last)

-- unit n of t has restarted for unit m of o: that one is awaited, or it has ended, or n has
data Awaited (t n o m : ℕ) (s : State) : Type 0 where
  is_over : m ≤ last_of s o → Awaited t n o m s
  is_ended : n ≤ last_of s t → Awaited t n o m s
  waits : (unit : OpenUnit) → n ≡ last_of s t + 1 → s.units t ≡ Some unit → unit.running ≡ None → unit.awaits ≡ Some (record { terminal = o; number = m }) → Awaited t n o m s

still-awaited : {limit other : ℕ} {entry : Event} (t n o m : ℕ) (s after : State) → Goes limit t s after entry → Goes other o s after entry → Awaited t n o m s → Awaited t n o m after
still-awaited t n o m s after goes goes_o (is_over low) = let up = rises goes_o in is_over (omega (arith, low, up))
still-awaited t n o m s after goes goes_o (is_ended low) = let up = rises goes in is_ended (omega (arith, low, up))
still-awaited t n o m s after (plainly other (stays units last)) goes_o (waits unit next is idle awaits) = waits unit (omega (arith, next, last)) (units ∙ is) idle awaits
still-awaited t n o m s after (plainly other (begins now now_is counts idle over kin last)) goes_o (waits unit next is rests awaits) =
    let low : m ≤ last_of s o = subst (IsOver s.ended) (ap awaited_of is ∙ awaits) over in
    let up = rises goes_o in is_over (omega (arith, low, up))
still-awaited t n o m s after (plainly other (ends none more)) goes_o (waits unit next is idle awaits) = is_ended (omega (arith, next, more))
still-awaited t n o m s after (restarting was unit was_is is more few runs_then alike last at_entry) goes_o (waits own next own_is idle awaits) =
    absurd (runs_then (let same : was ≡ own = cc (was_is, own_is) in ap (λ (u : OpenUnit). u.running) same ∙ idle))

awaited-from : (sys : Behaviour) → IsBehaviour sys → (t n o m : ℕ) (s : State) → Inv sys s → (log : List Event) → IsRunFrom sys s log → Awaited t n o m s → Awaited t n o m (after_from sys s log)
awaited-from sys b t n o m s i [] run awaited = awaited
awaited-from sys b t n o m s i (entry ∷ log) run awaited =
    awaited-from sys b t n o m (effect sys s entry) (keeps sys b s i entry run.0) log run.1
    (still-awaited t n o m s (effect sys s entry) (moves sys b s i t entry run.0.fits) (moves sys b s i o entry run.0.fits) awaited)

-- a unit restarts for another one at most once
pub older-once : (sys : Behaviour) → IsBehaviour sys → (before between : List Event) (t n o m : ℕ)
    → ¬ IsRun sys (before ++ Restart t n (cause.Older o m) ∷ (between ++ Restart t n (cause.Older o m) ∷ []))
older-once sys b before between t n o m run =
    let restart : Event = Restart t n (cause.Older o m) in
    let first = IsRunFrom-split sys (starting sys) before (restart ∷ (between ++ restart ∷ [])) run in
    let s : State = after_from sys (starting sys) before in
    let i = kept-from sys b (starting sys) (kept-at-start sys) before first.0 in
    let next : State = effect sys s restart in
    let j = keeps sys b s i restart first.1.0 in
    let second = IsRunFrom-split sys next between (restart ∷ []) first.1.1 in
    let l = first.1.0.fits in
    let own = ((i.terms t (i.known t l.unit l.caused.is_open)).unit_ok l.unit l.caused.is_open).number in
    let number = l.caused.number in
    clash (after_from sys next between) (kept-from sys b next j between second.0) second.1.0.fits
    (awaited-from sys b t n o m next j between second.0
    (waits (record l.unit { restarts = l.unit.restarts + 1; awaits = Some (record { terminal = o; number = m }); running = None }) (omega (arith, own, number))
    (upd-same s.units t _ t refl ∙ ap (with_restart (cause.Older o m)) l.caused.is_open) refl refl))
  where
    clash : (x : State) → Inv sys x → LegalRestart sys x t n (cause.Older o m) → Awaited t n o m x → ⊥
    clash x i l (is_over low) =
        let older = l.caused.holds in
        let own = ((i.terms o (i.known o older.older older.is_open)).unit_ok older.older older.is_open).number in
        let number = older.number in absurd (omega (arith, low, own, number))
    clash x i l (is_ended low) =
        let own = ((i.terms t (i.known t l.unit l.caused.is_open)).unit_ok l.unit l.caused.is_open).number in
        let number = l.caused.number in absurd (omega (arith, low, own, number))
    clash x i l (waits unit next is idle awaits) = absurd (let is_open = l.caused.is_open in let runs = l.caused.runs in let same : unit ≡ l.unit = cc (is, is_open) in let none = ap (λ (u : OpenUnit). u.running) (sym same) in cc (none, idle, runs))
