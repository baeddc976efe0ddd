-- A unit restarts as the younger one at most as often as there are other terminals.
use Rattle.std.proofs.Common.{◌≡◌, ℕ, ◌+◌, ◌-◌, ◌<◌, ◌≤◌, ⊎_elim, Bool, true, false, ◌&&◌, ◌==◌, cond, List, [], ◌∷◌, ◌++◌, length, filter, Option, Some, None, refl, ap, sym, subst, append-nil, append_assoc, length-append, arith, ◌∙◌}
use Rattle.std.proofs.lemmas.Bool.{and_from, and_left, and_right, cases_eq, cases_lt, eq-eqb, ne_eqb}
use Rattle.std.proofs.lemmas.List.Elements.{filter-append}
use Rattle.pw_event.specs.declared.event.Cause.{Cause}
use Rattle.pw_event.specs.declared.event.Cause.TheVariants as cause
use Rattle.pw_event.specs.declared.event.Event.{Event}
use Rattle.pw_event.specs.declared.event.Event.TheVariants as event
use Rattle.pw_onecopy.proofs.Update.{upd-other}
use Rattle.pw_onecopy.specs.Behaviour.{Behaviour}
use Rattle.pw_onecopy.specs.IsBehaviour.{IsBehaviour}
use Rattle.pw_onecopy.specs.Path.{PathAnswer}
use Rattle.pw_paired.specs.Failure.{LegalRestart, awaited_after}
use Rattle.pw_paired.specs.State.{Awaited, OpenUnit, State, starting}
use Rattle.pw_paired.specs.Step.{Fits, IsRun, after, after_from, change, effect}
use Rattle.pw_paired.specs.Units.{attempt_of}
use Rattle.pw_paired.specs.Terminal.{IsOver}
use Rattle.pw_laws.proofs.Births.{BirthsOk, births-ok}
use Rattle.pw_laws.proofs.induction.Runs.{after-more, holds-behind, kept}
use Rattle.pw_laws.proofs.kept.Kept.{Inv}
use Rattle.pw_laws.proofs.restarts.Counting.{weight}
use Rattle.pw_laws.proofs.restarts.Older.{free, free-less, free-other, free-room, free-same, free-stays, now-is}
use Rattle.pw_laws.proofs.steps.Awaiting.{UnitMoves, ends, unit-moves, opens, runs, stays}
use Rattle.pw_laws.specs.serial.Restarts.{is_older_restart_of, older_restarts_in}

-- what a running unit awaited has ended
abbrev pub RunsOver : State → Type 0
RunsOver s = (t : ℕ) (u : OpenUnit) (q : List PathAnswer) (a : Awaited) → s.units t ≡ Some u → u.running ≡ Some q → u.awaits ≡ Some a → a.number ≤ (s.ended a.terminal).number

-- ended numbers do not fall
rises : {s x : State} {o : ℕ} → UnitMoves s x o → (s.ended o).number ≤ (x.ended o).number
rises (stays units last) = omega (arith, last)
rises (runs was now a c d e f last g h) = omega (arith, last)
rises (opens now a c d last e f g) = omega (arith, last)
rises (ends none number next) = omega (arith, next)

-- one entry more in a count
count-entry : (t n : ℕ) (log : List Event) (entry : Event) → older_restarts_in t n (log ++ entry ∷ []) ≡ older_restarts_in t n log + weight (is_older_restart_of t n entry)
count-entry t n log entry =
    ap (λ (l : List Event). length l) (filter-append (is_older_restart_of t n) log (entry ∷ []))
    ∙ (length-append (filter (is_older_restart_of t n) log) (filter (is_older_restart_of t n) (entry ∷ []))
    ∙ ap (λ (k : ℕ). older_restarts_in t n log + k) (by (is_older_restart_of t n entry)))
  where
    by : (b : Bool) → length (cond b (entry ∷ []) []) ≡ weight b
    by true = refl
    by false = refl

-- an entry that is no restart is none as the younger one
not-older : (t n : ℕ) (entry : Event) → ((own m : ℕ) (kind : Cause) → entry ≡ event.Restart own m kind → ⊥) → is_older_restart_of t n entry ≡ false
not-older t n (event.Restart own m kind) other = absurd (other own m kind refl)
not-older t n entry other = refl

-- the entry joins the log
pub logged : (sys : Behaviour) (s : State) (entry : Event) (o : ℕ) → UnitMoves s (change sys s entry) o → UnitMoves s (effect sys s entry) o
logged sys s entry o (stays units last) = stays units last
logged sys s entry o (runs was now a c d e f g h j) = runs was now a c d e f g h j
logged sys s entry o (opens now a c d e f g h) = opens now a c d e f g h
logged sys s entry o (ends none number next) = ends none number next

-- what the log counts of a terminal's units
pub record Olders (sys : Behaviour) (t : ℕ) (s : State) : Type 0 where
  pub past : (n : ℕ) → n ≤ (s.ended t).number → older_restarts_in t n s.log + 1 ≤ sys.terminals
  pub now : (u : OpenUnit) → s.units t ≡ Some u → older_restarts_in t ((s.ended t).number + 1) s.log + free sys s u + 1 ≤ sys.terminals
  pub none : s.units t ≡ None → older_restarts_in t ((s.ended t).number + 1) s.log ≡ 0
  pub later : (n : ℕ) → (s.ended t).number + 1 < n → older_restarts_in t n s.log ≡ 0

-- all of it
pub record CountsOk (sys : Behaviour) (t : ℕ) (s : State) : Type 0 where
  pub births : BirthsOk s.units s.births
  pub over : RunsOver s
  pub olders : Olders sys t s

module _ (sys : Behaviour) (b : IsBehaviour sys) (t : ℕ) (known : t < sys.terminals) where
  -- behind an entry that is no restart
  module _ (s : State) (i : Inv sys s) (entry : Event) (goes_at : (o : ℕ) → UnitMoves s (effect sys s entry) o) (other : (n : ℕ) → is_older_restart_of t n entry ≡ false) (ok : CountsOk sys t s) where
    abbrev x : State
    x = effect sys s entry

    over-kept : RunsOver x
    over-kept o u q a is runs_q awaits = by (goes_at o)
      where
        up : (s.ended a.terminal).number ≤ (x.ended a.terminal).number
        up = rises (goes_at a.terminal)

        by : UnitMoves s x o → a.number ≤ (x.ended a.terminal).number
        by (stays units last) = let low = ok.over o u q a (sym units ∙ is) runs_q awaits in omega (arith, low, up)
        by (runs was now was_is now_is c d e f g over_it) =
            let same : now ≡ u = cc (now_is, is) in
            let low : a.number ≤ (s.ended a.terminal).number = subst (IsOver s.ended) (sym e ∙ (ap (λ (w : OpenUnit). w.awaits) same ∙ awaits)) over_it in
            omega (arith, low, up)
        by (opens now none_is now_is awaits_is c d e f) = absurd (let same : now ≡ u = cc (now_is, is) in let a_is = ap (λ (w : OpenUnit). w.awaits) same in cc (a_is, awaits_is, awaits))
        by (ends none_is number next) = absurd (cc (none_is, is))

    same-count : (n : ℕ) → older_restarts_in t n x.log ≡ older_restarts_in t n s.log
    same-count n = let more = count-entry t n s.log entry in let zero = ap weight (other n) in omega (arith, more, zero)

    olders-kept : Olders sys t x
    olders-kept = by (goes_at t)
      where
        by : UnitMoves s x t → Olders sys t x
        by (stays units last) = record {
          past = λ n low. let c = same-count n in let was = ok.olders.past n (omega (arith, low, last)) in omega (arith, c, was);
          now = λ u is.
              let c = same-count ((x.ended t).number + 1) in
              let at = ap (λ (k : ℕ). older_restarts_in t (k + 1) s.log) last in
              let was = ok.olders.now u (sym units ∙ is) in
              let less = free-stays sys s x ok.births t u u (sym units ∙ is) refl refl goes_at in
              omega (arith, c, at, was, less);
          none = λ is. same-count ((x.ended t).number + 1) ∙ (ap (λ (k : ℕ). older_restarts_in t (k + 1) s.log) last ∙ ok.olders.none (sym units ∙ is));
          later = λ n high. same-count n ∙ ok.olders.later n (omega (arith, high, last));
        }
        by (runs was now was_is now_is birth number awaits last restarts over_it) = record {
          past = λ n low. let c = same-count n in let was_ok = ok.olders.past n (omega (arith, low, last)) in omega (arith, c, was_ok);
          now = λ u is.
              let same : now ≡ u = cc (now_is, is) in
              let c = same-count ((x.ended t).number + 1) in
              let at = ap (λ (k : ℕ). older_restarts_in t (k + 1) s.log) last in
              let was_ok = ok.olders.now was was_is in
              let less = free-stays sys s x ok.births t was u was_is (ap (λ (w : OpenUnit). w.birth) (sym same) ∙ birth) (ap (λ (w : OpenUnit). w.awaits) (sym same) ∙ awaits) goes_at in
              omega (arith, c, at, was_ok, less);
          none = λ is. absurd (cc (is, now_is));
          later = λ n high. same-count n ∙ ok.olders.later n (omega (arith, high, last));
        }
        by (opens now none_is now_is awaits last live restarts birth) = record {
          past = λ n low. let c = same-count n in let was_ok = ok.olders.past n (omega (arith, low, last)) in omega (arith, c, was_ok);
          now = λ u is.
              let c = same-count ((x.ended t).number + 1) in
              let at = ap (λ (k : ℕ). older_restarts_in t (k + 1) s.log) last in
              let zero = ok.olders.none none_is in
              let room = free-room sys x t u known is in
              omega (arith, c, at, zero, room);
          none = λ is. absurd (cc (is, now_is));
          later = λ n high. same-count n ∙ ok.olders.later n (omega (arith, high, last));
        }
        by (ends none_is number next) = record {
          past = λ n low.
              let c = same-count n in
              ⊎_elim
              (λ old. let was_ok = ok.olders.past n (omega (arith, old)) in omega (arith, c, was_ok))
              (λ high.
              let here : n ≡ (s.ended t).number + 1 = omega (arith, low, next, high) in
              let at = ap (λ (k : ℕ). older_restarts_in t k s.log) here in
              let few = last-few (s.units t) refl in
              omega (arith, c, at, few))
              (cases_lt n ((s.ended t).number + 1));
          now = λ u is. absurd (cc (none_is, is));
          none = λ is. same-count ((x.ended t).number + 1) ∙ ok.olders.later ((x.ended t).number + 1) (omega (arith, next));
          later = λ n high. same-count n ∙ ok.olders.later n (omega (arith, high, next));
        }
          where
            last-few : (unit : Option OpenUnit) → s.units t ≡ unit → older_restarts_in t ((s.ended t).number + 1) s.log + 1 ≤ sys.terminals
            last-few None is = let zero = ok.olders.none is in omega (arith, zero, known)
            last-few (Some u) is = let now_ok = ok.olders.now u is in omega (arith, now_ok)

  -- behind a restart
  module _ (s : State) (i : Inv sys s) (own n : ℕ) (kind : Cause) (l : LegalRestart sys s own n kind) (ok : CountsOk sys t s) where
    abbrev y : State
    y = effect sys s (event.Restart own n kind)

    over-restarted : RunsOver y
    over-restarted o u q a is runs_q awaits =
        ⊎_elim
        (λ same. absurd (let mine = now-is sys s i own n kind l in let there = ap y.units (sym same) ∙ is in let rests = ap attempt_of mine in let runs_too = ap attempt_of there in cc (rests, runs_too, runs_q)))
        (λ differ. ok.over o u q a (sym (upd-other s.units own _ o differ) ∙ is) runs_q awaits)
        (cases_eq o own)

    number : n ≡ (s.ended own).number + 1
    number = sym l.caused.number ∙ ((i.terms own (i.known own l.unit l.caused.is_open)).unit_ok l.unit l.caused.is_open).number

    -- the entry counts for another unit, or by its cause
    weight-other : (m : ℕ) → (own ≡ t → n ≡ m → ⊥) → weight (is_older_restart_of t m (event.Restart own n kind)) ≡ 0
    weight-other m differs = by kind
      where
        none : (own == t && n == m) ≡ false
        none = ⊎_elim (λ same. and_right (own == t) (n == m) (ne_eqb n m (λ e. differs same e))) (λ differ. and_left (own == t) (n == m) (ne_eqb own t differ)) (cases_eq own t)

        by : (kind : Cause) → weight (is_older_restart_of t m (event.Restart own n kind)) ≡ 0
        by (cause.Older o p) = ap weight none
        by (cause.Takeover p) = refl
        by (cause.Server k) = refl
        by cause.Redo = refl

    -- what it takes from the older units that are left
    own-less : own ≡ t → weight (is_older_restart_of t n (event.Restart own n kind)) + free sys y (record l.unit { restarts = l.unit.restarts + 1; awaits = awaited_after kind l.unit.awaits; running = None }) ≤ free sys s l.unit
    own-less same = by kind l
      where
        by : (kind : Cause) → (l : LegalRestart sys s own n kind)
            → weight (is_older_restart_of t n (event.Restart own n kind)) + free sys (effect sys s (event.Restart own n kind)) (record l.unit { restarts = l.unit.restarts + 1; awaits = awaited_after kind l.unit.awaits; running = None }) ≤ free sys s l.unit
        by (cause.Older o m) l =
            let less = free-less sys s i own n o m l (λ a some. ok.over own l.unit l.caused.start a l.caused.is_open l.caused.runs some) in
            let one = ap weight (and_from (own == t) (n == n) (eq-eqb own t same) (eq-eqb n n refl)) in
            omega (arith, less, one)
        by (cause.Takeover p) l = let less = free-same sys s i own n (cause.Takeover p) l refl in omega (arith, less)
        by (cause.Server k) l = let less = free-same sys s i own n (cause.Server k) l refl in omega (arith, less)
        by cause.Redo l = let less = free-same sys s i own n cause.Redo l refl in omega (arith, less)

    count-other : (m : ℕ) → (own ≡ t → n ≡ m → ⊥) → older_restarts_in t m y.log ≡ older_restarts_in t m s.log
    count-other m differs = let more = count-entry t m s.log (event.Restart own n kind) in let zero = weight-other m differs in omega (arith, more, zero)

    olders-restarted : Olders sys t y
    olders-restarted = record {
      past = λ m low.
          let c = count-other m (λ same here. let next = number in let at = ap (λ (k : ℕ). (s.ended k).number) same in absurd (omega (arith, low, here, next, at))) in
          let was = ok.olders.past m low in omega (arith, c, was);
      now = λ u is.
          ⊎_elim
          (λ same.
          let mine = now-is sys s i own n kind l in
          let there = ap y.units same ∙ is in
          let one : record l.unit { restarts = l.unit.restarts + 1; awaits = awaited_after kind l.unit.awaits; running = None } ≡ u = cc (mine, there) in
          let less = own-less same in
          let at : n ≡ (s.ended t).number + 1 = number ∙ ap (λ (k : ℕ). (s.ended k).number + 1) same in
          let more = count-entry t n s.log (event.Restart own n kind) in
          let was = ok.olders.now l.unit (ap s.units (sym same) ∙ l.caused.is_open) in
          let f = ap (free sys y) one in
          let c = ap (λ (k : ℕ). older_restarts_in t k y.log) at in
          let d = ap (λ (k : ℕ). older_restarts_in t k s.log) at in
          omega (arith, less, more, was, f, c, d))
          (λ differ.
          let c = count-other ((s.ended t).number + 1) (λ same here. differ same) in
          let less = free-other sys s i own n kind l u in
          let was = ok.olders.now u (sym (upd-other s.units own _ t (λ e. differ (sym e))) ∙ is) in
          omega (arith, c, less, was))
          (cases_eq own t);
      none = λ is.
          ⊎_elim
          (λ same. absurd (let mine = now-is sys s i own n kind l in let there = ap y.units same ∙ is in cc (mine, there)))
          (λ differ. count-other ((s.ended t).number + 1) (λ same here. differ same) ∙ ok.olders.none (sym (upd-other s.units own _ t (λ e. differ (sym e))) ∙ is))
          (cases_eq own t);
      later = λ m high.
          count-other m (λ same here. let next = number in let at = ap (λ (k : ℕ). (s.ended k).number) same in absurd (omega (arith, high, here, next, at))) ∙ ok.olders.later m high;
    }

  -- the births behind a run
  step-counts : (s : State) → Inv sys s → (entry : Event) → Fits sys s entry → BirthsOk (effect sys s entry).units (effect sys s entry).births → CountsOk sys t s → CountsOk sys t (effect sys s entry)
  step-counts s i (event.Restart own n kind) l births ok = record { births = births; over = over-restarted s i own n kind l ok; olders = olders-restarted s i own n kind l ok }
  step-counts s i entry l births ok =
      let at : (o : ℕ) → UnitMoves s (effect sys s entry) o = λ o. logged sys s entry o (unit-moves sys b s i o entry l (λ own n kind is. absurd (cc is))) in
      let plain : (n : ℕ) → is_older_restart_of t n entry ≡ false = λ n. not-older t n entry (λ own m kind is. absurd (cc is)) in
      record { births = births; over = over-kept s i entry at plain ok; olders = olders-kept s i entry at plain ok }

  -- all of it holds behind every run
  pub counts-ok : (log : List Event) → IsRun sys log → CountsOk sys t (after sys log)
  counts-ok =
      holds-behind sys (CountsOk sys t)
      (λ log run entry legal ok.
      step-counts (after sys log) (kept sys b log run) entry legal.fits
      (subst (λ (s : State). BirthsOk s.units s.births) (after-more sys log entry) (births-ok sys (log ++ entry ∷ []))) ok)
      (record {
        births = births-ok sys [];
        over = λ o u q a is. absurd (cc is);
        olders = record { past = λ n low. omega (arith, known); now = λ u is. absurd (cc is); none = λ is. refl; later = λ n high. refl };
      })

-- the log of the state behind a log
pub log-from : (sys : Behaviour) (s : State) (log : List Event) → (after_from sys s log).log ≡ s.log ++ log
log-from sys s [] = sym (append-nil s.log)
log-from sys s (entry ∷ log) = log-from sys (effect sys s entry) log ∙ append_assoc s.log (entry ∷ []) log

-- so such restarts are fewer than the terminals
pub older-few : (sys : Behaviour) → IsBehaviour sys → (log : List Event) → IsRun sys log → (t n : ℕ) → t < sys.terminals → older_restarts_in t n log ≤ sys.terminals - 1
older-few sys b log run t n known =
    let ok = (counts-ok sys b t known log run).olders in
    let s : State = after sys log in
    let same = ap (older_restarts_in t n) (log-from sys (starting sys) log) in
    ⊎_elim
    (λ old. let few = ok.past n (omega (arith, old)) in omega (arith, same, few))
    (λ high.
    ⊎_elim
    (λ here. let at = ap (λ (k : ℕ). older_restarts_in t k s.log) here in let few = last (s.units t) refl ok in omega (arith, same, at, few))
    (λ differ. let none = ok.later n (omega (arith, high, differ)) in omega (arith, same, none))
    (cases_eq n ((s.ended t).number + 1)))
    (cases_lt n ((s.ended t).number + 1))
  where
    last : (unit : Option OpenUnit) → (after sys log).units t ≡ unit → Olders sys t (after sys log) → older_restarts_in t (((after sys log).ended t).number + 1) (after sys log).log + 1 ≤ sys.terminals
    last None is ok = let zero = ok.none is in omega (arith, zero, known)
    last (Some u) is ok = let now_ok = ok.now u is in omega (arith, now_ok)
