-- The unit that an open one awaits is open and older, until it has ended; and an open unit is one of a live terminal.
use Rattle.std.proofs.Common.{◌≡◌, ◌≢◌, ℕ, ◌+◌, ◌<◌, ⊎_elim, List, Option, Some, None, refl, ap, sym, subst, arith, ◌∙◌}
use Rattle.std.proofs.lemmas.Bool.{cases_eq, cond-false, cond-true, eq-eqb, ne_eqb}
use Rattle.pw_event.specs.declared.event.Cause.{Cause}
use Rattle.pw_event.specs.declared.event.Cause.TheVariants as cause
use Rattle.pw_event.specs.declared.event.Event.{Event}
use Rattle.pw_event.specs.declared.event.Event.TheVariants as event
use Rattle.pw_onecopy.specs.Behaviour.{Behaviour}
use Rattle.pw_onecopy.specs.IsBehaviour.{IsBehaviour}
use Rattle.pw_onecopy.specs.Path.{unit_number}
use Rattle.pw_onecopy.proofs.Update.{upd-other, upd-same}
use Rattle.pw_paired.specs.Failure.{LegalRestart, awaited_after, with_restart}
use Rattle.pw_paired.specs.State.{Awaited, LastEnded, OpenUnit, State}
use Rattle.pw_paired.specs.Step.{Fits, IsRun, after, change, effect}
use Rattle.pw_paired.specs.Terminal.{IsOver, LegalBegin, awaited_of, path_of, unit_with_attempt}
use Rattle.pw_paired.specs.Units.{last_after_leaving, only}
use Rattle.pw_laws.proofs.induction.Failed.{end-cases, fail-cases, process-cases}
use Rattle.pw_laws.proofs.induction.Runs.{holds-behind, kept}
use Rattle.pw_laws.proofs.induction.Served.{file-is, reply-cases}
use Rattle.pw_laws.proofs.kept.Failing.{out-job}
use Rattle.pw_laws.proofs.kept.Kept.{Inv}
use Rattle.pw_laws.proofs.terms.KeepsChecks.{can_path, path_ok-is, within}
use Rattle.pw_laws.proofs.terms.KeepsEnds.{OutOk, out-path}
use Rattle.pw_laws.proofs.terms.KeepsPairs.{not-of-pair, of-pair}

-- what an entry other than a restart does to the open unit of a terminal and to its last ended one
pub data UnitMoves (s x : State) (t : ℕ) : Type 0 where
  stays : x.units t ≡ s.units t → (x.ended t).number ≡ (s.ended t).number → UnitMoves s x t
  runs : (was now : OpenUnit) → s.units t ≡ Some was → x.units t ≡ Some now → now.birth ≡ was.birth → now.number ≡ was.number → now.awaits ≡ was.awaits
      → (x.ended t).number ≡ (s.ended t).number → now.restarts ≡ was.restarts → IsOver s.ended was.awaits → UnitMoves s x t
  opens : (now : OpenUnit) → s.units t ≡ None → x.units t ≡ Some now → now.awaits ≡ None → (x.ended t).number ≡ (s.ended t).number
      → (s.terms t).ending ≡ None → now.restarts ≡ 0 → now.birth ≡ s.births → UnitMoves s x t
  ends : x.units t ≡ None → ((u : OpenUnit) → s.units t ≡ Some u → (x.ended t).number ≡ u.number) → (x.ended t).number ≡ (s.ended t).number + 1 → UnitMoves s x t

module _ (sys : Behaviour) (b : IsBehaviour sys) (s : State) (i : Inv sys s) (t : ℕ) where
  -- the next unit ends
  next-ends : (x : State) → x.units t ≡ None → (x.ended t).number ≡ (s.ended t).number + 1 → UnitMoves s x t
  next-ends x none next = ends none (λ u is. next ∙ sym ((i.terms t (i.known t u is)).unit_ok u is).number) next

  -- its open unit, if any, is left
  left-goes : (x : State) → x.units t ≡ None → x.ended t ≡ last_after_leaving (s.units t) (s.ended t) → UnitMoves s x t
  left-goes x none is = by (s.units t) refl is
    where
      by : (unit : Option OpenUnit) → s.units t ≡ unit → x.ended t ≡ last_after_leaving unit (s.ended t) → UnitMoves s x t
      by None was last = stays (none ∙ sym was) (ap (λ (l : LastEnded). l.number) last)
      by (Some u) was last = next-ends x none (ap (λ (l : LastEnded). l.number) last ∙ ((i.terms t (i.known t u was)).unit_ok u was).number)

  -- an entry of one terminal leaves the units of the others
  at-own : (P : ℕ → Type 0) (own : ℕ) → P t → (t ≢ own → P own) → P own
  at-own P own mine others = ⊎_elim (λ same. subst P same mine) others (cases_eq t own)

  begins : (n r : ℕ) → (l : LegalBegin sys s t n r) → UnitMoves s (effect sys s (event.Begin t n r)) t
  begins n r l = by (s.units t) refl
    where
      by : (unit : Option OpenUnit) → s.units t ≡ unit → UnitMoves s (effect sys s (event.Begin t n r)) t
      by None is = opens (unit_with_attempt n s.births (path_of s t) None) is (upd-same s.units t _ t refl ∙ ap (λ (u : Option OpenUnit). Some (unit_with_attempt n s.births (path_of s t) u)) is) refl refl l.can.live.going_on refl refl
      by (Some u) is = runs u (unit_with_attempt n s.births (path_of s t) (Some u)) is (upd-same s.units t _ t refl ∙ ap (λ (x : Option OpenUnit). Some (unit_with_attempt n s.births (path_of s t) x)) is) refl refl refl refl refl (subst (λ (x : Option OpenUnit). IsOver s.ended (awaited_of x)) is l.over)

  -- each entry but a restart moves a unit so
  pub unit-moves : (entry : Event) → Fits sys s entry → ((own n : ℕ) (kind : Cause) → entry ≡ event.Restart own n kind → ⊥) → UnitMoves s (change sys s entry) t
  unit-moves (event.Show own phase attempt k) l other = stays refl refl
  unit-moves (event.Key own k) l other = stays refl refl
  unit-moves (event.CheckStart own) l other = stays refl refl
  unit-moves (event.CheckEnd own) l other = stays refl refl
  unit-moves (event.CheckCopy own) l other = stays refl refl
  unit-moves (event.Applied own) l other = stays refl refl
  unit-moves (event.Begin own n r) l other =
      at-own (λ (o : ℕ). Fits sys s (event.Begin o n r) → UnitMoves s (change sys s (event.Begin o n r)) t) own
      (λ mine. relabelled (begins n r mine)) (λ differ mine. stays (upd-other s.units own _ t differ) refl) l
    where
      relabelled : UnitMoves s (effect sys s (event.Begin t n r)) t → UnitMoves s (change sys s (event.Begin t n r)) t
      relabelled (stays units last) = stays units last
      relabelled (runs was now a c d e f g h o) = runs was now a c d e f g h o
      relabelled (opens now a c d e f g h) = opens now a c d e f g h
      relabelled (ends a c d) = ends a c d
  unit-moves (event.Send own n c) l other = stays refl refl
  unit-moves (event.Take c p own) l other = stays refl refl
  unit-moves (event.File c p op mode f status) l other = subst (λ (x : State). UnitMoves s x t) (sym (file-is sys s c p op mode f status l)) (stays refl refl)
  unit-moves (event.Reply c p own fault) l other =
      reply-cases sys s c p own (λ (x : State). UnitMoves s x t) fault l
      (λ reply none asks outside.
      ⊎_elim
      (λ same.
      next-ends _ (upd-same s.units own None t same)
      (ap (λ (x : LastEnded). x.number) (upd-same s.ended own _ t same)
      ∙ (ap (λ (o : ℕ). unit_number (path_of s o)) (sym same)
      ∙ (out-path sys b s i.terms t (record { class = c; request = l.job.request }) (subst (λ (o : ℕ). OutOk sys s o (record { class = c; request = l.job.request })) (l.whose ∙ sym same) (out-job sys b s i c p l.job l.at_work))).number)))
      (λ differ. stays (upd-other s.units own None t differ) (ap (λ (x : LastEnded). x.number) (upd-other s.ended own _ t differ)))
      (cases_eq t own))
      (λ reply none asks inside. stays refl refl) (λ x is asks. stays refl refl)
  unit-moves (event.Again own n) l other = stays refl refl
  unit-moves (event.Commit own n) l other =
      at-own (λ (o : ℕ). Fits sys s (event.Commit o n) → UnitMoves s (change sys s (event.Commit o n)) t) own
      (λ mine.
      let path = can_path sys b s i.terms t mine.can in
      next-ends _ (upd-same s.units t None t refl)
      (ap (λ (x : LastEnded). x.number) (upd-same s.ended t _ t refl) ∙ (mine.number ∙ (within (s.units t) (b.ends t (path_of s t) (path_ok-is _ (s.units t) path) mine.asks) path).path_is.number)))
      (λ differ mine. stays (upd-other s.units own None t differ) (ap (λ (x : LastEnded). x.number) (upd-other s.ended own _ t differ))) l
  unit-moves (event.Back own n) l other =
      at-own (λ (o : ℕ). Fits sys s (event.Back o n) → UnitMoves s (change sys s (event.Back o n)) t) own
      (λ mine.
      let path = can_path sys b s i.terms t mine.can in
      next-ends _ (upd-same s.units t None t refl)
      (ap (λ (x : LastEnded). x.number) (upd-same s.ended t _ t refl) ∙ (mine.number ∙ (within (s.units t) (b.drops t (path_of s t) (path_ok-is _ (s.units t) path) mine.asks) path).path_is.number)))
      (λ differ mine. stays (upd-other s.units own None t differ) (ap (λ (x : LastEnded). x.number) (upd-other s.ended own _ t differ))) l
  unit-moves (event.Restart own n kind) l other = absurd (other own n kind refl)
  unit-moves (event.FailTcp p primary k) l other =
      fail-cases sys s (λ (x : State). UnitMoves s x t) p (stays refl refl) (λ paired. stays refl refl)
      (λ which breaks.
      ⊎_elim (λ of. left-goes _ (of-pair sys p t None (s.units t) of) (of-pair sys p t _ (s.ended t) of))
      (λ differ. stays (not-of-pair sys p t None (s.units t) differ) (ap (λ (x : LastEnded). x.number) (not-of-pair sys p t _ (s.ended t) differ))) (cases_eq (sys.pair_of t) p))
      (λ has. stays refl refl) primary
  unit-moves (event.FailServer c p k) l other = process-cases sys s (λ (x : State). UnitMoves s x t) c p k (stays refl refl) (λ job works. stays refl refl)
  unit-moves (event.Takeover p) l other = stays refl refl
  unit-moves (event.Raise p) l other = stays refl refl
  unit-moves (event.End own e) l other =
      end-cases sys s (λ (x : State). UnitMoves s x t) own e l (λ stopped. stays refl refl) (λ lost. stays refl refl)
      (λ leaves.
      ⊎_elim (λ same. left-goes _ (cond-true (only own t) None (s.units t) (eq-eqb t own same)) (cond-true (only own t) _ (s.ended t) (eq-eqb t own same)))
      (λ differ. stays (cond-false (only own t) None (s.units t) (ne_eqb t own differ)) (ap (λ (x : LastEnded). x.number) (cond-false (only own t) _ (s.ended t) (ne_eqb t own differ))))
      (cases_eq t own))

-- the unit that an open one awaits is open and older, while it has not ended
abbrev pub AwaitsOk : State → Type 0
AwaitsOk s = (t : ℕ) (u : OpenUnit) (a : Awaited) → s.units t ≡ Some u → u.awaits ≡ Some a → (s.ended a.terminal).number < a.number
    → (v : OpenUnit) × (s.units a.terminal ≡ Some v) × (v.number ≡ a.number) × (v.birth < u.birth)

-- a unit that was open is open, or it has ended
still-open : (s x : State) (o m birth : ℕ) → UnitMoves s x o → (x.ended o).number < m
    → ((s.ended o).number < m → (v : OpenUnit) × (s.units o ≡ Some v) × (v.number ≡ m) × (v.birth < birth))
    → (v : OpenUnit) × (x.units o ≡ Some v) × (v.number ≡ m) × (v.birth < birth)
still-open s x o m birth (stays units last) less was = let v = was (omega (arith, less, last)) in (v.0, units ∙ v.1, v.2, v.3)
still-open s x o m birth (runs old now old_is now_is birth_is number_is awaits last restarts over) less was =
    let v = was (omega (arith, less, last)) in
    let is = v.1 in
    let same : v.0 ≡ old = cc (is, old_is) in
    let low = v.3 in
    let b = ap (λ (w : OpenUnit). w.birth) same in
    (now, now_is, number_is ∙ (ap (λ (w : OpenUnit). w.number) (sym same) ∙ v.2), omega (arith, low, b, birth_is))
still-open s x o m birth (opens now none now_is awaits last live restarts birth_is) less was = let v = was (omega (arith, less, last)) in absurd (let is = v.1 in cc (is, none))
still-open s x o m birth (ends none number rises) less was =
    let v = was (omega (arith, less, rises)) in
    let n = number v.0 v.1 in let m_is = v.2 in absurd (omega (arith, n, m_is, less))

module _ (sys : Behaviour) (b : IsBehaviour sys) where
  -- another entry than a restart
  keeps-goes : (s x : State) → ((o : ℕ) → UnitMoves s x o) → AwaitsOk s → AwaitsOk x
  keeps-goes s x goes_at ok t u a is awaits less = by (goes_at t)
    where
      by : UnitMoves s x t → (v : OpenUnit) × (x.units a.terminal ≡ Some v) × (v.number ≡ a.number) × (v.birth < u.birth)
      by (stays units last) = still-open s x a.terminal a.number u.birth (goes_at a.terminal) less (λ low. ok t u a (sym units ∙ is) awaits low)
      by (runs was now was_is now_is birth_is number_is awaits_is last restarts over) =
          let same : now ≡ u = cc (now_is, is) in
          still-open s x a.terminal a.number u.birth (goes_at a.terminal) less
          (λ low.
          let v = ok t was a was_is (sym awaits_is ∙ (ap (λ (w : OpenUnit). w.awaits) same ∙ awaits)) low in
          let low_birth = v.3 in
          let one = ap (λ (w : OpenUnit). w.birth) same in
          (v.0, v.1, v.2, omega (arith, low_birth, birth_is, one)))
      by (opens now none now_is awaits_is last live restarts birth_is) = absurd (let same : now ≡ u = cc (now_is, is) in let a_is = ap (λ (w : OpenUnit). w.awaits) same in cc (a_is, awaits_is, awaits))
      by (ends none number rises) = absurd (cc (none, is))

  -- a restart
  restart-goes : (s : State) (own n : ℕ) (kind : Cause) → (l : LegalRestart sys s own n kind) → (o : ℕ) → o ≢ own → UnitMoves s (effect sys s (event.Restart own n kind)) o
  restart-goes s own n kind l o differ = stays (upd-other s.units own _ o differ) refl

  -- what is awaited behind it
  awaits-behind : (s : State) (own n : ℕ) (kind : Cause) → (l : LegalRestart sys s own n kind) → AwaitsOk s → (a : Awaited) → awaited_after kind l.unit.awaits ≡ Some a
      → (s.ended a.terminal).number < a.number → (v : OpenUnit) × (s.units a.terminal ≡ Some v) × (v.number ≡ a.number) × (v.birth < l.unit.birth)
  awaits-behind s own n (cause.Older o m) l ok a is less =
      let same : record { terminal = o; number = m } ≡ a = cc is in
      let older = l.caused.holds in
      subst (λ (x : Awaited). (v : OpenUnit) × (s.units x.terminal ≡ Some v) × (v.number ≡ x.number) × (v.birth < l.unit.birth)) same (older.older, older.is_open, older.number, older.is_older)
  awaits-behind s own n (cause.Takeover p) l ok a is less = ok own l.unit a l.caused.is_open is less
  awaits-behind s own n (cause.Server k) l ok a is less = ok own l.unit a l.caused.is_open is less
  awaits-behind s own n cause.Redo l ok a is less = ok own l.unit a l.caused.is_open is less

  -- the unit that restarts, and others
  restart-open : (s : State) (own n : ℕ) (kind : Cause) → (l : LegalRestart sys s own n kind) → (o m birth : ℕ)
      → (v : OpenUnit) × (s.units o ≡ Some v) × (v.number ≡ m) × (v.birth < birth)
      → (v : OpenUnit) × ((effect sys s (event.Restart own n kind)).units o ≡ Some v) × (v.number ≡ m) × (v.birth < birth)
  restart-open s own n kind l o m birth v =
      ⊎_elim
      (λ same.
      let is = v.1 in
      let is_own = ap s.units same ∙ l.caused.is_open in
      let one : v.0 ≡ l.unit = cc (is, is_own) in (
        record l.unit { restarts = l.unit.restarts + 1; awaits = awaited_after kind l.unit.awaits; running = None },
        upd-same s.units own _ o same ∙ ap (with_restart kind) l.caused.is_open,
        ap (λ (w : OpenUnit). w.number) (sym one) ∙ v.2,
        subst (λ (w : OpenUnit). w.birth < birth) one v.3,
      ))
      (λ differ. (v.0, upd-other s.units own _ o differ ∙ v.1, v.2, v.3))
      (cases_eq o own)

  keeps-restart : (s : State) (own n : ℕ) (kind : Cause) → LegalRestart sys s own n kind → AwaitsOk s → AwaitsOk (effect sys s (event.Restart own n kind))
  keeps-restart s own n kind l ok t u a is awaits less =
      restart-open s own n kind l a.terminal a.number u.birth
      (⊎_elim
      (λ same.
      let now_is = upd-same s.units own _ t same ∙ ap (with_restart kind) l.caused.is_open in
      let one : record l.unit { restarts = l.unit.restarts + 1; awaits = awaited_after kind l.unit.awaits; running = None } ≡ u = cc (now_is, is) in
      let v = awaits-behind s own n kind l ok a (ap (λ (w : OpenUnit). w.awaits) one ∙ awaits) less in
      (v.0, v.1, v.2, subst (λ (k : ℕ). v.0.birth < k) (ap (λ (w : OpenUnit). w.birth) one) v.3))
      (λ differ. ok t u a (sym (upd-other s.units own _ t differ) ∙ is) awaits less)
      (cases_eq t own))

  -- an entry is a restart or not
  keeps-awaits : (s : State) → Inv sys s → (entry : Event) → Fits sys s entry → AwaitsOk s → AwaitsOk (effect sys s entry)
  keeps-awaits s i (event.Restart own n kind) l ok = keeps-restart s own n kind l ok
  keeps-awaits s i entry l ok = logged (keeps-goes s (change sys s entry) (λ o. unit-moves sys b s i o entry l (λ own n kind is. absurd (cc is))) ok)
    where
      logged : AwaitsOk (change sys s entry) → AwaitsOk (effect sys s entry)
      logged kept_ok t u a is awaits less = kept_ok t u a is awaits less

  -- it is so behind every run
  pub awaits-ok : (log : List Event) → IsRun sys log → AwaitsOk (after sys log)
  awaits-ok =
      holds-behind sys AwaitsOk (λ log run entry legal ok. keeps-awaits (after sys log) (kept sys b log run) entry legal.fits ok)
      (λ t u a is. absurd (cc is))
