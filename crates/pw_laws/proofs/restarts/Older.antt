-- The older units for which a unit may still restart grow fewer with each that it restarts for.
use Rattle.std.proofs.Common.{◌≡◌, ◌≢◌, ℕ, ◌+◌, ◌<◌, ◌≤◌, ⊎_elim, Bool, true, false, not, ◌&&◌, ◌==◌, Option, Some, None, refl, ap, sym, subst, arith, ◌∙◌}
use Rattle.std.specs.Prelude.{nat_lt}
use Rattle.std.proofs.lemmas.Bool.{and_from, and_left, and_right, cases_Bool, cases_eq, eq-eqb, eqb-true, le-ltb, lt-ltb, ltb-true, true≢false}
use Rattle.pw_base.proofs.Plain.{and-first, and-second}
use Rattle.pw_event.specs.declared.event.Cause.{Cause}
use Rattle.pw_event.specs.declared.event.Cause.TheVariants as cause
use Rattle.pw_event.specs.declared.event.Event.TheVariants as event
use Rattle.pw_onecopy.proofs.Update.{upd-other, upd-same}
use Rattle.pw_onecopy.specs.Behaviour.{Behaviour}
use Rattle.pw_paired.specs.Failure.{LegalRestart, awaited_after, with_restart}
use Rattle.pw_paired.specs.State.{Awaited, OpenUnit, State}
use Rattle.pw_paired.specs.Step.{effect}
use Rattle.pw_laws.proofs.Births.{BirthsOk}
use Rattle.pw_laws.proofs.kept.Kept.{Inv}
use Rattle.pw_laws.proofs.restarts.Counting.{count_below, count-less, count-more, count-room}
use Rattle.pw_laws.proofs.steps.Awaiting.{UnitMoves, ends, opens, runs, stays}

-- the awaited unit is this one
abbrev pub is_awaited : Option Awaited → ℕ → ℕ → Bool
is_awaited None o m = false
is_awaited (Some a) o m = a.terminal == o && a.number == m

-- an open unit of the terminal is older than this one, and it does not await it
abbrev pub is_older_in : Option OpenUnit → OpenUnit → ℕ → Bool
is_older_in None u o = false
is_older_in (Some v) u o = nat_lt v.birth u.birth && not (is_awaited u.awaits o v.number)

-- the terminal has such a unit
abbrev pub is_free : State → OpenUnit → ℕ → Bool
is_free s u o = is_older_in (s.units o) u o

-- how many units a unit may still restart for as the younger one
abbrev pub free : Behaviour → State → OpenUnit → ℕ
free sys s u = count_below sys.terminals (is_free s u)

-- the parts of the test
free-parts : (unit : Option OpenUnit) (u : OpenUnit) (o : ℕ) → is_older_in unit u o ≡ true → (v : OpenUnit) × (unit ≡ Some v) × (v.birth < u.birth) × (is_awaited u.awaits o v.number ≡ false)
free-parts None u o is = absurd (true≢false (sym is))
free-parts (Some v) u o is =
    (v, refl, ltb-true v.birth u.birth (and-first (nat_lt v.birth u.birth) (not (is_awaited u.awaits o v.number)) is), not-true (is_awaited u.awaits o v.number) (and-second (nat_lt v.birth u.birth) (not (is_awaited u.awaits o v.number)) is))
  where
    not-true : (b : Bool) → not b ≡ true → b ≡ false
    not-true true e = absurd (true≢false (sym e))
    not-true false e = refl

-- where an older unit is not awaited, the test passes
pub free-of : (unit : Option OpenUnit) (u v : OpenUnit) (o : ℕ) → unit ≡ Some v → v.birth < u.birth → is_awaited u.awaits o v.number ≡ false → is_older_in unit u o ≡ true
free-of unit u v o is older other =
    ap (λ (x : Option OpenUnit). is_older_in x u o) is ∙ and_from (nat_lt v.birth u.birth) (not (is_awaited u.awaits o v.number)) (lt-ltb v.birth u.birth older) (ap not other)

-- a unit that is as old and awaits the same
module _ (sys : Behaviour) (s x : State) (births : BirthsOk s.units s.births) (t : ℕ) (was u : OpenUnit) (was_is : s.units t ≡ Some was) (birth : u.birth ≡ was.birth) where
  -- behind an entry that is no restart
  stays-free : u.awaits ≡ was.awaits → (o : ℕ) → UnitMoves s x o → is_free x u o ≡ true → is_free s was o ≡ true
  stays-free awaits o moved is =
      let parts = free-parts (x.units o) u o is in
      by moved parts.0 parts.1 parts.2 (subst (λ (a : Option Awaited). is_awaited a o parts.0.number ≡ false) awaits parts.3)
    where
      by : UnitMoves s x o → (v : OpenUnit) → x.units o ≡ Some v → v.birth < u.birth → is_awaited was.awaits o v.number ≡ false → is_free s was o ≡ true
      by (stays units last) v v_is older other = free-of (s.units o) was v o (sym units ∙ v_is) (omega (arith, older, birth)) other
      by (runs old now old_is now_is birth_is number_is awaits_is last restarts over) v v_is older other =
          let same : now ≡ v = cc (now_is, v_is) in
          let b = ap (λ (w : OpenUnit). w.birth) same in
          let n = ap (λ (w : OpenUnit). w.number) same in
          free-of (s.units o) was old o old_is (omega (arith, older, birth, b, birth_is)) (subst (λ (m : ℕ). is_awaited was.awaits o m ≡ false) (let back : v.number ≡ old.number = omega (arith, n, number_is) in back) other)
      by (opens now none now_is awaits_is last live restarts birth_is) v v_is older other =
          absurd
          (let same : now ≡ v = cc (now_is, v_is) in
          let b = ap (λ (w : OpenUnit). w.birth) same in
          let low = births.below t was was_is in
          omega (arith, b, birth_is, low, older, birth))
      by (ends none number next) v v_is older other = absurd (cc (none, v_is))

  -- it may restart for no more units than before
  pub free-stays : u.awaits ≡ was.awaits → ((o : ℕ) → UnitMoves s x o) → free sys x u ≤ free sys s was
  free-stays awaits unit-moves = count-more sys.terminals (is_free x u) (is_free s was) (λ o. stays-free awaits o (unit-moves o))

-- a unit that has just opened
pub free-room : (sys : Behaviour) (x : State) (t : ℕ) (u : OpenUnit) → t < sys.terminals → x.units t ≡ Some u → free sys x u + 1 ≤ sys.terminals
free-room sys x t u known is =
    count-room sys.terminals (is_free x u) t known
    (ap (λ (o : Option OpenUnit). is_older_in o u t) is ∙ and_left (nat_lt u.birth u.birth) (not (is_awaited u.awaits t u.number)) (le-ltb u.birth u.birth (let same : u.birth ≤ u.birth = omega arith in same)))

-- a restart
module _ (sys : Behaviour) (s : State) (i : Inv sys s) (own n : ℕ) (kind : Cause) (l : LegalRestart sys s own n kind) where
  abbrev x : State
  x = effect sys s (event.Restart own n kind)

  abbrev now : OpenUnit
  now = record l.unit { restarts = l.unit.restarts + 1; awaits = awaited_after kind l.unit.awaits; running = None }

  -- the unit behind the restart
  pub now-is : x.units own ≡ Some now
  now-is = upd-same s.units own _ own refl ∙ ap (with_restart kind) l.caused.is_open

  -- the units of other terminals, and its own, are as old
  was-free : (u was : OpenUnit) (o : ℕ) → u.birth ≡ was.birth → (v : OpenUnit) → x.units o ≡ Some v → v.birth < u.birth → is_awaited was.awaits o v.number ≡ false → is_free s was o ≡ true
  was-free u was o birth v v_is older other =
      ⊎_elim
      (λ same.
      let there = ap x.units (sym same) ∙ v_is in
      let mine = now-is in
      let one : now ≡ v = cc (mine, there) in
      let b = ap (λ (w : OpenUnit). w.birth) one in
      let m = ap (λ (w : OpenUnit). w.number) one in
      free-of (s.units o) was l.unit o (ap s.units same ∙ l.caused.is_open) (omega (arith, older, birth, b)) (subst (λ (k : ℕ). is_awaited was.awaits o k ≡ false) (sym m) other))
      (λ differ. free-of (s.units o) was v o (sym (upd-other s.units own _ o differ) ∙ v_is) (omega (arith, older, birth)) other)
      (cases_eq o own)

  -- of another unit
  pub free-other : (u : OpenUnit) → free sys x u ≤ free sys s u
  free-other u =
      count-more sys.terminals (is_free x u) (is_free s u)
      (λ o is. let parts = free-parts (x.units o) u o is in was-free u u o refl parts.0 parts.1 parts.2 parts.3)

  -- of the unit itself, for another cause
  pub free-same : awaited_after kind l.unit.awaits ≡ l.unit.awaits → free sys x now ≤ free sys s l.unit
  free-same same =
      count-more sys.terminals (is_free x now) (is_free s l.unit)
      (λ o is.
      let parts = free-parts (x.units o) now o is in
      was-free now l.unit o refl parts.0 parts.1 parts.2 (subst (λ (a : Option Awaited). is_awaited a o parts.0.number ≡ false) same parts.3))

-- what the running unit awaited has ended: it awaits no open one
module _ (sys : Behaviour) (s : State) (i : Inv sys s) (unit : OpenUnit) (over : (a : Awaited) → unit.awaits ≡ Some a → a.number ≤ (s.ended a.terminal).number) where
  -- no open unit is the one that it awaits
  pub not-awaited : (j : ℕ) (v : OpenUnit) → s.units j ≡ Some v → is_awaited unit.awaits j v.number ≡ false
  not-awaited j v is = by unit.awaits refl
    where
      by : (awaits : Option Awaited) → unit.awaits ≡ awaits → is_awaited awaits j v.number ≡ false
      by None none = refl
      by (Some a) some =
          ⊎_elim
          (λ same.
          let terminal = eqb-true a.terminal j (and-first (a.terminal == j) (a.number == v.number) same) in
          let number = eqb-true a.number v.number (and-second (a.terminal == j) (a.number == v.number) same) in
          let ended = over a some in
          let next = ((i.terms j (i.known j v is)).unit_ok v is).number in
          let at = ap (λ (k : ℕ). (s.ended k).number) terminal in
          absurd (omega (arith, number, ended, next, at)))
          (λ other. other)
          (cases_Bool (a.terminal == j && a.number == v.number))

  -- an older open unit is one of them
  pub free-there : (o : ℕ) (older : OpenUnit) → s.units o ≡ Some older → older.birth < unit.birth → 1 ≤ free sys s unit
  free-there o older is low =
      let less =
      count-less sys.terminals (λ j. false) (is_free s unit) (λ j none. absurd (true≢false (sym none))) o (i.known o older is) refl
      (free-of (s.units o) unit older o is low (not-awaited o older is)) in
      omega (arith, less)

-- a restart for an older unit: that one is no more among them
module _ (sys : Behaviour) (s : State) (i : Inv sys s) (own n o m : ℕ) (l : LegalRestart sys s own n (cause.Older o m))
    (over : (a : Awaited) → l.unit.awaits ≡ Some a → a.number ≤ (s.ended a.terminal).number) where
  -- the restart leaves one less
  pub free-less : free sys (x sys s i own n (cause.Older o m) l) (now sys s i own n (cause.Older o m) l) + 1 ≤ free sys s l.unit
  free-less =
      let older = l.caused.holds in
      count-less sys.terminals (is_free (x sys s i own n (cause.Older o m) l) (now sys s i own n (cause.Older o m) l)) (is_free s l.unit)
      (λ j is.
      let parts = free-parts ((x sys s i own n (cause.Older o m) l).units j) (now sys s i own n (cause.Older o m) l) j is in
      kept j parts.0 parts.1 parts.2)
      o (i.known o older.older older.is_open)
      gone
      (free-of (s.units o) l.unit older.older o older.is_open older.is_older (not-awaited sys s i l.unit over o older.older older.is_open))
    where
      kept : (j : ℕ) (v : OpenUnit) → (x sys s i own n (cause.Older o m) l).units j ≡ Some v → v.birth < l.unit.birth → is_free s l.unit j ≡ true
      kept j v v_is low =
          ⊎_elim
          (λ same.
          let there = ap (x sys s i own n (cause.Older o m) l).units (sym same) ∙ v_is in
          let mine = now-is sys s i own n (cause.Older o m) l in
          let one : now sys s i own n (cause.Older o m) l ≡ v = cc (mine, there) in
          let b = ap (λ (w : OpenUnit). w.birth) one in
          absurd (omega (arith, b, low)))
          (λ differ. let is = sym (upd-other s.units own _ j differ) ∙ v_is in free-of (s.units j) l.unit v j is low (not-awaited sys s i l.unit over j v is))
          (cases_eq j own)

      gone : is_free (x sys s i own n (cause.Older o m) l) (now sys s i own n (cause.Older o m) l) o ≡ false
      gone =
          let older = l.caused.holds in
          let apart : o ≢ own = λ same. absurd (let one : older.older ≡ l.unit = let a = older.is_open in let b = ap s.units same ∙ l.caused.is_open in cc (a, b) in let birth = ap (λ (w : OpenUnit). w.birth) one in let low = older.is_older in omega (arith, birth, low)) in
          ap (λ (w : Option OpenUnit). is_older_in w (now sys s i own n (cause.Older o m) l) o) (upd-other s.units own _ o apart ∙ older.is_open)
          ∙ and_right (nat_lt older.older.birth l.unit.birth) (not (o == o && m == older.older.number))
          (ap not (and_from (o == o) (m == older.older.number) (eq-eqb o o refl) (eq-eqb m older.older.number (sym older.number))))
