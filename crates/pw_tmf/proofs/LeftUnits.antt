-- The open units of some terminals are left by backing them out, one after the other.
use Rattle.std.proofs.Common.{◌≡◌, ◌≢◌, ⊎_elim, ℕ, ◌<◌, ◌==◌, Bool, true, false, not, cond, List, [], ◌∷◌, filter, Option, Some, None, refl, sym, ap, subst, ◌∙◌}
use Rattle.std.specs.Prelude.{All, IsSome, is_some}
use Rattle.std.specs.List.{AllByRecursion, IsDistinct, cons_option, list_any}
use Rattle.std.specs.Option.{option_map}
use Rattle.std.proofs.Math.Path.{fun_ext}
use Rattle.std.proofs.lemmas.Bool.{cases_Bool, cases_eq, eq-eqb, eqb-false, eqb-true, false≢true, ne_eqb, or_left, or_right}
use Rattle.std.proofs.lemmas.List.Elements.{All-cons, All-head, All-nil, All-tail, recursion_from_All}
use Rattle.pw_base.proofs.Plain.{drop-false}
use Rattle.pw_code.specs.declared.unit.Unit as unit
use Rattle.pw_locks.specs.declared.lock.Lock.{Lock}
use Rattle.pw_onecopy.specs.Behaviour.{Behaviour}
use Rattle.pw_onecopy.specs.Update.{upd}
use Rattle.pw_onecopy.proofs.Update.{upd-other, upd-same, upd_elim}
use Rattle.pw_paired.specs.State.{BeforeImage, LastEnded, OpenUnit, State}
use Rattle.pw_paired.specs.Units.{attempt_of, drop_unit, has_image, last_after_leaving, leave_units, only, restored_files}
use Rattle.pw_tmf.specs.Leaving.{AreSingle, CanLeave, HaveOpen, IsKeyed, is_among, open_units, unit_told}
use Rattle.pw_tmf.specs.Tells.{Tells, as_told, images_by}
use Rattle.pw_tmf.specs.Told.{Told, ToldUnit}
use Rattle.pw_tmf.specs.Units.{HaveDistinctTerminals, CanBackOut, all_backed_out, backed_out}
use Rattle.pw_tmf.proofs.Leaving.{none-of-theirs, none-passes, tells-rest, tells-same}
use Rattle.pw_tmf.proofs.Telling.{tells-drop}

-- ---- no unit is left

-- where no unit of theirs is open and they have no lock, nothing changes
nothing-left : (sys : Behaviour) (whose : ℕ → Bool) (state : State) (told : Told) → Tells sys state told → ((t : ℕ) → whose t ≡ true → state.units t ≡ None)
    → filter (λ lock. not (whose lock.unit.terminal)) state.locks ≡ state.locks → Tells sys (leave_units sys whose state) told
nothing-left sys whose state told h none locks =
    let no_images : filter (λ image. whose image.terminal) state.before ≡ [] = none-of-theirs whose state.before (λ t yes. h.idle t (ap attempt_of (none t yes))) in
    tells-same sys state (leave_units sys whose state) told
    (ap (λ images. restored_files sys.key_length images state.files) no_images)
    locks
    (fun_ext (λ j. still j (whose j) refl))
    (none-passes (λ image. whose image.terminal) state.before no_images)
    (fun_ext (λ j. last-still j (whose j) refl))
    h
  where
    still : (j : ℕ) (w : Bool) → whose j ≡ w → cond w None (state.units j) ≡ state.units j
    still j true is = sym (none j is)
    still j false is = refl

    last-still : (j : ℕ) (w : Bool) → whose j ≡ w → cond w (last_after_leaving (state.units j) (state.ended j)) (state.ended j) ≡ state.ended j
    last-still j true is = ap (λ u. last_after_leaving u (state.ended j)) (none j is)
    last-still j false is = refl

-- ---- one unit is left

-- the unit is the open one of its terminal
record IsOwn (state : State) (u : unit.Unit) : Type 0 where
  pub own : OpenUnit
  pub here : state.units u.terminal ≡ Some own
  pub number : own.number ≡ u.number

-- the terminal's own unit alone
pub tells-own : (sys : Behaviour) (state : State) (told : Told) (u : unit.Unit) (own : OpenUnit) → Tells sys state told → state.units u.terminal ≡ Some own → own.number ≡ u.number
    → Tells sys (leave_units sys (only u.terminal) state) (backed_out true told u)
tells-own sys state told u own h is number =
    let t : ℕ = u.terminal in
    let new : LastEnded = record { number = u.number; reply = None } in
    tells-same sys (drop_unit sys t u.number state) (leave_units sys (only t) state) (backed_out true told u)
    refl refl
    (fun_ext (λ j.
    upd_elim state.units t None j (λ v. cond (only t j) None (state.units j) ≡ v)
    (λ same. ap (λ w. cond w None (state.units j)) (eq-eqb j t same))
    (λ other. ap (λ w. cond w None (state.units j)) (ne_eqb j t other))))
    refl
    (fun_ext (λ j.
    upd_elim state.ended t new j (λ v. cond (only t j) (last_after_leaving (state.units j) (state.ended j)) (state.ended j) ≡ v)
    (λ same.
    ap (λ w. cond w (last_after_leaving (state.units j) (state.ended j)) (state.ended j)) (eq-eqb j t same)
    ∙ ap (λ o. last_after_leaving o (state.ended j)) (ap state.units same ∙ is)
    ∙ ap (λ k. record { number = k; reply = None }) number)
    (λ other. ap (λ w. cond w (last_after_leaving (state.units j) (state.ended j)) (state.ended j)) (ne_eqb j t other))))
    (tells-drop sys state told u h)

-- a terminal's unit, if one is open
pub tells-one : (sys : Behaviour) (state : State) (told : Told) (t : ℕ) → Tells sys state told
    → (state.units t ≡ None → filter (λ lock. not (only t lock.unit.terminal)) state.locks ≡ state.locks)
    → Tells sys (leave_units sys (only t) state) (all_backed_out true told (open_units told (t ∷ [])))
tells-one sys state told t h none = by (state.units t) refl
  where
    by : (own : Option OpenUnit) → state.units t ≡ own → Tells sys (leave_units sys (only t) state) (all_backed_out true told (cons_option (unit_told t (told.units t)) []))
    by None is =
        subst (λ o. Tells sys (leave_units sys (only t) state) (all_backed_out true told (cons_option (unit_told t o) []))) (sym (h.units t ∙ ap (option_map (as_told (images_by t state.before))) is))
        (nothing-left sys (only t) state told h (λ j yes. ap state.units (eqb-true j t yes) ∙ is) (none is))
    by (Some own) is =
        subst (λ o. Tells sys (leave_units sys (only t) state) (all_backed_out true told (cons_option (unit_told t o) []))) (sym (h.units t ∙ ap (option_map (as_told (images_by t state.before))) is))
        (tells-own sys state told (record { terminal = t; number = own.number; birth = own.birth }) own h is refl)

-- ---- several are left

-- the locks of the others are held, once one unit has ended
held-still : (units : ℕ → Option OpenUnit) (t : ℕ) (locks : List Lock) → AllByRecursion (λ lock. IsSome (units lock.unit.terminal)) locks
    → AllByRecursion (λ lock. IsSome (upd units t None lock.unit.terminal)) (filter (λ lock. not (only t lock.unit.terminal)) locks)
held-still units t [] all = tt
held-still units t (lock ∷ locks) all =
    let others : List Lock = filter (λ (l : Lock). not (only t l.unit.terminal)) locks in
    elim (only t lock.unit.terminal) as (λ b. only t lock.unit.terminal ≡ b → AllByRecursion (λ (l : Lock). IsSome (upd units t None l.unit.terminal)) (cond (not b) (lock ∷ others) others)) [
      | true ↦ λ is. held-still units t locks all.1
      | false ↦ λ is. (subst (λ (o : Option OpenUnit). IsSome o) (sym (upd-other units t None lock.unit.terminal (eqb-false lock.unit.terminal t is))) all.0, held-still units t locks all.1)
    ] refl

-- what holds of all images holds of those of the others
keyed-still : (P : BeforeImage → Type 0) (t : ℕ) (before : List BeforeImage) → AllByRecursion P before → AllByRecursion P (filter (λ image. not (only t image.terminal)) before)
keyed-still P t [] all = tt
keyed-still P t (image ∷ before) all =
    let others : List BeforeImage = filter (λ (i : BeforeImage). not (only t i.terminal)) before in
    elim (only t image.terminal) as (λ b. AllByRecursion P (cond (not b) (image ∷ others) others)) [
      | true ↦ keyed-still P t before all.1
      | false ↦ (all.0, keyed-still P t before all.1)
    ]

-- an image of the others is one of all
has-still : (t s file : ℕ) (key : List ℕ) (before : List BeforeImage) → has_image s file key (filter (λ image. not (only t image.terminal)) before) ≡ true → has_image s file key before ≡ true
has-still t s file key [] there = there
has-still t s file key (image ∷ before) there =
    let others : List BeforeImage = filter (λ (i : BeforeImage). not (only t i.terminal)) before in
    elim (only t image.terminal) as (λ b. has_image s file key (cond (not b) (image ∷ others) others) ≡ true → has_image s file key (image ∷ before) ≡ true) [
      | true ↦ λ is. or_right _ (has_image s file key before) (has-still t s file key before is)
      | false ↦ λ is.
          ⊎_elim (λ first. or_left _ (has_image s file key before) first) (λ not_first. or_right _ (has_image s file key before) (has-still t s file key before (drop-false _ (has_image s file key others) not_first is)))
          (cases_Bool _)
    ] there

-- the other units are open still
open-still : (sys : Behaviour) (state : State) (t n : ℕ) (us : List unit.Unit) → All (λ other. other.terminal ≢ t) us → AllByRecursion (IsOwn state) us → AllByRecursion (IsOwn (drop_unit sys t n state)) us
open-still sys state t n [] apart all = tt
open-still sys state t n (u ∷ us) apart all =
    let P : unit.Unit → Type 0 = λ other. other.terminal ≢ t in (
      record { own = all.0.own; here = upd-other state.units t None u.terminal (All-head P u us apart) ∙ all.0.here; number = all.0.number },
      open-still sys state t n us (All-tail P u us apart) all.1,
    )

-- one of the units is of the terminal
abbrev is_one_of : List unit.Unit → ℕ → Bool
is_one_of us t = list_any (λ (u : unit.Unit). u.terminal == t) us

tells-all : (sys : Behaviour) (whose : ℕ → Bool) (us : List unit.Unit) (state : State) (told : Told) → Tells sys state told
    → AllByRecursion (IsKeyed sys.key_length) state.before → AreSingle state.before → AllByRecursion (λ lock. IsSome (state.units lock.unit.terminal)) state.locks
    → HaveDistinctTerminals us → AllByRecursion (IsOwn state) us → AllByRecursion (λ u. whose u.terminal ≡ true) us
    → ((t : ℕ) → whose t ≡ true → IsSome (state.units t) → is_one_of us t ≡ true)
    → Tells sys (leave_units sys whose state) (all_backed_out true told us)
tells-all sys whose [] state told h keyed single held apart own theirs every =
    nothing-left sys whose state told h (λ t is_theirs. none t is_theirs (state.units t) refl) (all-stay state.locks held)
  where
    none : (t : ℕ) → whose t ≡ true → (o : Option OpenUnit) → state.units t ≡ o → state.units t ≡ None
    none t is_theirs None is = is
    none t is_theirs (Some own) is = absurd (false≢true (every t is_theirs (ap (λ o. is_some o) is)))

    all-stay : (locks : List Lock) → AllByRecursion (λ lock. IsSome (state.units lock.unit.terminal)) locks → filter (λ lock. not (whose lock.unit.terminal)) locks ≡ locks
    all-stay [] all = refl
    all-stay (lock ∷ locks) all =
        let others : List Lock = filter (λ (l : Lock). not (whose l.unit.terminal)) locks in
        elim (whose lock.unit.terminal) as (λ w. whose lock.unit.terminal ≡ w → cond (not w) (lock ∷ others) others ≡ lock ∷ locks) [
          | true ↦ λ yes. absurd (false≢true (every lock.unit.terminal yes all.0))
          | false ↦ λ is. ap (λ ls. lock ∷ ls) (all-stay locks all.1)
        ] refl
tells-all sys whose (u ∷ us) state told h keyed single held apart own theirs every =
    tells-rest sys whose state (all_backed_out true told (u ∷ us)) u.terminal u.number own.0.own theirs.0 own.0.here own.0.number keyed single
    (tells-all sys whose us (drop_unit sys u.terminal u.number state) (backed_out true told u) (tells-drop sys state told u h)
    (keyed-still (IsKeyed sys.key_length) u.terminal state.before keyed)
    (λ s o file key one other. single s o file key (has-still u.terminal s file key state.before one) (has-still u.terminal o file key state.before other))
    (held-still state.units u.terminal state.locks held)
    apart.1
    (open-still sys state u.terminal u.number us apart.0 own.1)
    theirs.1
    (λ j yes some.
    ⊎_elim
    (λ (same : j ≡ u.terminal). absurd (false≢true (subst (λ (o : Option OpenUnit). IsSome o) (upd-same state.units u.terminal None j same) some)))
    (λ (other : j ≢ u.terminal).
    drop-false (u.terminal == j) (is_one_of us j) (ne_eqb u.terminal j (λ same. other (sym same)))
    (every j yes (subst (λ (o : Option OpenUnit). IsSome o) (upd-other state.units u.terminal None j other) some)))
    (cases_eq j u.terminal)))

-- ---- the units that a disc is asked for

module _ (told : Told) where
  -- what holds without the unit, and with it, holds of both
  with-unit : (P : List unit.Unit → Type 0) (t : ℕ) (rest : List unit.Unit) → P rest
      → ((own : ToldUnit) → told.units t ≡ Some own → P (record { terminal = t; number = own.number; birth = own.birth } ∷ rest))
      → P (cons_option (unit_told t (told.units t)) rest)
  with-unit P t rest without one = by (told.units t) refl
    where
      by : (o : Option ToldUnit) → told.units t ≡ o → P (cons_option (unit_told t o) rest)
      by None is = without
      by (Some own) is = one own is

  none-of-other : (t : ℕ) (terminals : List ℕ) → AllByRecursion (λ s. (t == s) ≡ false) terminals → All (λ (u : unit.Unit). u.terminal ≢ t) (open_units told terminals)
  none-of-other t [] all = All-nil (λ (u : unit.Unit). u.terminal ≢ t)
  none-of-other t (s ∷ terminals) all =
      let P : unit.Unit → Type 0 = λ u. u.terminal ≢ t in
      let rest : All P (open_units told terminals) = none-of-other t terminals all.1 in
      with-unit (All P) s (open_units told terminals) rest
      (λ own is. All-cons P (record { terminal = s; number = own.number; birth = own.birth }) (open_units told terminals) (λ same. eqb-false t s all.0 (sym same)) rest)

  -- those of different terminals are apart
  pub are-apart : (terminals : List ℕ) → IsDistinct (λ a b. a == b) terminals → HaveDistinctTerminals (open_units told terminals)
  unfolding IsDistinct
  are-apart [] distinct = tt
  are-apart (t ∷ terminals) distinct =
      let rest : HaveDistinctTerminals (open_units told terminals) = are-apart terminals distinct.1 in
      with-unit HaveDistinctTerminals t (open_units told terminals) rest (λ own is. (none-of-other t terminals distinct.0, rest))

  -- they can be backed out
  pub can-back-out : (terminals : List ℕ) → AllByRecursion (λ t. t < told.terminals) terminals → All (CanBackOut true told) (open_units told terminals)
  can-back-out [] all = All-nil (CanBackOut true told)
  can-back-out (t ∷ terminals) all =
      let rest : All (CanBackOut true told) (open_units told terminals) = can-back-out terminals all.1 in
      with-unit (All (CanBackOut true told)) t (open_units told terminals) rest
      (λ own is.
      All-cons (CanBackOut true told) (record { terminal = t; number = own.number; birth = own.birth }) (open_units told terminals)
      (record { terminal = all.0; open_unit = own; here = is; number = refl; birth = refl }) rest)

-- the units of different terminals may be left at once
pub may-leave : (told : Told) (terminals : List ℕ) → IsDistinct (λ a b. a == b) terminals → All (λ t. t < told.terminals) terminals
    → HaveDistinctTerminals (open_units told terminals) × All (CanBackOut true told) (open_units told terminals)
may-leave told terminals distinct few = (are-apart told terminals distinct, can-back-out told terminals (recursion_from_All (λ t. t < told.terminals) terminals few))

-- ---- the open units of terminals

module _ (sys : Behaviour) (state : State) (told : Told) (h : Tells sys state told) where
  -- what is told of a terminal's open unit
  abbrev Goal : (List unit.Unit → Type 0) → ℕ → List unit.Unit → Type 0
  Goal P t rest = P (cons_option (unit_told t (told.units t)) rest)

  none-here : (P : List unit.Unit → Type 0) (t : ℕ) (rest : List unit.Unit) → state.units t ≡ None → P rest → Goal P t rest
  none-here P t rest is p = subst (λ o. P (cons_option (unit_told t o) rest)) (sym (h.units t ∙ ap (option_map (as_told (images_by t state.before))) is)) p

  one-here : (P : List unit.Unit → Type 0) (t : ℕ) (rest : List unit.Unit) (own : OpenUnit) → state.units t ≡ Some own → P (record { terminal = t; number = own.number; birth = own.birth } ∷ rest) → Goal P t rest
  one-here P t rest own is p = subst (λ o. P (cons_option (unit_told t o) rest)) (sym (h.units t ∙ ap (option_map (as_told (images_by t state.before))) is)) p

  are-own : (terminals : List ℕ) → AllByRecursion (IsOwn state) (open_units told terminals)
  are-own [] = tt
  are-own (t ∷ terminals) = own-first t (open_units told terminals) (state.units t) refl (are-own terminals)
    where
      own-first : (t : ℕ) (rest : List unit.Unit) (o : Option OpenUnit) → state.units t ≡ o → AllByRecursion (IsOwn state) rest → Goal (AllByRecursion (IsOwn state)) t rest
      own-first t rest None is all = none-here (AllByRecursion (IsOwn state)) t rest is all
      own-first t rest (Some own) is all = one-here (AllByRecursion (IsOwn state)) t rest own is (record { own = own; here = is; number = refl }, all)

  -- what holds of all terminals holds of those of their units
  all-terminals : (P : ℕ → Type 0) (terminals : List ℕ) → AllByRecursion P terminals → AllByRecursion (λ (u : unit.Unit). P u.terminal) (open_units told terminals)
  all-terminals P [] all = tt
  all-terminals P (t ∷ terminals) all = first-too P t (open_units told terminals) (state.units t) refl all.0 (all-terminals P terminals all.1)
    where
      first-too : (P : ℕ → Type 0) (t : ℕ) (rest : List unit.Unit) (o : Option OpenUnit) → state.units t ≡ o → P t → AllByRecursion (λ (u : unit.Unit). P u.terminal) rest
          → Goal (AllByRecursion (λ (u : unit.Unit). P u.terminal)) t rest
      first-too P t rest None is p all = none-here (AllByRecursion (λ (u : unit.Unit). P u.terminal)) t rest is all
      first-too P t rest (Some own) is p all = one-here (AllByRecursion (λ (u : unit.Unit). P u.terminal)) t rest own is (p, all)

  -- each of the terminals that has an open unit has one of these
  is-there : (terminals : List ℕ) (j : ℕ) → IsSome (state.units j) → is_among terminals j ≡ true → is_one_of (open_units told terminals) j ≡ true
  is-there [] j some among = among
  is-there (t ∷ terminals) j some among =
      ⊎_elim
      (λ (same : (t == j) ≡ true). first t (open_units told terminals) j same (state.units t) refl some)
      (λ (differ : (t == j) ≡ false). behind t (open_units told terminals) j (state.units t) refl (is-there terminals j some (drop-false (t == j) (is_among terminals j) differ among)))
      (cases_Bool (t == j))
    where
      first : (t : ℕ) (rest : List unit.Unit) (j : ℕ) → (t == j) ≡ true → (o : Option OpenUnit) → state.units t ≡ o → IsSome (state.units j) → Goal (λ us. is_one_of us j ≡ true) t rest
      first t rest j same None is some = absurd (false≢true (sym (ap (λ o. is_some o) (ap state.units (sym (eqb-true t j same)) ∙ is)) ∙ some))
      first t rest j same (Some own) is some = one-here (λ us. is_one_of us j ≡ true) t rest own is (or_left (t == j) (is_one_of rest j) same)

      behind : (t : ℕ) (rest : List unit.Unit) (j : ℕ) (o : Option OpenUnit) → state.units t ≡ o → is_one_of rest j ≡ true → Goal (λ us. is_one_of us j ≡ true) t rest
      behind t rest j None is there = none-here (λ us. is_one_of us j ≡ true) t rest is there
      behind t rest j (Some own) is there = one-here (λ us. is_one_of us j ≡ true) t rest own is (or_right (t == j) (is_one_of rest j) there)

-- the open units of terminals are left
pub tells-leave : (sys : Behaviour) (state : State) (told : Told) (whose : ℕ → Bool) (terminals : List ℕ) → Tells sys state told → CanLeave sys state → HaveOpen whose state terminals
    → Tells sys (leave_units sys whose state) (all_backed_out true told (open_units told terminals))
tells-leave sys state told whose terminals h can have =
    tells-all sys whose (open_units told terminals) state told h
    (recursion_from_All (IsKeyed sys.key_length) state.before can.keyed)
    can.single
    (recursion_from_All (λ lock. IsSome (state.units lock.unit.terminal)) state.locks can.held)
    (are-apart told terminals have.distinct)
    (are-own sys state told h terminals)
    (all-terminals sys state told h (λ t. whose t ≡ true) terminals (recursion_from_All (λ t. whose t ≡ true) terminals have.theirs))
    (λ t yes some. is-there sys state told h terminals t some (have.every t yes some))
