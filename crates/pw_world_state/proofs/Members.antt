-- The terminals of a pair, and the seats that it has of them.
use Rattle.std.proofs.Common.{◌≡◌, ℕ, zero, suc, ◌+◌, ◌<◌, ◌==◌, List, [], ◌∷◌, ◌++◌, map, Some, Bool, true, false, refl, sym, ap, subst, append_assoc, ◌∙◌, arith}
use Rattle.std.specs.Prelude.{if◌then◌else◌, slice_get}
use Rattle.std.specs.List.{AllByRecursion, IsDistinct, list_any}
use Rattle.std.proofs.lemmas.Bool.{eq-eqb, eqb-true, ne_eqb, or_right}
use Rattle.std.proofs.lemmas.List.Elements.{All-from_recursion}
use Rattle.std.proofs.lemmas.List.Folds.{list_any-append}
use Rattle.pw_base.proofs.Plain.{some_is}
use Rattle.pw_code.specs.declared.system.System.{System}
use Rattle.pw_code.specs.declared.system.TermInfo.{TermInfo}
use Rattle.pw_world_state.specs.Members.{AreOf, IsOf, members_from, members_of}
use Rattle.pw_pair.specs.Seats.{is_seat_of, new_seat, seats_with, with_terminal}
use Rattle.pw_pair.specs.declared.seat.BackupSeat.{BackupSeat}
use Rattle.pw_tmf.specs.Leaving.{is_among}

-- ---- the terminals of a pair

each-from : (system : System) (p t : ℕ) (infos : List TermInfo) → ((k : ℕ) (info : TermInfo) → slice_get infos k ≡ Some info → slice_get system.terminals (t + k) ≡ Some info)
    → AllByRecursion (IsOf system p) (members_from p t infos)
each-from system p t [] at = tt
each-from system p t (info ∷ infos) at =
    by (info.tcp == p) refl (each-from system p (t + 1) infos (λ k one is. let e : t + suc k ≡ t + 1 + k = omega arith in subst (λ j. slice_get system.terminals j ≡ Some one) e (at (suc k) one is)))
  where
    by : (b : Bool) → (info.tcp == p) ≡ b → AllByRecursion (IsOf system p) (members_from p (t + 1) infos) → AllByRecursion (IsOf system p) (if b then t ∷ members_from p (t + 1) infos else members_from p (t + 1) infos)
    by false e later = later
    by true e later =
        let zero-more : t + 0 ≡ t = omega arith in
        (record { info = info; here = subst (λ j. slice_get system.terminals j ≡ Some info) zero-more (at 0 info refl); of_pair = eqb-true info.tcp p e }, later)

above : (p t u : ℕ) (infos : List TermInfo) → t < u → AllByRecursion (λ y. (t == y) ≡ false) (members_from p u infos)
above p t u [] low = tt
above p t u (info ∷ infos) low = by (info.tcp == p) (above p t (u + 1) infos (omega (arith, low)))
  where
    by : (b : Bool) → AllByRecursion (λ y. (t == y) ≡ false) (members_from p (u + 1) infos) → AllByRecursion (λ y. (t == y) ≡ false) (if b then u ∷ members_from p (u + 1) infos else members_from p (u + 1) infos)
    by false later = later
    by true later = (ne_eqb t u (λ e. omega (arith, e, low)), later)

distinct-from : (p t : ℕ) (infos : List TermInfo) → IsDistinct (λ a b. a == b) (members_from p t infos)
unfolding IsDistinct
distinct-from p t [] = tt
distinct-from p t (info ∷ infos) = by (info.tcp == p) (distinct-from p (t + 1) infos)
  where
    by : (b : Bool) → IsDistinct (λ a b. a == b) (members_from p (t + 1) infos) → IsDistinct (λ a b. a == b) (if b then t ∷ members_from p (t + 1) infos else members_from p (t + 1) infos)
    by false later = later
    by true later = (above p t (t + 1) infos (omega arith), later)

every-from : (p t : ℕ) (infos : List TermInfo) (k : ℕ) (info : TermInfo) → slice_get infos k ≡ Some info → info.tcp ≡ p → is_among (members_from p t infos) (t + k) ≡ true
every-from p t [] k info is of = absurd (cc is)
every-from p t (x ∷ xs) zero info is of =
    let same : x ≡ info = some_is is in
    let mine : (x.tcp == p) ≡ true = eq-eqb x.tcp p (ap (λ (i : TermInfo). i.tcp) same ∙ of) in
    let first : (t == t + 0) ≡ true = eq-eqb t (t + 0) (omega arith) in
    rw (mine, first) refl
every-from p t (x ∷ xs) (suc k) info is of =
    let e : t + 1 + k ≡ t + suc k = omega arith in by (x.tcp == p) (subst (λ j. is_among (members_from p (t + 1) xs) j ≡ true) e (every-from p (t + 1) xs k info is of))
  where
    by : (b : Bool) → is_among (members_from p (t + 1) xs) (t + suc k) ≡ true → is_among (if b then t ∷ members_from p (t + 1) xs else members_from p (t + 1) xs) (t + suc k) ≡ true
    by false later = later
    by true later = or_right (t == t + suc k) (is_among (members_from p (t + 1) xs) (t + suc k)) later

pub members-are : (system : System) (p : ℕ) → AreOf system p (members_of system p)
members-are system p = record {
  distinct = distinct-from p 0 system.terminals;
  each = All-from_recursion (IsOf system p) (members_of system p) (each-from system p 0 system.terminals (λ k info is. let e : k ≡ 0 + k = omega arith in subst (λ j. slice_get system.terminals j ≡ Some info) e is));
  every = λ t info is of. let e : 0 + t ≡ t = omega arith in subst (λ j. is_among (members_of system p) j ≡ true) e (every-from p 0 system.terminals t info is of);
}

-- ---- the seats of a new pair

abbrev Lacks : List BackupSeat → ℕ → Type 0
Lacks seats t = list_any (is_seat_of t) seats ≡ false

still-lacks : (seats : List BackupSeat) (t : ℕ) (ts : List ℕ) → AllByRecursion (λ y. (t == y) ≡ false) ts → AllByRecursion (Lacks seats) ts → AllByRecursion (Lacks (seats ++ new_seat t ∷ [])) ts
still-lacks seats t [] apart lacks = tt
still-lacks seats t (s ∷ ts) apart lacks =
    let old = lacks.0 in
    let new = apart.0 in
    (list_any-append (is_seat_of s) seats (new_seat t ∷ []) ∙ rw (old, new) refl, still-lacks seats t ts apart.1 lacks.1)

map-more : (seats : List BackupSeat) (t : ℕ) → map (λ (seat : BackupSeat). seat.terminal) (seats ++ new_seat t ∷ []) ≡ map (λ (seat : BackupSeat). seat.terminal) seats ++ t ∷ []
map-more [] t = refl
map-more (seat ∷ seats) t = ap (λ ts. seat.terminal ∷ ts) (map-more seats t)

seated : (seats : List BackupSeat) (ts : List ℕ) → IsDistinct (λ a b. a == b) ts → AllByRecursion (Lacks seats) ts
    → map (λ (seat : BackupSeat). seat.terminal) (seats_with seats ts) ≡ map (λ (seat : BackupSeat). seat.terminal) seats ++ ts
unfolding IsDistinct
seated seats [] distinct lacks = sym (nothing-more (map (λ (seat : BackupSeat). seat.terminal) seats))
  where
    nothing-more : (xs : List ℕ) → xs ++ [] ≡ xs
    nothing-more [] = refl
    nothing-more (x ∷ xs) = ap (λ ys. x ∷ ys) (nothing-more xs)
seated seats (t ∷ ts) distinct lacks =
    let added : with_terminal seats t ≡ seats ++ new_seat t ∷ [] = ap (λ b. if b then seats else seats ++ new_seat t ∷ []) lacks.0 in
    ap (λ s. map (λ (seat : BackupSeat). seat.terminal) (seats_with s ts)) added
    ∙ (seated (seats ++ new_seat t ∷ []) ts distinct.1 (still-lacks seats t ts distinct.0 lacks.1)
    ∙ (ap (λ xs. xs ++ ts) (map-more seats t) ∙ append_assoc (map (λ (seat : BackupSeat). seat.terminal) seats) (t ∷ []) ts))

none-lack : (ts : List ℕ) → AllByRecursion (Lacks []) ts
none-lack [] = tt
none-lack (t ∷ ts) = (refl, none-lack ts)

pub seats-are : (system : System) (p : ℕ) → map (λ (seat : BackupSeat). seat.terminal) (seats_with [] (members_of system p)) ≡ members_of system p
seats-are system p = seated [] (members_of system p) (distinct-from p 0 system.terminals) (none-lack (members_of system p))
