-- A seat is added behind the others.
use Rattle.std.proofs.Common.{◌≡◌, ◌≢◌, ℕ, ◌+◌, ◌<◌, ◌≤◌, ◌&&◌, ◌^◌, Bool, true, false, cond, List, [], ◌∷◌, ◌++◌, length, get_or, map, Some, None, ◌⊎◌, ⊎_elim, inl, inr, refl, sym, ap, subst, ◌∙◌, arith, is_eq, Less, Equal, Greater}
use Rattle.std.specs.Cmp.{nat_cmp_is}
use Rattle.std.proofs.Math.Seq.{get_or-append_seam}
use Rattle.std.proofs.lemmas.Bool.{false≢true, cases_lt}
use Rattle.std.proofs.lemmas.List.{get_or_append_left, length-append, length-map, map-append}
use Rattle.std.proofs.lemmas.List.Folds.{list_all-append}
use Rattle.std.proofs.lemmas.List.Sums.{sum_by-append, sum_by-cons}
use Rattle.std.specs.BTreeMap.{BTreeMap, get, is_at}
use Rattle.std.specs.Map.{lookup}
use Rattle.std.specs.List.{count_by, list_all}
use Rattle.std.specs.Ordering.{nat_cmp}
use Rattle.pw_pair.specs.Places.{ArePlaces, AreSeats, terminals_of}
use Rattle.pw_pair.specs.Seats.{is_lacking, is_sound, is_waiting, new_seat}
use Rattle.pw_pair.specs.declared.seat.BackupSeat.{BackupSeat}

-- a key is at another exactly where the two are one
key-same : (t q : ℕ) → t ≡ q → is_at (nat_cmp t) q ≡ true
key-same t q e = ap is_eq (sym (nat_cmp_is t q Equal e))

key-is : (t q : ℕ) → is_at (nat_cmp t) q ≡ true → t ≡ q
key-is t q h =
    ⊎_elim
    (λ less. let own : Less ≡ nat_cmp t q = nat_cmp_is t q Less less in absurd (false≢true (ap is_eq own ∙ h)))
    (λ (most : q ≤ t).
    ⊎_elim
    (λ more. let own : Greater ≡ nat_cmp t q = nat_cmp_is t q Greater more in absurd (false≢true (ap is_eq own ∙ h)))
    (λ (least : t ≤ q). omega arith)
    (cases_lt q t))
    (cases_lt t q)

key-other : (t q : ℕ) → (t ≡ q → ⊥) → (b : Bool) → is_at (nat_cmp t) q ≡ b → b ≡ false
key-other t q h true e = absurd (h (key-is t q e))
key-other t q h false e = refl

-- a map that looks the same has the same places
pub same-places : (old new : BTreeMap ℕ ℕ) (terminals : List ℕ) → new.entries ≡ old.entries → ArePlaces old terminals → ArePlaces new terminals
same-places old new terminals e are =
    let same : (t : ℕ) → get nat_cmp new t ≡ get nat_cmp old t = λ t. ap (λ es. lookup (is_at (nat_cmp t)) es) e in
    record {
      here = λ k lt. same _ ∙ are.here k lt;
      there = λ t k found. are.there t k (sym (same t) ∙ found);
    }

-- the terminals with one more have their places
added-places : (old new : BTreeMap ℕ ℕ) (terminals : List ℕ) (t : ℕ) → ArePlaces old terminals → get nat_cmp old t ≡ None
    → ((q : ℕ) → get nat_cmp new q ≡ cond (is_at (nat_cmp t) q) (Some (length terminals)) (get nat_cmp old q)) → ArePlaces new (terminals ++ t ∷ [])
added-places old new terminals t are none updates = record {
  here = λ k lt.
      ⊎_elim
      (λ (below : k < length terminals).
      let same : get_or (terminals ++ t ∷ []) k 0 ≡ get_or terminals k 0 = get_or_append_left terminals (t ∷ []) 0 k below in
      let differs : t ≡ get_or terminals k 0 → ⊥ = λ e.
      let both : None ≡ Some k = sym none ∙ ap (λ x. get nat_cmp old x) e ∙ are.here k below in cc both in
      ap (λ x. get nat_cmp new x) same ∙ updates (get_or terminals k 0)
      ∙ ap (λ b. cond b (Some (length terminals)) (get nat_cmp old (get_or terminals k 0))) (key-other t (get_or terminals k 0) differs _ refl)
      ∙ are.here k below)
      (λ above.
      let last : k ≡ length terminals = omega (arith, length-append terminals (t ∷ [])) in
      let same : get_or (terminals ++ t ∷ []) k 0 ≡ t = ap (λ n. get_or (terminals ++ t ∷ []) n 0) last ∙ get_or-append_seam terminals t [] 0 in
      ap (λ x. get nat_cmp new x) same ∙ updates t ∙ ap (λ b. cond b (Some (length terminals)) (get nat_cmp old t)) (key-same t t refl)
      ∙ ap (λ n. Some n) (sym last))
      (cases_lt k (length terminals));
  there = λ q k found. looked q k (is_at (nat_cmp t) q) refl (sym (updates q) ∙ found);
}
  where
    looked : (q k : ℕ) (b : Bool) → is_at (nat_cmp t) q ≡ b → cond (is_at (nat_cmp t) q) (Some (length terminals)) (get nat_cmp old q) ≡ Some k
        → (k < length (terminals ++ t ∷ [])) × (get_or (terminals ++ t ∷ []) k 0 ≡ q)
    looked q k true e found =
        let own : Some (length terminals) ≡ Some k = ap (λ b. cond b (Some (length terminals)) (get nat_cmp old q)) (sym e) ∙ found in
        let last : length terminals ≡ k = cc own in (
          omega (arith, length-append terminals (t ∷ [])),
          ap (λ n. get_or (terminals ++ t ∷ []) n 0) (sym last) ∙ get_or-append_seam terminals t [] 0 ∙ key-is t q e,
        )
    looked q k false e found =
        let was : get nat_cmp old q ≡ Some k = ap (λ b. cond b (Some (length terminals)) (get nat_cmp old q)) (sym e) ∙ found in
        let h = are.there q k was in
        let lt : k < length terminals = h.0 in
        (omega (arith, length-append terminals (t ∷ [])), get_or_append_left terminals (t ∷ []) 0 k lt ∙ h.1)

-- seats with one more
pub added : (seats new : List BackupSeat) (old map' : BTreeMap ℕ ℕ) (lacking waiting t place : ℕ) → AreSeats seats old lacking waiting → get nat_cmp old t ≡ None → place ≡ length seats
    → ((q : ℕ) → get nat_cmp map' q ≡ cond (is_at (nat_cmp t) q) (Some place) (get nat_cmp old q)) → new ≡ seats ++ new_seat t ∷ []
    → AreSeats new map' (lacking + 1) waiting
added seats new old map' lacking waiting t place are none at updates e =
    let terminals : List ℕ = terminals_of seats in
    let own : (q : ℕ) → get nat_cmp map' q ≡ cond (is_at (nat_cmp t) q) (Some (length terminals)) (get nat_cmp old q) =
    λ q. updates q ∙ ap (λ n. cond (is_at (nat_cmp t) q) (Some n) (get nat_cmp old q)) (at ∙ sym (length-map seats (λ seat. seat.terminal))) in
    let all : AreSeats (seats ++ new_seat t ∷ []) map' (lacking + 1) waiting = record {
      places_are =
          let P : List ℕ → Type 0 = λ ts. ArePlaces map' ts in
          subst P (sym (map-append (λ seat. seat.terminal) seats (new_seat t ∷ []))) (added-places old map' terminals t are.places_are none own);
      sound = list_all-append is_sound seats (new_seat t ∷ []) ∙ ap (λ b. b && true) are.sound;
      lacks =
          let c = are.lacks in
          omega (arith, sum_by-append (λ seat. cond (is_lacking seat) 1 0) seats (new_seat t ∷ []), sum_by-cons (λ seat. cond (is_lacking seat) 1 0) (new_seat t) []);
      waits =
          let c = are.waits in
          omega (arith, sum_by-append (λ seat. cond (is_waiting seat) 1 0) seats (new_seat t ∷ []), sum_by-cons (λ seat. cond (is_waiting seat) 1 0) (new_seat t) []);
    } in
    let Q : List BackupSeat → Type 0 = λ l. AreSeats l map' (lacking + 1) waiting in
    subst Q (sym e) all
