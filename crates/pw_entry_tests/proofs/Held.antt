-- The locks that stand in the way of an operation, and the units that hold them.
use Rattle.std.proofs.Common.{◌≡◌, zero, suc, ◌||◌, Bool, true, false, List, [], ◌∷◌, map, refl, cond, arith}
use Rattle.std.specs.Prelude.{filter, All, Contains}
use Rattle.std.specs.List.{list_any}
use Rattle.std.proofs.lemmas.Bool.{or_left, or_right}
use Rattle.std.proofs.lemmas.List.Elements.{All-nil, All-cons, All-head, All-tail}
use Rattle.pw_code.specs.declared.unit.Unit as unit
use Rattle.pw_locks.specs.declared.lock.Lock.{Lock}

-- the units of the locks that pass
abbrev pub units_that : (Lock → Bool) → List Lock → List unit.Unit
units_that test locks = map (λ (held : Lock). held.unit) (filter test locks)

-- one of them has a lock that passes
module _ (test other : Lock → Bool) (own : unit.Unit) (gives : (held : Lock) → test held ≡ true → held.unit ≡ own → other held ≡ true) where
  held-at : (b : Bool) (held : Lock) (locks : List Lock) → test held ≡ b → (Contains (units_that test locks) own → list_any other locks ≡ true)
      → Contains (map (λ (one : Lock). one.unit) (cond b (held ∷ filter test locks) (filter test locks))) own
      → (other held || list_any other locks) ≡ true
  held-at true held locks is rest (zero, lt, e) = or_left (other held) (list_any other locks) (gives held is e)
  held-at true held locks is rest (suc k, lt, e) = or_right (other held) (list_any other locks) (rest (k, omega (arith, lt), e))
  held-at false held locks is rest h = or_right (other held) (list_any other locks) (rest h)

  pub some-held : (locks : List Lock) → Contains (units_that test locks) own → list_any other locks ≡ true
  some-held [] h = absurd (omega (arith, h.1))
  some-held (held ∷ locks) h = held-at (test held) held locks refl (some-held locks) h

-- what holds of all of them holds of the unit of each lock that passes
module _ (test : Lock → Bool) (P : unit.Unit → Type 0) where
  of-held-at : (b : Bool) (held : Lock) (locks : List Lock) → test held ≡ b
      → (All P (units_that test locks) → All (λ one. test one ≡ true → P one.unit) locks)
      → All P (map (λ (one : Lock). one.unit) (cond b (held ∷ filter test locks) (filter test locks)))
      → All (λ one. test one ≡ true → P one.unit) (held ∷ locks)
  of-held-at true held locks is rest all =
      All-cons (λ one. test one ≡ true → P one.unit) held locks (λ passes. All-head P held.unit (units_that test locks) all)
      (rest (All-tail P held.unit (units_that test locks) all))
  of-held-at false held locks is rest all =
      All-cons (λ one. test one ≡ true → P one.unit) held locks (λ passes. absurd (cc (is, passes))) (rest all)

  pub of-held : (locks : List Lock) → All P (units_that test locks) → All (λ held. test held ≡ true → P held.unit) locks
  of-held [] h = All-nil (λ (held : Lock). test held ≡ true → P held.unit)
  of-held (held ∷ locks) h = of-held-at (test held) held locks refl (of-held locks) h
