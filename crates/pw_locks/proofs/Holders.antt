-- What a search finds is the oldest holder.
use Rattle.std.proofs.Common.{◌≡◌, ℕ, List, [], ◌∷◌, ◌&&◌, ◌||◌, map, Option, None, Some, Bool, true, false, cond, refl, sym, subst, arith}
use Rattle.std.specs.Prelude.{nat_eq, filter, All, Contains, IsNone, IfSome, is_some, not, ◌↔◌}
use Rattle.std.specs.BTreeMap.{BTreeMap, get, values}
use Rattle.std.specs.List.{list_any}
use Rattle.std.specs.Ordering.{nat_cmp}
use Rattle.std.proofs.lemmas.Bool.{and_parts}
use Rattle.std.proofs.lemmas.Bool.Decides.{nat_tests}
use Rattle.std.proofs.lemmas.List.Elements.{All-nil, All-cons, All-head, All-tail}
use Rattle.pw_code.specs.declared.unit.Unit as unit
use Rattle.pw_locks.specs.Conflicts.{are_both_shared, exclude}
use Rattle.pw_locks.specs.Oldest.{IsOldest}
use Rattle.pw_locks.specs.Places.{is_in_file}
use Rattle.pw_locks.specs.Register.{IsRegistered}
use Rattle.pw_locks.specs.Searches.{Searched, IsAsOld, is_sought_holder, is_sought, units_of}
use Rattle.pw_locks.specs.Spans.{overlap}
use Rattle.pw_locks.specs.declared.lock.Lock.{Lock}
use Rattle.pw_locks.specs.declared.register.LockRegister.{LockRegister}
use Rattle.pw_locks.specs.declared.search.Sought.{Sought}
use Rattle.pw_locks.specs.declared.span.Span.{Span}
use Rattle.pw_locks.proofs.Registers.{All-locks}

-- none is known where there is no unit, and else one than which none is older
abbrev pub IsOldestOf : Option unit.Unit → List unit.Unit → Type 0
IsOldestOf None units = units ≡ []
IsOldestOf (Some oldest) units = IsOldest oldest units

-- one that is known is among the units, so there is none exactly where none is known
pub none-exactly : (known : Option unit.Unit) (units : List unit.Unit) → IsOldestOf known units → IsNone known ↔ (units ≡ [])
none-exactly None units h = (λ _. h, λ _. refl)
none-exactly (Some oldest) units h =
    (λ none. absurd (cc none), λ is. let among : Contains [] oldest = subst (λ us. Contains us oldest) is h.among in absurd (omega (arith, among.1)))

pub oldest-of : (known : Option unit.Unit) (units : List unit.Unit) → IsOldestOf known units → IfSome known (λ oldest. IsOldest oldest units)
oldest-of None units h = tt
oldest-of (Some oldest) units h = h

-- what holds of the unit of each lock that passes holds of these units
one_more : (P : unit.Unit → Type 0) (b : Bool) (x : Lock) (xs : List Lock) → (b ≡ true → P x.unit) → All P (map (λ (held : Lock). held.unit) xs) → All P (map (λ (held : Lock). held.unit) (cond b (x ∷ xs) xs))
one_more P true x xs here rest = All-cons P x.unit (map (λ (held : Lock). held.unit) xs) (here refl) rest
one_more P false x xs here rest = rest

All-units : (test : Lock → Bool) (P : unit.Unit → Type 0) (xs : List Lock) → All (λ held. test held ≡ true → P held.unit) xs → All P (units_of test xs)
All-units test P [] h = All-nil P
All-units test P (x ∷ xs) h =
    one_more P (test x) x (filter test xs) (All-head (λ held. test held ≡ true → P held.unit) x xs h)
    (All-units test P xs (All-tail (λ held. test held ≡ true → P held.unit) x xs h))

none_as_old : (units : List unit.Unit) → All (λ own. IsAsOld None own.birth) units → units ≡ []
none_as_old [] h = refl
none_as_old (x ∷ xs) h = absurd (All-head (λ own. IsAsOld None own.birth) x xs h)

oldest_from : (found : Option unit.Unit) (units : List unit.Unit) → IfSome found (Contains units) → All (λ own. IsAsOld found own.birth) units → IsOldestOf found units
oldest_from None units among old = none_as_old units old
oldest_from (Some own) units among old = record { among = among; none_older = old }

-- where a lock that overlaps is filed
abbrev pub OverlapsThere : LockRegister → Sought → ℕ → Type 0
OverlapsThere register sought n = (s : Span) × (overlap sought.span.now s ≡ true) × (is_in_file register.places.files sought.file s n ≡ true)

pub found_oldest : (locks : BTreeMap ℕ Lock) (register : LockRegister) (sought : Sought) (found : Option unit.Unit) → IsRegistered locks register
    → Searched (is_sought sought) locks None found (OverlapsThere register sought) → IsOldestOf found (units_of (is_sought sought) (values locks))
found_oldest locks register sought found registered searched =
    oldest_from found (units_of (is_sought sought) (values locks)) (searched.among tt)
    (All-units (is_sought sought) (λ own. IsAsOld found own.birth) (values locks)
    (All-locks (λ held. is_sought sought held ≡ true → IsAsOld found held.unit.birth) locks registered.ordered each))
  where
    each : (n : ℕ) (held : Lock) → get nat_cmp locks n ≡ Some held → is_sought sought held ≡ true → IsAsOld found held.unit.birth
    each n held is passes =
        let out = and_parts (is_sought_holder sought.holders held.unit) (exclude sought.file sought.span.now sought.mode held) passes in
        let files = and_parts (nat_eq sought.file held.file) (overlap sought.span.now held.span && not (are_both_shared sought.mode held.mode)) out.1 in
        let spans = and_parts (overlap sought.span.now held.span) (not (are_both_shared sought.mode held.mode)) files.1 in
        let same : held.file ≡ sought.file = grind (arith, nat_tests, files.0) in
        let there : is_in_file register.places.files sought.file held.span n ≡ true = subst (λ f. is_in_file register.places.files f held.span n ≡ true) same (registered.entered n held is).placed in
        searched.sees n held (held.span, spans.0, there) is passes

any_none : (test : Lock → Bool) (xs : List Lock) → units_of test xs ≡ [] → list_any test xs ≡ false
any_none test [] h = refl
any_none test (x ∷ xs) h =
    elim (test x) as (λ b. map (λ (held : Lock). held.unit) (cond b (x ∷ filter test xs) (filter test xs)) ≡ [] → (b || list_any test xs) ≡ false) [
      | true ↦ λ is. absurd (cc is)
      | false ↦ λ is. any_none test xs is
    ] h

any_some : (test : Lock → Bool) (xs : List Lock) (own : unit.Unit) → Contains (units_of test xs) own → list_any test xs ≡ true
any_some test [] own h = absurd (omega (arith, h.1))
any_some test (x ∷ xs) own h =
    elim (test x) as (λ b. Contains (map (λ (held : Lock). held.unit) (cond b (x ∷ filter test xs) (filter test xs))) own → (b || list_any test xs) ≡ true) [
      | true ↦ λ is. refl
      | false ↦ λ is. any_some test xs own is
    ] h

-- whether some lock passes
pub found-any : (test : Lock → Bool) (xs : List Lock) (found : Option unit.Unit) → IsOldestOf found (units_of test xs) → is_some found ≡ list_any test xs
found-any test xs None h = sym (any_none test xs h)
found-any test xs (Some own) h = sym (any_some test xs own h.among)
