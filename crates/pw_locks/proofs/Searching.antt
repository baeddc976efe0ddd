-- Searches for the oldest holder.
use Rattle.std.proofs.Common.{◌≡◌, ◌⊎◌, inl, inr, ℕ, ◌+◌, ◌≤◌, ◌<◌, List, [], ◌∷◌, ◌++◌, Bool, true, false, cond, Option, Some, None, take, length, get_or, refl, sym, ap, subst, ◌∙◌, arith}
use Rattle.std.specs.Prelude.{nat_eq, nat_le, map, filter, Contains}
use Rattle.std.specs.BTreeMap.{BTreeMap, get, values}
use Rattle.std.specs.Option.{IfSome}
use Rattle.std.specs.Ordering.{nat_cmp, eq_by_cmp}
use Rattle.std.proofs.lemmas.Bool.Decides.{nat_tests}
use Rattle.std.proofs.lemmas.List.Elements.{Contains-append_left, Contains-append_right, Contains-push, Contains-push_cases, Contains-append_cases}
use Rattle.std.proofs.lemmas.List.Folds.{list_any-append, list_any_more}
use Rattle.std.proofs.lemmas.Map.Lookups.{exact_unsigned}
use Rattle.std.proofs.lemmas.Map.Made.{Contains-values_of}
use Rattle.std.proofs.lemmas.Map.Views.{Contains-from_lookup, tells_apart}
use Rattle.std.proofs.lemmas.Bool.{or_cases}
use Rattle.pw_code.specs.declared.unit.Unit as unit
use Rattle.pw_locks.specs.declared.lock.Lock.{Lock}
use Rattle.pw_locks.specs.Indexes.{has}
use Rattle.pw_locks.specs.Oldest.{older, oldest_unit_noted}
use Rattle.pw_locks.specs.Searches.{Searched, IsAsOld, units_of}

either : {A B C : Type 0} → A ⊎ B → (A → C) → (B → C) → C
either (inl a) f g = f a
either (inr b) f g = g b

-- a lock that passes the test is among those that do
still_there : (b : Bool) (x : Lock) (xs : List Lock) (own : unit.Unit) → Contains (map (λ (held : Lock). held.unit) xs) own → Contains (map (λ (held : Lock). held.unit) (cond b (x ∷ xs) xs)) own
still_there true x xs own h = Contains-append_right (x.unit ∷ []) (map (λ (held : Lock). held.unit) xs) own h
still_there false x xs own h = h

first_there : (b : Bool) (x : Lock) (xs : List Lock) → b ≡ true → Contains (map (λ (held : Lock). held.unit) (cond b (x ∷ xs) xs)) x.unit
first_there true x xs is = Contains-append_left (x.unit ∷ []) (map (λ (held : Lock). held.unit) xs) x.unit (Contains-push [] x.unit)
first_there false x xs is = absurd (cc is)

pub among_sought : (test : Lock → Bool) (xs : List Lock) (held : Lock) → Contains xs held → test held ≡ true → Contains (units_of test xs) held.unit
among_sought test [] held h is = absurd (omega (arith, h.1))
among_sought test (x ∷ xs) held h is =
    either (Contains-append_cases (x ∷ []) xs held h)
    (λ (one : Contains (x ∷ []) held). either (Contains-push_cases [] x held one) (λ (none : Contains [] held). absurd (omega (arith, none.1)))
    (λ (same : x ≡ held). let P : Lock → Type 0 = λ y. test y ≡ true → Contains (units_of test (x ∷ xs)) y.unit in subst P same (first_there (test x) x (filter test xs)) is))
    (λ (rest : Contains xs held). still_there (test x) x (filter test xs) held.unit (among_sought test xs held rest is))

pub found_among : (test : Lock → Bool) (locks : BTreeMap ℕ Lock) (n : ℕ) (held : Lock) → get nat_cmp locks n ≡ Some held → test held ≡ true → Contains (units_of test (values locks)) held.unit
found_among test locks n held is passes =
    let entry : Contains locks.entries (n, held) = Contains-from_lookup {eq = eq_by_cmp nat_cmp} (tells_apart exact_unsigned) n held locks.entries is in
    among_sought test (values locks) held (Contains-values_of locks.entries n held entry) passes

-- the older of two
older-as_old : (known : Option unit.Unit) (own : unit.Unit) (birth : ℕ) → IsAsOld known birth → (older known own).birth ≤ birth
older-as_old None own birth h = absurd h
older-as_old (Some old) own birth h =
    elim (nat_le old.birth own.birth) as (λ b. nat_le old.birth own.birth ≡ b → (cond b old own).birth ≤ birth) [
      | true ↦ λ is. h
      | false ↦ λ is. grind (arith, nat_tests, is, h)
    ] refl

older-own : (known : Option unit.Unit) (own : unit.Unit) → (older known own).birth ≤ own.birth
older-own None own = omega arith
older-own (Some old) own =
    elim (nat_le old.birth own.birth) as (λ b. nat_le old.birth own.birth ≡ b → (cond b old own).birth ≤ own.birth) [
      | true ↦ λ is. grind (arith, nat_tests, is)
      | false ↦ λ is. omega arith
    ] refl

older-holds : (P : unit.Unit → Type 0) (known : Option unit.Unit) (own : unit.Unit) → IfSome known P → P own → P (older known own)
older-holds P None own h p = p
older-holds P (Some old) own h p = elim (nat_le old.birth own.birth) as (λ b. P (cond b old own)) [ true ↦ h | false ↦ p ]

noted-holds : (P : unit.Unit → Type 0) (known : Option unit.Unit) (b : Bool) (own : unit.Unit) → (b ≡ true → P own) → IfSome known P → IfSome (oldest_unit_noted known b own) P
noted-holds P known true own p h = older-holds P known own h (p refl)
noted-holds P known false own p h = h

noted-stays : (known : Option unit.Unit) (b : Bool) (own : unit.Unit) (birth : ℕ) → IsAsOld known birth → IsAsOld (oldest_unit_noted known b own) birth
noted-stays known true own birth h = older-as_old known own birth h
noted-stays known false own birth h = h

noted-own : (known : Option unit.Unit) (b : Bool) (own : unit.Unit) → b ≡ true → IsAsOld (oldest_unit_noted known b own) own.birth
noted-own known true own is = older-own known own
noted-own known false own is = absurd (cc is)

pub Searched-noted : (test : Lock → Bool) (locks : BTreeMap ℕ Lock) (known : Option unit.Unit) (number : ℕ) (held : Lock) → get nat_cmp locks number ≡ Some held
    → Searched test locks known (oldest_unit_noted known (test held) held.unit) (λ n. n ≡ number)
Searched-noted test locks known number held is = record {
  among = λ h. noted-holds (Contains (units_of test (values locks))) known (test held) held.unit (found_among test locks number held is) h;
  stays = noted-stays known (test held) held.unit;
  sees = λ n other same there passes.
      let one : other ≡ held = found_one n other same there in
      let P : Lock → Type 0 = λ lock. test lock ≡ true → IsAsOld (oldest_unit_noted known (test held) held.unit) lock.unit.birth in
      subst P (sym one) (noted-own known (test held) held.unit) passes;
}
  where
    found_one : (n : ℕ) (other : Lock) → n ≡ number → get nat_cmp locks n ≡ Some other → other ≡ held
    found_one n other same there = let e : get nat_cmp locks n ≡ get nat_cmp locks number = ap (get nat_cmp locks) same in cc

-- nothing more is seen
pub Searched-same : (test : Lock → Bool) (locks : BTreeMap ℕ Lock) (known : Option unit.Unit) (Seen : ℕ → Type 0) → ((n : ℕ) → Seen n → get nat_cmp locks n ≡ None) → Searched test locks known known Seen
Searched-same test locks known Seen none = record { among = λ h. h; stays = λ birth h. h; sees = λ n held seen is passes. let no = none n seen in absurd (cc (no, is)) }

-- one search after the other
pub Searched-then : (test : Lock → Bool) (locks : BTreeMap ℕ Lock) (known found last : Option unit.Unit) (S T U : ℕ → Type 0) → ((n : ℕ) → U n → S n ⊎ T n)
    → Searched test locks known found S → Searched test locks found last T → Searched test locks known last U
Searched-then test locks known found last S T U cover a b = record {
  among = λ h. b.among (a.among h);
  stays = λ birth h. b.stays birth (a.stays birth h);
  sees = λ n held seen is passes. either (cover n seen) (λ (s : S n). b.stays held.unit.birth (a.sees n held s is passes)) (λ (t : T n). b.sees n held t is passes);
}

-- the same over fewer numbers
pub Searched-fewer : (test : Lock → Bool) (locks : BTreeMap ℕ Lock) (known found : Option unit.Unit) (S T : ℕ → Type 0) → ((n : ℕ) → T n → S n)
    → Searched test locks known found S → Searched test locks known found T
Searched-fewer test locks known found S T fewer a = record { among = a.among; stays = a.stays; sees = λ n held seen is passes. a.sees n held (fewer n seen) is passes }

pub has-append : (xs ys : List ℕ) (n : ℕ) → has (xs ++ ys) n ≡ true → (has xs n ≡ true) ⊎ (has ys n ≡ true)
has-append xs ys n h = or_cases (has xs n) (has ys n) (sym (list_any-append (nat_eq n) xs ys) ∙ h)

pub has-more : (xs : List ℕ) (i n : ℕ) → i < length xs → has (take (i + 1) xs) n ≡ true → (has (take i xs) n ≡ true) ⊎ (n ≡ get_or xs i 0)
has-more xs i n lt h =
    either (or_cases (has (take i xs) n) (nat_eq n (get_or xs i 0)) (sym (list_any_more (nat_eq n) xs i 0 lt) ∙ h))
    (λ (before : has (take i xs) n ≡ true). inl before)
    (λ (here : nat_eq n (get_or xs i 0) ≡ true). inr (grind (arith, nat_tests, here)))

-- none is seen
pub Searched-none : (test : Lock → Bool) (locks : BTreeMap ℕ Lock) (known : Option unit.Unit) (Seen : ℕ → Type 0) → ((n : ℕ) → Seen n → ⊥) → Searched test locks known known Seen
Searched-none test locks known Seen none = record { among = λ h. h; stays = λ birth h. h; sees = λ n held seen is passes. absurd (none n seen) }

-- those of some numbers that are not left
abbrev pub IsPast : List ℕ → List ℕ → ℕ → Type 0
IsPast all left n = (has all n ≡ true) × (has left n ≡ false)

-- one turn of a search through pieces of numbers
pub past-more : (all piece left : List ℕ) (n : ℕ) → IsPast all left n → IsPast all (piece ++ left) n ⊎ (has piece n ≡ true)
past-more all piece left n h =
    elim (has (piece ++ left) n) as (λ b. has (piece ++ left) n ≡ b → IsPast all (piece ++ left) n ⊎ (has piece n ≡ true)) [
      | true ↦ λ is. either (has-append piece left n is) (λ (p : has piece n ≡ true). inr p) (λ (q : has left n ≡ true). let no = h.1 in absurd (cc (no, q)))
      | false ↦ λ is. inl (h.0, is)
    ] refl
