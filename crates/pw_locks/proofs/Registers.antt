-- Locks by their numbers.
use Rattle.std.proofs.Common.{◌≡◌, ℕ, ◌<◌, ◌+◌, List, [], ◌∷◌, ◌++◌, ◌||◌, Bool, true, false, not, cond, Option, Some, None, length, drop, get_or, add-one, drop-cons, refl, sym, ap, ◌∙◌, arith}
use Rattle.std.specs.Prelude.{nat_eq, filter, All}
use Rattle.std.specs.BTreeMap.{BTreeMap, get, values, keys, is_at, insert_entry, IsOrdered}
use Rattle.std.specs.Map.{lookup, remove_entry, keys_of, values_of}
use Rattle.std.specs.Ordering.{nat_cmp}
use Rattle.std.specs.Cmp.{eq_by_cmp_equiv, nat_cmp_total}
use Rattle.std.specs.Option.{IfSome}
use Rattle.std.specs.declared.cmp.Ordering.TheVariants.{Greater}
use Rattle.std.proofs.lemmas.Bool.Decides.{nat_tests}
use Rattle.std.proofs.lemmas.List.Elements.{All-head, All-tail}
use Rattle.std.proofs.lemmas.Map.Keys.{IsDistinct-from_sorted}
use Rattle.std.proofs.lemmas.Map.Lookups.{exact_unsigned}
use Rattle.std.proofs.lemmas.Map.Views.{All-values_from_lookup}
use Rattle.std.proofs.lemmas.Bool.{false_from_ne_true}
use Rattle.pw_base.proofs.Plain.{is_eq-Equal}
use Rattle.pw_code.specs.declared.unit.Unit as unit
use Rattle.pw_locks.specs.Conflicts.{is_same_unit}
use Rattle.pw_locks.specs.Indexes.{has}
use Rattle.pw_locks.specs.Register.{IsEntered}
use Rattle.pw_locks.specs.declared.lock.Lock.{Lock}
use Rattle.pw_locks.specs.declared.register.LockRegister.{LockRegister}

abbrev Entry : Type 0
Entry = ℕ × Lock

-- a lock that does not pass is not missed where it is taken away
pub filter-removed : (p : Lock → Bool) (test : ℕ → Bool) (held : Lock) (es : List Entry) → lookup test es ≡ Some held → p held ≡ false
    → filter p (values_of (remove_entry test es)) ≡ filter p (values_of es)
filter-removed p test held [] is fails = refl
filter-removed p test held (e ∷ es) is fails =
    elim (test e.0) as (λ b. cond b (Some e.1) (lookup test es) ≡ Some held → filter p (values_of (cond b es (e ∷ remove_entry test es))) ≡ filter p (e.1 ∷ values_of es)) [
      | true ↦ λ here. let one : e.1 ≡ held = cc in let no : p e.1 ≡ false = ap p one ∙ fails in rw no refl
      | false ↦ λ there. ap (λ vs. cond (p e.1) (e.1 ∷ vs) vs) (filter-removed p test held es there fails)
    ] is

-- where each lock passes, all are kept
all_kept : (p : Lock → Bool) (vs : List Lock) → All (λ held. p held ≡ true) vs → filter p vs ≡ vs
all_kept p [] h = refl
all_kept p (v ∷ vs) h =
    let first : p v ≡ true = All-head (λ held. p held ≡ true) v vs h in
    rw first (ap (λ rest. v ∷ rest) (all_kept p vs (All-tail (λ held. p held ≡ true) v vs h)))

if_some : (P : Lock → Type 0) (found : Option Lock) → ((held : Lock) → found ≡ Some held → P held) → IfSome found P
if_some P None h = tt
if_some P (Some held) h = h held refl

pub All-locks : (P : Lock → Type 0) (locks : BTreeMap ℕ Lock) → IsOrdered nat_cmp locks → ((n : ℕ) (held : Lock) → get nat_cmp locks n ≡ Some held → P held) → All P (values locks)
All-locks P locks ordered each =
    All-values_from_lookup (eq_by_cmp_equiv nat_cmp_total) P locks.entries (IsDistinct-from_sorted nat_cmp (keys locks) ordered) (λ n. if_some P (get nat_cmp locks n) (each n))

pub filter-kept : (p : Lock → Bool) (locks : BTreeMap ℕ Lock) → IsOrdered nat_cmp locks → ((n : ℕ) (held : Lock) → get nat_cmp locks n ≡ Some held → p held ≡ true)
    → filter p (values locks) ≡ values locks
filter-kept p locks ordered each = all_kept p (values locks) (All-locks (λ held. p held ≡ true) locks ordered each)

-- a number that has a lock is below what all numbers are below
pub below-last : (es : List Entry) (n : ℕ) (held : Lock) (last : ℕ) → All (λ k. k < last) (keys_of es) → lookup (is_at (nat_cmp n)) es ≡ Some held → n < last
below-last [] n held last h is = absurd (cc is)
below-last (e ∷ es) n held last h is =
    elim (is_at (nat_cmp n) e.0) as (λ b. is_at (nat_cmp n) e.0 ≡ b → cond b (Some e.1) (lookup (is_at (nat_cmp n)) es) ≡ Some held → n < last) [
      | true ↦ λ at here.
          let same : n ≡ e.0 = exact_unsigned n e.0 (is_eq-Equal (nat_cmp n e.0) at) in
          let first : e.0 < last = All-head (λ k. k < last) e.0 (keys_of es) h in
          omega arith
      | false ↦ λ at there. below-last es n held last (All-tail (λ k. k < last) e.0 (keys_of es) h) there
    ] refl is

greater : (n k : ℕ) → k < n → nat_cmp n k ≡ Greater
greater n k h = grind (arith, nat_tests, h)

-- a lock of a larger number goes behind the others
pub insert_last : (es : List Entry) (n : ℕ) (lock : Lock) → All (λ k. k < n) (keys_of es) → insert_entry nat_cmp es n lock ≡ es ++ (n, lock) ∷ []
insert_last [] n lock h = refl
insert_last (e ∷ es) n lock h =
    let first : nat_cmp n e.0 ≡ Greater = greater n e.0 (All-head (λ k. k < n) e.0 (keys_of es) h) in
    rw first (ap (λ rest. e ∷ rest) (insert_last es n lock (All-tail (λ k. k < n) e.0 (keys_of es) h)))

pub values-last : (es : List Entry) (n : ℕ) (lock : Lock) → values_of (es ++ (n, lock) ∷ []) ≡ values_of es ++ lock ∷ []
values-last [] n lock = refl
values-last (e ∷ es) n lock = ap (λ rest. e.1 ∷ rest) (values-last es n lock)

-- What holds while the locks of a unit are taken away: those of it that are there have numbers that are left.
pub record Releasing (unit : unit.Unit) (old locks : BTreeMap ℕ Lock) (register : LockRegister) (left : List ℕ) : Type 0 where
  pub ordered : IsOrdered nat_cmp locks
  pub own : (n : ℕ) (held : Lock) → get nat_cmp locks n ≡ Some held → is_same_unit held.unit unit ≡ true → has left n ≡ true
  pub entered : (n : ℕ) (held : Lock) → get nat_cmp locks n ≡ Some held → is_same_unit held.unit unit ≡ false → IsEntered register n held
  pub others : filter (λ (held : Lock). not (is_same_unit held.unit unit)) (values locks) ≡ filter (λ (held : Lock). not (is_same_unit held.unit unit)) (values old)

or_second : (a b : Bool) → (a ≡ true → ⊥) → (a || b) ≡ true → b ≡ true
or_second true b never h = absurd (never refl)
or_second false b never h = h

-- one number less is left
pub left_less : (numbers : List ℕ) (i n : ℕ) → i < length numbers → (n ≡ get_or numbers i 0 → ⊥) → has (drop i numbers) n ≡ true → has (drop (i + 1) numbers) n ≡ true
left_less numbers i n lt ne h =
    let cut : drop i numbers ≡ get_or numbers i 0 ∷ drop (i + 1) numbers = rw add-one (drop-cons numbers i 0 lt) in
    let both : (nat_eq n (get_or numbers i 0) || has (drop (i + 1) numbers) n) ≡ true = rw cut at h in
    or_second (nat_eq n (get_or numbers i 0)) (has (drop (i + 1) numbers) n) (λ is. ne (grind (arith, nat_tests, is))) both

-- where no number is left, none of the unit's locks is there
pub none_own : (unit : unit.Unit) (old locks : BTreeMap ℕ Lock) (register : LockRegister) → Releasing unit old locks register []
    → (n : ℕ) (held : Lock) → get nat_cmp locks n ≡ Some held → is_same_unit held.unit unit ≡ false
none_own unit old locks register r n held is = false_from_ne_true (is_same_unit held.unit unit) (λ same. let none = r.own n held is same in absurd (cc none))

pub released : (unit : unit.Unit) (old locks : BTreeMap ℕ Lock) (register : LockRegister) → Releasing unit old locks register []
    → values locks ≡ filter (λ (held : Lock). not (is_same_unit held.unit unit)) (values old)
released unit old locks register r =
    sym (filter-kept (λ held. not (is_same_unit held.unit unit)) locks r.ordered (λ n held is. ap not (none_own unit old locks register r n held is))) ∙ r.others
