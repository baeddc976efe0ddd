-- A search for the oldest unit among the holders of some locks.
use Rattle.std.specs.Prelude.{◌≡◌, ℕ, ◌≤◌, List, Bool, true, not, ◌&&◌, map, filter, flat_map, Contains, Option, Some}
use Rattle.std.specs.BTreeMap.{BTreeMap, get, values}
use Rattle.std.specs.Global.{Vec}
use Rattle.std.specs.Option.{IfSome, IsSomeAnd}
use Rattle.std.specs.Ordering.{nat_cmp}
use Rattle.pw_code.specs.declared.unit.Unit as unit
use Rattle.pw_locks.specs.Conflicts.{is_same_unit, exclude}
use Rattle.pw_locks.specs.declared.lock.Lock.{Lock}
use Rattle.pw_locks.specs.declared.search.Holders.{Holders}
use Rattle.pw_locks.specs.declared.search.Holders.TheVariants.{AllBut, Only}
use Rattle.pw_locks.specs.declared.search.Sought.{Sought}

-- the unit is one of those whose locks are sought
abbrev pub is_sought_holder : Holders → unit.Unit → Bool
is_sought_holder (AllBut unit) own = not (is_same_unit unit own)
is_sought_holder (Only unit) own = is_same_unit own unit

-- the lock is of such a unit and excludes the sought one
abbrev pub is_sought : Sought → Lock → Bool
is_sought sought held = is_sought_holder sought.holders held.unit && exclude sought.file sought.span.now sought.mode held

-- the units of the locks that pass a test
abbrev pub units_of : (Lock → Bool) → List Lock → List unit.Unit
units_of test locks = map (λ held. held.unit) (filter test locks)

-- a unit is known that is not younger than this birth
abbrev pub IsAsOld : Option unit.Unit → ℕ → Type 0
IsAsOld known birth = IsSomeAnd known (λ own. own.birth ≤ birth)

-- What a search knows once it has seen some more numbers: a unit of a lock that passes the test, none younger than the
-- one known before, and none younger than that of a lock that was seen and passes.
pub record Searched (test : Lock → Bool) (locks : BTreeMap ℕ Lock) (known found : Option unit.Unit) (Seen : ℕ → Type 0) : Type 0 where
  pub among : IfSome known (Contains (units_of test (values locks))) → IfSome found (Contains (units_of test (values locks)))
  pub stays : (birth : ℕ) → IsAsOld known birth → IsAsOld found birth
  pub sees : (n : ℕ) (held : Lock) → Seen n → get nat_cmp locks n ≡ Some held → test held ≡ true → IsAsOld found held.unit.birth

-- the numbers of all entries of an index
abbrev pub numbers_of : {K : Type 0} → List (K × Vec ℕ) → List ℕ
numbers_of entries = flat_map (λ e. e.1.items) entries
