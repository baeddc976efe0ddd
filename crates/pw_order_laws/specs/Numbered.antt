-- Orders that are numbered without a gap.
use Rattle.std.specs.Prelude.{◌≡◌, ℕ, ◌≤◌, true, List, take, drop, codes}
use Rattle.pw_files.specs.Records.{has_key, record_at}
use Rattle.pw_invariants.specs.Units.{FileRecords}
use Rattle.pw_picture.specs.Stored.{digits_of, value_of}
use Rattle.pw_picture.specs.Text.{fitted}
use Rattle.pw_program_laws.specs.Totals.{counted_of}

-- the number in a record of CONTROL: four digits behind its key
abbrev pub number_in_control : List ℕ → ℕ
number_in_control control = value_of 0 (take 4 (drop 4 (fitted 8 control)))

-- the last number of an order, and 0 where CONTROL does not say
abbrev pub last_number : FileRecords → ℕ
last_number records = counted_of number_in_control (record_at 4 (records 1) (codes "LAST"))

-- each number up to the last one is the key of an order, and no other key is
pub record IsNumbered (records : FileRecords) : Type 0 where
  pub each : (n : ℕ) → 1 ≤ n → n ≤ last_number records → has_key 4 (records 2) (digits_of 4 n) ≡ true
  pub no_other : (key : List ℕ) → has_key 4 (records 2) key ≡ true
      → (n : ℕ) × (1 ≤ n) × (n ≤ last_number records) × (key ≡ digits_of 4 n)
