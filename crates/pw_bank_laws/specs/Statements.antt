-- What the lines of the bank's statements tell of an account.
use Rattle.std.specs.Prelude.{ℕ, List, [], ◌∷◌, take, drop, bytes_eq, ℤ, pos, ◌+ℤ◌, ◌-ℤ◌, if◌then◌else◌}
use Rattle.pw_bank_laws.specs.Balances.{balance_in}
use Rattle.pw_files.specs.Records.{record_at}
use Rattle.pw_invariants.specs.Units.{FileRecords}
use Rattle.pw_number.specs.Sign.{signed}
use Rattle.pw_picture.specs.Stored.{value_of}
use Rattle.pw_picture.specs.Symbols.{begins_with}
use Rattle.pw_program_laws.specs.Totals.{counted_of}

-- the balance of an account, and 0 where there is none
abbrev pub balance_of : List ℕ → FileRecords → ℤ
balance_of account records = pos (counted_of balance_in (record_at 4 (records 0) account))

-- the amount in a line: a sign and seven digits behind its first eleven characters
abbrev pub amount_told : List ℕ → ℤ
amount_told line =
    let chars = take 8 (drop 11 line) in
    signed (begins_with 45 chars) (value_of 0 (drop 1 chars))

-- the sum of the amounts in the lines of an account, which begin with its number
abbrev pub amounts_told : List ℕ → List (List ℕ) → ℤ
amounts_told account [] = pos 0
amounts_told account (line ∷ lines) =
    if bytes_eq (take 4 line) account then amount_told line +ℤ amounts_told account lines
    else amounts_told account lines

-- what of an account's balance its statement does not tell
abbrev pub untold : List ℕ → FileRecords → ℤ
untold account records = balance_of account records -ℤ amounts_told account (records 1)
