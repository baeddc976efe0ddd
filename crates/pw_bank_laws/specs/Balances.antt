-- The sum of a bank's balances, and what a posting adds to it.
use Rattle.std.specs.Prelude.{ℕ, Bool, ◌==◌, ◌&&◌, List, take, drop, codes, bytes_eq, ℤ, pos, ◌+ℤ◌, if◌then◌else◌}
use Rattle.pw_invariants.specs.Requests.{RepliedRequest}
use Rattle.pw_invariants.specs.Units.{FileRecords}
use Rattle.pw_number.specs.Sign.{signed}
use Rattle.pw_picture.specs.Stored.{value_of}
use Rattle.pw_picture.specs.Symbols.{begins_with}
use Rattle.pw_picture.specs.Text.{fitted}
use Rattle.pw_program_laws.specs.Totals.{total_of}

-- the balance in a record of ACCOUNTS, in cents: nine digits behind the number and the owner of the account
abbrev pub balance_in : List ℕ → ℕ
balance_in account = value_of 0 (take 9 (drop 15 (fitted 27 account)))

-- the sum of all balances
abbrev pub sum_of_balances : FileRecords → ℤ
sum_of_balances records = pos (total_of balance_in (records 0))

-- the amount of a message to ACCOUNT-P, in cents: a sign and seven digits behind its first nine characters
abbrev pub amount_in : List ℕ → ℤ
amount_in message =
    let chars = take 8 (drop 9 (fitted 17 message)) in
    signed (begins_with 45 chars) (value_of 0 (drop 1 chars))

-- the request posted its amount: it was a "P" to ACCOUNT-P, and the reply's code is 0
abbrev pub is_posting : RepliedRequest → Bool
is_posting request =
    request.class == 0 && (bytes_eq (take 1 request.message) (codes "P") && bytes_eq (take 4 request.reply) (codes "0000"))

-- the sum of the balances behind a request
abbrev pub posted : ℤ → RepliedRequest → ℤ
posted sum request = if is_posting request then sum +ℤ amount_in request.message else sum
