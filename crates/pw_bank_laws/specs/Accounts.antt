-- The form of the records of ACCOUNTS.
use Rattle.std.specs.Prelude.{◌≡◌, ℕ, true, List, length, drop, All}
use Rattle.std.specs.Char.{is_ascii_digit}
use Rattle.std.specs.List.{list_all}
use Rattle.pw_invariants.specs.Units.{FileRecords}

-- 27 characters, of which those behind the number and the owner, the balance and the number of lines, are digits
pub record IsAccount (content : List ℕ) : Type 0 where
  pub long : length content ≡ 27
  pub digits : list_all is_ascii_digit (drop 15 content) ≡ true

-- each record of ACCOUNTS has this form
abbrev pub AreAccounts : FileRecords → Type 0
AreAccounts records = All IsAccount (records 0)
