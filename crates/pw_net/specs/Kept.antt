-- A member's standings as they are kept: a restart writes none of them anew, but counts the votes
-- for all numbers begun before it as lost.
use Rattle.std.specs.Prelude.{ℕ, ◌≡◌, ◌≤◌, Bool, true, false, List, Option, Some, None, map, nat_le, if◌then◌else◌}
use Rattle.std.specs.List.{AllByRecursion}
use Rattle.pw_net.specs.declared.message.NetId.{NetId}
use Rattle.pw_net.specs.declared.standing.TransactionState.{TransactionState}
use Rattle.pw_net.specs.declared.standing.TransactionState.TheVariants.{Collecting, Prepared, Committed, Aborted}

-- what stands for a transaction of this number, where the votes for numbers up to one are lost
abbrev pub since : (lost number : ℕ) → TransactionState → TransactionState
since lost number (Collecting ballot) =
    if nat_le number lost then Aborted else Collecting ballot
since lost number Prepared = Prepared
since lost number Committed = Committed
since lost number Aborted = Aborted

-- the standings of a member whose votes for numbers up to one are lost
abbrev pub standings_now : ℕ → List (NetId × TransactionState) → List (NetId × TransactionState)
standings_now lost entries = map (λ entry. (entry.0, since lost entry.0.number entry.1)) entries

-- votes are collected
abbrev pub is_collecting : Option TransactionState → Bool
is_collecting (Some (Collecting ballot)) = true
is_collecting (Some Prepared) = false
is_collecting (Some Committed) = false
is_collecting (Some Aborted) = false
is_collecting None = false

-- votes are collected only for numbers up to the last one begun
abbrev pub AreBegun : ℕ → List (NetId × TransactionState) → Type 0
AreBegun last entries =
    AllByRecursion (λ entry. is_collecting (Some entry.1) ≡ true → entry.0.number ≤ last) entries

-- a change of a standing begins to collect no votes
abbrev pub OpensNone : Option TransactionState → Option TransactionState → Type 0
OpensNone old new = is_collecting new ≡ true → is_collecting old ≡ true
