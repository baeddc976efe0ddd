-- The votes of a transaction at its home.
use Rattle.std.specs.Prelude.{ℕ, ◌==◌, List, not, filter}

-- the other systems, in the order of the start, and those of them whose vote is missing
pub record Ballot : Type 0 where
  pub others : List ℕ
  pub missing : List ℕ

-- those whose vote is still missing when this system has voted
abbrev pub still_missing : ℕ → Ballot → List ℕ
still_missing system ballot = filter (λ other. not (other == system)) ballot.missing
