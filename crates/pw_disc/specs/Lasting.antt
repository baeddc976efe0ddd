-- A disc pair that its script cannot lose.
use Rattle.std.specs.Prelude.{◌≡◌, ◌≢◌, false}
use Rattle.pw_disc.specs.Lines.{may_lose}
use Rattle.pw_disc.specs.Pair.{PairState}
use Rattle.pw_disc.specs.declared.standing.DiscPairState.TheVariants.{Lost}

-- a member is there, the lines that are left lose no pair, and no call has failed
pub record IsLasting (pair : PairState) : Type 0 where
  pub stands : pair.standing ≢ Lost
  pub lines : may_lose pair.lines ≡ false
  pub sound : pair.told.faults ≡ 0
