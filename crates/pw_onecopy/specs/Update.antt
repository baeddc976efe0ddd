-- A function changed at one place.
use Rattle.std.specs.Prelude.{ℕ, cond, eqb}

-- a function changed at one place
unfoldable pub upd : {A : Type 0} → (ℕ → A) → ℕ → A → ℕ → A
upd f place value j = cond (eqb j place) value (f j)
