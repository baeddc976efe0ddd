-- The names of few.
use Rattle.std.proofs.Common.{◌≡◌, ℕ, List, [], ◌∷◌, false}
use Rattle.std.specs.List.{IsDistinct}
use Rattle.std.specs.Str.{bytes_eq}
use Rattle.std.proofs.lemmas.List.Elements.{All-nil, All-cons}
use Rattle.pw_code.specs.Names.{IsName, AreNames}

-- none are names
pub AreNames-none : AreNames []
unfolding IsDistinct
AreNames-none = record { each = All-nil IsName; distinct = tt }

-- a name alone is the name of one kind
pub AreNames-one : (name : List ℕ) → IsName name → AreNames (name ∷ [])
unfolding IsDistinct
AreNames-one name is = record { each = All-cons IsName name [] is (All-nil IsName); distinct = (tt, tt) }

-- two names that differ
pub AreNames-two : (one other : List ℕ) → IsName one → IsName other → bytes_eq one other ≡ false → AreNames (one ∷ other ∷ [])
unfolding IsDistinct
AreNames-two one other is_one is_other apart = record {
  each = All-cons IsName one (other ∷ []) is_one (All-cons IsName other [] is_other (All-nil IsName));
  distinct = ((apart, tt), (tt, tt));
}
