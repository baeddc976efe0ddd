-- Spots that are taken one after the other.
use Rattle.std.proofs.Common.{◌≡◌, List, [], ◌∷◌, ◌++◌, Option, Some, None, refl, ap, append_assoc}
use Rattle.pw_code_meaning.specs.Reading.{Spot, one_more}

-- some spots in front of others, if there are any
abbrev pub in_front : List Spot → Option (List Spot) → Option (List Spot)
in_front front None = None
in_front front (Some rest) = Some (front ++ rest)

pub in_front-one : (front : List Spot) (spot : Spot) (rest : Option (List Spot)) → in_front (front ++ spot ∷ []) rest ≡ in_front front (one_more (Some spot) rest)
in_front-one front spot None = refl
in_front-one front spot (Some rest) = ap (λ l. Some l) (append_assoc front (spot ∷ []) rest)
