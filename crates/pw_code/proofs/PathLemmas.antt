-- A path with one more answer.
use Rattle.std.proofs.Common.{◌≡◌, ◌+◌, List, [], ◌∷◌, ◌++◌, refl, ap}
use Rattle.pw_code.specs.declared.verb.Answer.{Answer}
use Rattle.pw_code.specs.declared.verb.Answer.TheVariants.{Shown}
use Rattle.pw_code.specs.Path.{refreshes_on}

-- Shown counts one
pub refreshes_on-push : (path : List Answer) → refreshes_on (path ++ Shown ∷ []) ≡ refreshes_on path + 1
refreshes_on-push [] = refl
refreshes_on-push (Shown ∷ path) = ap (λ n. n + 1) (refreshes_on-push path)
refreshes_on-push (_ ∷ path) = refreshes_on-push path
