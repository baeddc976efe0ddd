-- The lane that is taken is the first on which a task waits.
use Rattle.std.proofs.Common.{◌≡◌, ◌<◌, ◌∙◌, ℕ, List, length, Option, Some, None, IsSome, true, position, slice_index_or, subst, sym}
use Rattle.std.proofs.lemmas.List.Quantifiers.{position-Some}
use Rattle.pw_workers.specs.Places.{waits_at}
use Rattle.pw_workers.specs.declared.lane.LinkLane.{LinkLane}

-- a task waits on what is in its place
waits : (lanes : List (Option LinkLane)) (p : ℕ) (d taken other : Option LinkLane) → position waits_at lanes ≡ Some p
    → taken ≡ slice_index_or lanes p d → taken ≡ other → waits_at other ≡ true
waits lanes p d taken other first is same =
    subst (λ (lane : Option LinkLane). waits_at lane ≡ true) (sym is ∙ same) (position-Some waits_at lanes p d first).1

-- so there is one
pub not_gone : (lanes : List (Option LinkLane)) (p : ℕ) (d taken : Option LinkLane) → position waits_at lanes ≡ Some p
    → taken ≡ slice_index_or lanes p d → taken ≡ None → ⊥
not_gone lanes p d taken first is none =
    let gone : waits_at None ≡ true = waits lanes p d taken None first is none in cc

-- it is that of a pair, and a task waits on it
pub waiting : (lanes : List (Option LinkLane)) (p : ℕ) (d taken : Option LinkLane) (lane : LinkLane)
    → position waits_at lanes ≡ Some p → taken ≡ slice_index_or lanes p d → taken ≡ Some lane
    → (p < length lanes) × IsSome lane.waiting
waiting lanes p d taken lane first is some =
    ((position-Some waits_at lanes p d first).0, waits lanes p d taken (Some lane) first is some)
