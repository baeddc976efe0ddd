-- What a followed log keeps at a flush.
use Rattle.std.proofs.Common.{◌≡◌, ◌∙◌, ℕ, List, ◌++◌, ap}
use Rattle.std.proofs.lemmas.List.{map-append}
use Rattle.pw_group_commit.specs.Followed.{AreLastOf, IsFollowed, name_of, names_of}
use Rattle.pw_group_commit.specs.Grouped.{GroupState, added_units, settled_units, waiting_units}
use Rattle.pw_group_commit.specs.declared.follower.UnitName.{UnitName}
use Rattle.pw_trail.specs.declared.changes.UnitChanges.{UnitChanges}

-- what waited is the last that is settled
pub ends-with : {S F : Type 0} (settled : S → List ℕ) (before : List UnitChanges) (was_told : F → List UnitName → Type 0)
    (old new : GroupState S) (waiting : List UnitName) (follower : F) → IsFollowed settled before was_told old waiting follower
    → settled_units settled before new ≡ added_units settled before old → AreLastOf (settled_units settled before new) waiting
ends-with settled before was_told old new waiting follower kept is = record {
  front = names_of (settled_units settled before old);
  is =
      ap names_of is ∙ map-append name_of (settled_units settled before old) (waiting_units old)
      ∙ ap (λ (l : List UnitName). names_of (settled_units settled before old) ++ l) kept.waits;
}
