-- Invariants of an application: of its records, and of its records beside the units that have committed.
use Rattle.std.specs.Prelude.{◌≡◌, List, [], ◌∷◌, ◌++◌}
use Rattle.pw_invariants.specs.Units.{CommittedUnit, FileRecords, RunsAlone}
use Rattle.pw_onecopy.specs.Behaviour.{Behaviour}

-- each unit that runs alone from records that meet it, and commits, leaves records that meet it
abbrev pub KeepsInvariant : Behaviour → (FileRecords → Type 0) → Type 0
KeepsInvariant sys holds =
    (unit : CommittedUnit) (records left : FileRecords) → RunsAlone sys unit records left
    → holds records → holds left

-- the same of records beside the units that have committed so far, in their order: the unit is then the last of them
abbrev pub KeepsHistory : Behaviour → (List CommittedUnit → FileRecords → Type 0) → Type 0
KeepsHistory sys holds =
    (done : List CommittedUnit) (unit : CommittedUnit) (records left : FileRecords)
    → RunsAlone sys unit records left → holds done records → holds (done ++ unit ∷ []) left

-- what is measured of records that meet the invariant changes by a unit's step where the unit runs alone and commits
abbrev pub StepsBy : {A : Type 0} → Behaviour → (FileRecords → Type 0) → (FileRecords → A)
    → (A → CommittedUnit → A) → Type 0
StepsBy sys holds measure step =
    (unit : CommittedUnit) (records left : FileRecords) → RunsAlone sys unit records left
    → holds records → measure left ≡ step (measure records) unit

-- a value behind the steps of a list
abbrev pub stepped : {A B : Type 0} → (A → B → A) → A → List B → A
stepped step value [] = value
stepped step value (one ∷ rest) = stepped step (step value one) rest
