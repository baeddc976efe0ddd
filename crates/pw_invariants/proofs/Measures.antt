-- What is measured of the records, by the steps of the units that have committed.
use Rattle.std.proofs.Common.{◌≡◌, List, [], ◌∷◌, ◌++◌, refl, ap, sym, ◌∙◌}
use Rattle.pw_invariants.specs.Invariants.{KeepsHistory, KeepsInvariant, StepsBy, stepped}
use Rattle.pw_invariants.specs.Units.{CommittedUnit, FileRecords}
use Rattle.pw_onecopy.specs.Behaviour.{Behaviour}

-- one step more
stepped-more : {A B : Type 0} (step : A → B → A) (value : A) (done : List B) (one : B) → stepped step value (done ++ one ∷ []) ≡ step (stepped step value done) one
stepped-more step value [] one = refl
stepped-more step value (first ∷ done) one = stepped-more step (step value first) done one

-- the steps of two lists
pub stepped-append : {A B : Type 0} (step : A → B → A) (value : A) (first more : List B) → stepped step value (first ++ more) ≡ stepped step (stepped step value first) more
stepped-append step value [] more = refl
stepped-append step value (one ∷ first) more = stepped-append step (step value one) first more

module _ {A : Type 0} (sys : Behaviour) (holds : FileRecords → Type 0) (measure : FileRecords → A) (step : A → CommittedUnit → A) (value : A) where
  -- the records meet the invariant, and measure what the steps of the units so far have made of the value
  pub record HasStepped (done : List CommittedUnit) (records : FileRecords) : Type 0 where
    pub meet : holds records
    pub measured : measure records ≡ stepped step value done

  -- each unit alone keeps that
  pub steps-kept : KeepsInvariant sys holds → StepsBy sys holds measure step → KeepsHistory sys HasStepped
  steps-kept keeps steps done unit records left runs now = record {
    meet = keeps unit records left runs now.meet;
    measured =
        steps unit records left runs now.meet
        ∙ (ap (λ (a : A). step a unit) now.measured ∙ sym (stepped-more step value done unit));
  }
