-- The committed records that a world's disc tells are those of its paired state, and so is their list by files.
use Rattle.std.proofs.Common.{◌≡◌, ℕ, ◌+◌, ◌<◌, ◌≤◌, ⊎_elim, Bool, true, false, cond, List, [], ◌∷◌, ◌++◌, length, Option, Some, None, refl, ap, ◌∙◌, arith}
use Rattle.std.proofs.Math.ListN.{get_or, get_or-append}
use Rattle.std.proofs.Math.Seq.{get_or-append_seam}
use Rattle.std.proofs.lemmas.Bool.{cases_lt}
use Rattle.std.proofs.lemmas.List.Elements.{All-from_recursion}
use Rattle.std.specs.Prelude.{All}
use Rattle.std.specs.List.{AllByRecursion}
use Rattle.pw_world_state.specs.Members.{KnowsAll}
use Rattle.pw_report_text.specs.Listing.{records_in}
use Rattle.pw_onecopy.specs.Behaviour.{Behaviour}
use Rattle.pw_paired.specs.State.{BeforeImage, OpenUnit, State}
use Rattle.pw_paired.specs.Units.{attempt_of, only}
use Rattle.pw_tmf.proofs.Telling.{only-same}
use Rattle.pw_tmf.specs.Tells.{Tells, images_by}
use Rattle.pw_tmf.specs.Told.{Told}

-- no attempt runs of a unit that is not open
no-attempt : (unit : Option OpenUnit) → ((own : OpenUnit) → unit ≡ Some own → ⊥) → attempt_of unit ≡ None
no-attempt None none = refl
no-attempt (Some own) none = absurd (none own refl)

-- what is left out or not leaves nothing, so the others are none
others-none : (b : Bool) (image : BeforeImage) (images : List BeforeImage) → cond b (image ∷ images) images ≡ [] → images ≡ []
others-none true image images is = absurd (cc)
others-none false image images is = is

-- the terminals from n on have no before-images
all-below : (n : ℕ) (before : List BeforeImage) → ((t : ℕ) → n ≤ t → images_by t before ≡ []) → AllByRecursion (λ image. image.terminal < n) before
all-below n [] none = tt
all-below n (image ∷ before) none = (
  ⊎_elim (λ low. low)
      (λ past.
      let is : image ∷ images_by image.terminal before ≡ [] = rw (only-same image.terminal) at (none image.terminal past) in
      absurd (cc))
      (cases_lt image.terminal n),
  all-below n before (λ t past. others-none (only t image.terminal) image (images_by t before) (none t past)),
)

pub images-there : (sys : Behaviour) (state : State) (told : Told) → Tells sys state told → KnowsAll sys state → told.terminals ≡ sys.terminals
    → All (λ image. image.terminal < told.terminals) state.before
images-there sys state told tells knows same =
    All-from_recursion (λ image. image.terminal < told.terminals) state.before
    (all-below told.terminals state.before
    (λ t past. tells.idle t (no-attempt (state.units t)
    (λ own is. let low : t < sys.terminals = knows.units t own is in omega arith))))

-- the records of one file more
pub filed : (files : List (List (List ℕ))) (records : List (List ℕ)) (n : ℕ) (of_file : ℕ → List (List ℕ)) → length files ≡ n
    → ((f : ℕ) → f < n → records_in files f ≡ of_file f) → records ≡ of_file n
    → (f : ℕ) → f < n + 1 → records_in (files ++ records ∷ []) f ≡ of_file f
filed files records n of_file count before is f low =
    ⊎_elim (λ first. get_or-append files (records ∷ []) [] f (omega arith) ∙ before f first)
    (λ last.
    let at : f ≡ length files = omega arith in
    let own : n ≡ f = omega arith in
    ap (λ i. get_or (files ++ records ∷ []) i []) at ∙ (get_or-append_seam files records [] [] ∙ (is ∙ ap of_file own)))
    (cases_lt f n)
