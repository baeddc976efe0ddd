-- A prefix of units that are put behind others.
use Rattle.std.proofs.Common.{◌≡◌, ◌⊎◌, inl, inr, ℕ, ◌+◌, ◌<◌, ◌≤◌, List, [], ◌∷◌, ◌++◌, length, take, get_or, refl, sym, ◌∙◌, ap, arith, append_assoc}
use Rattle.std.specs.Prelude.{Result, Ok, Err}
use Rattle.std.proofs.lemmas.List.{append-nil, take_more}
use Rattle.pw_code.specs.declared.file.FileInfo.{FileInfo}
use Rattle.pw_trail.specs.Format.{units_in, with_last, with_units}
use Rattle.pw_trail.specs.Stored.{HasPrefix}
use Rattle.pw_trail.specs.declared.changes.UnitChanges.{UnitChanges}

last_behind : (before : Result (List UnitChanges) ℕ) (more : List UnitChanges) (unit : UnitChanges) → with_last (with_units before more) unit ≡ with_units before (more ++ unit ∷ [])
last_behind (Ok units) more unit = ap Ok (append_assoc units more (unit ∷ []))
last_behind (Err place) more unit = refl

-- none yet
pub none_more : (before : Result (List UnitChanges) ℕ) → before ≡ with_units before []
none_more (Ok units) = ap Ok (sym (append-nil units))
none_more (Err place) = refl

module _ (before : Result (List UnitChanges) ℕ) (units : List UnitChanges) (i : ℕ) (unit : UnitChanges) (lt : i < length units) (is : unit ≡ get_or units i unit) where
  -- the next one
  pub next_more : (now : Result (List UnitChanges) ℕ) → now ≡ with_units before (take i units) → with_last now unit ≡ with_units before (take (i + 1) units)
  next_more now so_far =
      ap (λ r. with_last r unit) so_far ∙ last_behind before (take i units) unit
      ∙ ap (with_units before) (ap (λ y. take i units ++ y ∷ []) is ∙ sym (take_more units i unit lt))

  -- an image has those so far, or the next one too
  pub prefix_or_more : (files : List FileInfo) (now : Result (List UnitChanges) ℕ) (image : List ℕ) → now ≡ with_units before (take i units)
      → (units_in files image ≡ now) ⊎ (units_in files image ≡ with_last now unit) → HasPrefix files before units i image
  prefix_or_more files now image so_far (inl same) = record { count = i; all = omega arith; few = omega arith; within = omega arith; is = same ∙ so_far }
  prefix_or_more files now image so_far (inr more) = record { count = i + 1; all = omega arith; few = omega arith; within = omega arith; is = more ∙ next_more now so_far }

-- an image has those so far
pub prefix_same : (files : List FileInfo) (before : Result (List UnitChanges) ℕ) (units : List UnitChanges) (i : ℕ) (image : List ℕ) → i ≤ length units
    → units_in files image ≡ with_units before (take i units) → HasPrefix files before units i image
prefix_same files before units i image le is = record { count = i; all = omega arith; few = omega arith; within = le; is = is }
