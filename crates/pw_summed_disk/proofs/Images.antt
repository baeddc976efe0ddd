-- The images of a summed disk come of those of the disk below.
use Rattle.std.proofs.Common.{◌≡◌, ℕ, true, false, List, length, refl, sym, ◌∙◌, ap, subst}
use Rattle.pw_volume.specs.Crash.{Only, Torn, written}
use Rattle.pw_summed_disk.specs.Plans.{IsPlan, bytes_below}
use Rattle.pw_summed_disk.specs.Summed.{AreWhole, IsReadImage, KeepsSummed, content}
use Rattle.pw_summed_disk.specs.declared.plan.DiskStanding.{DiskStanding}
use Rattle.pw_summed_disk.specs.declared.plan.PlannedWrite.{PlannedWrite}
use Rattle.pw_summed_disk.proofs.Files.{file_content}
use Rattle.pw_summed_disk.proofs.Plans.{IsLeft, plan_left, plan_made}

-- a step that may be lost
pub stays : (Step : List ℕ → List ℕ → Type 0) → ((all : List ℕ) → Step all all) → (may_leave : List ℕ → Type 0) (image : List ℕ) → IsReadImage may_leave image
    → (before : List ℕ) × IsReadImage may_leave before × Step before image
stays Step lost may_leave image there = (image, there, lost image)

-- a step below of a disk that is synced
module _ (Below Step : List ℕ → List ℕ → Type 0) (may_leave now : List ℕ → Type 0) (bytes below : List ℕ) (is : content below ≡ bytes) (only : Only below may_leave)
    (comes : (image : List ℕ) → now image → (before : List ℕ) × may_leave before × Below before image) (leaves : (image : List ℕ) → Below below image → IsLeft Step bytes image) where
  left_by : (image : List ℕ) → now image → IsLeft Step bytes image
  left_by image there =
      let p = comes image there in
      leaves image (subst (λ (l : List ℕ). Below l image) (only p.0 p.1) p.2)

  pub step_whole : AreWhole now
  step_whole image there = (left_by image there).whole

  pub step_images : (image : List ℕ) → IsReadImage now image → (before : List ℕ) × IsReadImage may_leave before × Step before image
  step_images image there =
      let p = comes there.below there.may in
      (bytes, record { below = p.0; may = p.1; is = sym (ap content (only p.0 p.1) ∙ is) }, subst (λ (l : List ℕ). Step bytes l) (sym there.is) (left_by there.below there.may).step)

-- a write below that was planned
module _ (standing : DiskStanding) (bytes below : List ℕ) (may_leave now : List ℕ → Type 0) (k : KeepsSummed true standing bytes below may_leave) (at : ℕ) (piece own : List ℕ)
    (planned : PlannedWrite) (p : IsPlan standing (length bytes) at piece planned) (own_is : own ≡ bytes_below planned.below)
    (comes : (image : List ℕ) → now image → (before : List ℕ) × may_leave before × Torn planned.place (length own) before image) where
  is : content below ≡ bytes
  is = file_content standing.gate standing.end bytes below k.file

  leaves : (image : List ℕ) → Torn planned.place (length own) below image → IsLeft (Torn at (length piece)) bytes image
  leaves image torn =
      plan_left standing bytes below may_leave k at piece planned p image (subst (λ (l : List ℕ). Torn planned.place (length l) below image) own_is torn)

  pub written_whole : AreWhole now
  written_whole = step_whole (Torn planned.place (length own)) (Torn at (length piece)) may_leave now bytes below is (k.synced refl) comes leaves

  pub written_images : (image : List ℕ) → IsReadImage now image → (before : List ℕ) × IsReadImage may_leave before × Torn at (length piece) before image
  written_images = step_images (Torn planned.place (length own)) (Torn at (length piece)) may_leave now bytes below is (k.synced refl) comes leaves

  pub written_keeps : (next after : List ℕ) (leave : List ℕ → Type 0) → next ≡ written planned.place own below → after ≡ written at piece bytes → KeepsSummed false planned.next after next leave
  written_keeps next after leave next_is after_is =
      plan_made standing bytes below may_leave k at piece planned p next after leave (next_is ∙ ap (λ (l : List ℕ). written planned.place l below) own_is) after_is

  pub written_is : (next after : List ℕ) → next ≡ written planned.place own below → after ≡ written at piece bytes → content next ≡ written at piece (content below)
  written_is next after next_is after_is =
      let made = written_keeps next after may_leave next_is after_is in
      file_content planned.next.gate planned.next.end after next made.file ∙ after_is ∙ ap (written at piece) (sym is)
