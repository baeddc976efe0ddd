-- What the calls of a disk over a file leave of its images.
use Rattle.std.proofs.Common.{◌≡◌, ◌⊎◌, inl, inr, ℕ, Option, None, List, length, take, refl, ◌∙◌, subst}
use Rattle.pw_volume.proofs.Tears.{cut, lost as torn_lost, made as torn_made, uncut}
use Rattle.pw_volume.specs.Crash.{written, Torn, Shortened}
use Rattle.pw_file_disk.specs.FileDisk.{FileDiskState, MayMake, MayHaveMade, MayBeLeft}
use Rattle.pw_file_disk.specs.declared.change.OpenChange.{OpenChange}
use Rattle.pw_file_disk.specs.declared.change.OpenChange.TheVariants.{Wrote, Cut}

-- any change may be lost
lost : (change : OpenChange) (bytes : List ℕ) → MayMake change bytes bytes
lost (Wrote at n) bytes = torn_lost at n bytes
lost (Cut n) bytes = uncut n bytes

-- the images of a disk with the same bytes and the same open change are among the old ones
stays : (old : FileDiskState) (bytes settled synced : List ℕ) (change : Option OpenChange) → bytes ≡ old.bytes → settled ≡ old.settled → synced ≡ old.synced → change ≡ old.change
    → (image : List ℕ) → (image ≡ bytes) ⊎ (image ≡ settled) ⊎ MayHaveMade change synced image → MayBeLeft old image
stays old bytes settled synced change same same_settled same_synced same_change image (inl it) = inl (it ∙ same)
stays old bytes settled synced change same same_settled same_synced same_change image (inr (inl it)) = inr (inl (it ∙ same_settled))
stays old bytes settled synced change same same_settled same_synced same_change image (inr (inr it)) =
    inr (inr (subst (λ (s : List ℕ). MayHaveMade old.change s image) same_synced (subst (λ (c : Option OpenChange). MayHaveMade c synced image) same_change it)))

-- so are those of one with the same bytes and no open change
closes : (old : FileDiskState) (bytes settled synced : List ℕ) (change : Option OpenChange) → bytes ≡ old.bytes → settled ≡ old.settled → change ≡ None
    → (image : List ℕ) → (image ≡ bytes) ⊎ (image ≡ settled) ⊎ MayHaveMade change synced image → MayBeLeft old image
closes old bytes settled synced change same same_settled none image (inl it) = inl (it ∙ same)
closes old bytes settled synced change same same_settled none image (inr (inl it)) = inr (inl (it ∙ same_settled))
closes old bytes settled synced change same same_settled none image (inr (inr it)) = absurd (subst (λ (c : Option OpenChange). MayHaveMade c synced image) none it)

-- behind a change each image comes of an old one by it, made or lost
made : (step : OpenChange) (old : FileDiskState) (bytes settled synced : List ℕ) → MayMake step old.bytes bytes → settled ≡ old.settled → synced ≡ old.bytes
    → (image : List ℕ) → (image ≡ bytes) ⊎ (image ≡ settled) ⊎ MayMake step synced image → (before : List ℕ) × MayBeLeft old before × MayMake step before image
made step old bytes settled synced makes same_settled closed image (inl it) = (old.bytes, inl refl, rw it makes)
made step old bytes settled synced makes same_settled closed image (inr (inl it)) = (old.settled, inr (inl refl), rw (it ∙ same_settled) (lost step old.settled))
made step old bytes settled synced makes same_settled closed image (inr (inr it)) = (old.bytes, inl refl, subst (λ (s : List ℕ). MayMake step s image) closed it)

-- ---- a write

pub write_stays : (at n : ℕ) (old : FileDiskState) (bytes settled synced : List ℕ) (change : Option OpenChange) → bytes ≡ old.bytes → settled ≡ old.settled → synced ≡ old.synced → change ≡ old.change
    → (image : List ℕ) → (image ≡ bytes) ⊎ (image ≡ settled) ⊎ MayHaveMade change synced image → (before : List ℕ) × MayBeLeft old before × Torn at n before image
write_stays at n old bytes settled synced change same same_settled same_synced same_change image it =
    (image, stays old bytes settled synced change same same_settled same_synced same_change image it, torn_lost at n image)

pub write_closes : (at n : ℕ) (old : FileDiskState) (bytes settled synced : List ℕ) (change : Option OpenChange) → bytes ≡ old.bytes → settled ≡ old.settled → change ≡ None
    → (image : List ℕ) → (image ≡ bytes) ⊎ (image ≡ settled) ⊎ MayHaveMade change synced image → (before : List ℕ) × MayBeLeft old before × Torn at n before image
write_closes at n old bytes settled synced change same same_settled none image it =
    (image, closes old bytes settled synced change same same_settled none image it, torn_lost at n image)

pub write_made : (at : ℕ) (piece : List ℕ) (old : FileDiskState) (bytes settled synced : List ℕ) → bytes ≡ written at piece old.bytes → settled ≡ old.settled → synced ≡ old.bytes
    → (image : List ℕ) → (image ≡ bytes) ⊎ (image ≡ settled) ⊎ Torn at (length piece) synced image → (before : List ℕ) × MayBeLeft old before × Torn at (length piece) before image
write_made at piece old bytes settled synced is = made (Wrote at (length piece)) old bytes settled synced (rw is (torn_made at piece old.bytes))

-- ---- a cut

pub cut_stays : (n : ℕ) (old : FileDiskState) (bytes settled synced : List ℕ) (change : Option OpenChange) → bytes ≡ old.bytes → settled ≡ old.settled → synced ≡ old.synced → change ≡ old.change
    → (image : List ℕ) → (image ≡ bytes) ⊎ (image ≡ settled) ⊎ MayHaveMade change synced image → (before : List ℕ) × MayBeLeft old before × Shortened n before image
cut_stays n old bytes settled synced change same same_settled same_synced same_change image it =
    (image, stays old bytes settled synced change same same_settled same_synced same_change image it, lost (Cut n) image)

pub cut_made : (n : ℕ) (old : FileDiskState) (bytes settled synced : List ℕ) → bytes ≡ take n old.bytes → settled ≡ old.settled → synced ≡ old.bytes
    → (image : List ℕ) → (image ≡ bytes) ⊎ (image ≡ settled) ⊎ Shortened n synced image → (before : List ℕ) × MayBeLeft old before × Shortened n before image
cut_made n old bytes settled synced is = made (Cut n) old bytes settled synced (rw is (cut n old.bytes))
