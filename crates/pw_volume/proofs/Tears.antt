-- What was written or kept is one of the images that the model allows.
use Rattle.std.proofs.Common.{◌≡◌, ◌⊎◌, inl, inr, ⊎_elim, ℕ, ◌+◌, ◌-◌, min, List, [], ◌++◌, length, take, drop, refl, sym, ◌∙◌, ap, arith}
use Rattle.std.proofs.lemmas.Bool.{cases_lt}
use Rattle.std.proofs.lemmas.List.{append-nil, length-take, length-drop, take-append-drop, drop-drop, drop_all}
use Rattle.pw_volume.specs.Crash.{written, Torn, Shortened}
use Rattle.pw_volume.specs.MemDisk.{MemDiskState, MayLeave}

-- a write may be lost
pub lost : (at n : ℕ) (bytes : List ℕ) → Torn at n bytes bytes
lost at n bytes = record {
  middle = take n (drop at bytes);
  tail = [];
  size = length-take n (drop at bytes) ∙ ap (min n) (length-drop at bytes);
  is =
      sym (take-append-drop at bytes)
      ∙ ap (λ (l : List ℕ). take at bytes ++ l) (sym (take-append-drop n (drop at bytes)))
      ∙ ap (λ (l : List ℕ). take at bytes ++ (take n (drop at bytes) ++ l)) (drop-drop n at bytes ∙ sym (append-nil (drop (at + n) bytes)));
}

-- or it may be there
pub made : (at : ℕ) (piece bytes : List ℕ) → Torn at (length piece) bytes (written at piece bytes)
made at piece bytes =
    let room = length bytes - at in
    let past : drop (at + length piece) bytes ≡ [] ⊎ drop room piece ≡ [] = elim (cases_lt room (length piece)) [
      | inl over ↦ inl (drop_all (at + length piece) bytes (omega arith))
      | inr within ↦ inr (drop_all room piece within)
    ] in
    record {
      middle = take room piece;
      tail = drop room piece;
      size = length-take room piece ∙ omega arith;
      is = ap (λ (l : List ℕ). take at bytes ++ l) (⊎_elim
          (λ (none : drop (at + length piece) bytes ≡ []). rw none (append-nil piece ∙ sym (take-append-drop room piece)))
          (λ (none : drop room piece ≡ []). ap (λ (l : List ℕ). l ++ drop (at + length piece) bytes) (sym (take-append-drop room piece) ∙ ap (λ (l : List ℕ). take room piece ++ l) none ∙ append-nil (take room piece)) ∙ ap (λ (l : List ℕ). take room piece ++ l) (sym (append-nil (drop (at + length piece) bytes)) ∙ ap (λ (l : List ℕ). drop (at + length piece) bytes ++ l) (sym none)))
          past);
    }

pub uncut : (n : ℕ) (bytes : List ℕ) → Shortened n bytes bytes
uncut n bytes = record { tail = drop n bytes; is = sym (take-append-drop n bytes) }

pub cut : (n : ℕ) (bytes : List ℕ) → Shortened n bytes (take n bytes)
cut n bytes = record { tail = []; is = sym (append-nil (take n bytes)) }

-- a step to new bytes, where what was synced stays
pub follows : (Step : List ℕ → List ℕ → Type 0) (old : MemDiskState) (bytes synced : List ℕ) → ((all : List ℕ) → Step all all) → Step old.bytes bytes → synced ≡ old.synced
    → (image : List ℕ) → (image ≡ bytes) ⊎ (image ≡ synced) → (before : List ℕ) × MayLeave old before × Step before image
follows Step old bytes synced stay step same image (inl now) = (old.bytes, inl refl, rw now step)
follows Step old bytes synced stay step same image (inr then) = (old.synced, inr refl, rw (then ∙ same) (stay old.synced))

-- the bytes as they were, or after a write or a cut
pub write_lost : (at n : ℕ) (old : MemDiskState) (bytes synced : List ℕ) → bytes ≡ old.bytes → synced ≡ old.synced
    → (image : List ℕ) → (image ≡ bytes) ⊎ (image ≡ synced) → (before : List ℕ) × MayLeave old before × Torn at n before image
write_lost at n old bytes synced is same = follows (Torn at n) old bytes synced (lost at n) (rw is (lost at n old.bytes)) same

pub write_made : (at : ℕ) (piece : List ℕ) (old : MemDiskState) (bytes synced : List ℕ) → bytes ≡ written at piece old.bytes → synced ≡ old.synced
    → (image : List ℕ) → (image ≡ bytes) ⊎ (image ≡ synced) → (before : List ℕ) × MayLeave old before × Torn at (length piece) before image
write_made at piece old bytes synced is same = follows (Torn at (length piece)) old bytes synced (lost at (length piece)) (rw is (made at piece old.bytes)) same

pub cut_lost : (n : ℕ) (old : MemDiskState) (bytes synced : List ℕ) → bytes ≡ old.bytes → synced ≡ old.synced
    → (image : List ℕ) → (image ≡ bytes) ⊎ (image ≡ synced) → (before : List ℕ) × MayLeave old before × Shortened n before image
cut_lost n old bytes synced is same = follows (Shortened n) old bytes synced (uncut n) (rw is (uncut n old.bytes)) same

pub cut_made : (n : ℕ) (old : MemDiskState) (bytes synced : List ℕ) → bytes ≡ take n old.bytes → synced ≡ old.synced
    → (image : List ℕ) → (image ≡ bytes) ⊎ (image ≡ synced) → (before : List ℕ) × MayLeave old before × Shortened n before image
cut_made n old bytes synced is same = follows (Shortened n) old bytes synced (uncut n) (rw is (cut n old.bytes)) same
