-- Before-images that are put back one after the other.
use Rattle.std.proofs.Common.{◌≡◌, ℕ, ◌∙◌, refl, sym, ap, subst, List, [], ◌∷◌, ◌++◌, length, drop, Some, None}
use Rattle.std.specs.Prelude.{slice_get}
use Rattle.std.proofs.lemmas.List.Elements.{All-head, All-tail}
use Rattle.pw_blocks.specs.Blocks.{BlocksState}
use Rattle.pw_onecopy.specs.Update.{upd}
use Rattle.pw_paired.specs.State.{BeforeImage}
use Rattle.pw_paired.specs.Units.{put_back, restored_files}
use Rattle.pw_tmf.specs.Tmf.{AreImages, IsImage, key_lengths, stored}

-- some of the images have been put back, and these are left
pub record IsDrained (files : List BlocksState) (images : List BeforeImage) (now : List BlocksState) (left : List BeforeImage) : Type 0 where
  pub keys : key_lengths now ≡ key_lengths files
  pub count : length now ≡ length files
  pub same : restored_files (key_lengths files) left (stored now) ≡ restored_files (key_lengths files) images (stored files)
  pub fit : AreImages (key_lengths files) (length files) left

-- nothing has been put back yet
pub drained-none : (files : List BlocksState) (images : List BeforeImage) → AreImages (key_lengths files) (length files) images → IsDrained files images files images
drained-none files images fit = record { keys = refl; count = refl; same = refl; fit = fit }

-- the first image that is left fits
pub first-fits : (files now : List BlocksState) (images left : List BeforeImage) (image : BeforeImage) → Some image ≡ slice_get left 0 → IsDrained files images now left
    → IsImage (key_lengths now) (length now) image
first-fits files now images [] image is d = absurd (cc is)
first-fits files now images (x ∷ left) image is d =
    let same : image ≡ x = cc is in
    subst (λ (i : BeforeImage). IsImage (key_lengths now) (length now) i) (sym same)
    (subst (λ n. IsImage (key_lengths now) n x) (sym d.count) (subst (λ (k : ℕ → ℕ). IsImage k (length files) x) (sym d.keys) (All-head (IsImage (key_lengths files) (length files)) x left d.fit)))

-- one more is put back
pub drained-more : (files now next : List BlocksState) (images left : List BeforeImage) (image : BeforeImage) → Some image ≡ slice_get left 0 → IsDrained files images now left
    → key_lengths next ≡ key_lengths now → length next ≡ length now
    → stored next ≡ upd (stored now) image.file (put_back (key_lengths now image.file) (stored now image.file) image.key image.content)
    → IsDrained files images next (drop 1 left)
drained-more files now next images [] image is d keys count put = absurd (cc is)
drained-more files now next images (x ∷ left) image is d keys count put =
    let same : image ≡ x = cc is in
    let put_x : stored next ≡ upd (stored now) x.file (put_back (key_lengths files x.file) (stored now x.file) x.key x.content) =
    put ∙ (ap (λ (i : BeforeImage). upd (stored now) i.file (put_back (key_lengths now i.file) (stored now i.file) i.key i.content)) same
    ∙ ap (λ (k : ℕ → ℕ). upd (stored now) x.file (put_back (k x.file) (stored now x.file) x.key x.content)) d.keys) in
    record {
      keys = keys ∙ d.keys;
      count = count ∙ d.count;
      same = ap (restored_files (key_lengths files) left) put_x ∙ d.same;
      fit = All-tail (IsImage (key_lengths files) (length files)) x left d.fit;
    }

-- and where it could not be, all stays
pub drained-same : (files now next : List BlocksState) (images left : List BeforeImage) → IsDrained files images now left
    → key_lengths next ≡ key_lengths now → length next ≡ length now → stored next ≡ stored now → IsDrained files images next left
drained-same files now next images left d keys count same = record {
  keys = keys ∙ d.keys;
  count = count ∙ d.count;
  same = ap (restored_files (key_lengths files) left) same ∙ d.same;
  fit = d.fit;
}

-- no image is left
pub none-left : (left : List BeforeImage) → None ≡ slice_get left 0 → left ≡ []
none-left [] is = refl
none-left (x ∷ left) is = absurd (cc is)

-- the images of two lists, one after the other
pub restored-append : (key_length : ℕ → ℕ) (xs ys : List BeforeImage) (files : ℕ → List (List ℕ)) → restored_files key_length (xs ++ ys) files ≡ restored_files key_length ys (restored_files key_length xs files)
restored-append key_length [] ys files = refl
restored-append key_length (image ∷ xs) ys files =
    restored-append key_length xs ys (upd files image.file (put_back (key_length image.file) (files image.file) image.key image.content))
