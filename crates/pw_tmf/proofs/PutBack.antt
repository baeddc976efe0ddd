-- Before-images that are put back in one file.
use Rattle.std.proofs.Common.{◌≡◌, ◌≢◌, ℕ, ◌+◌, ◌-◌, ◌<◌, ◌≤◌, ◌∙◌, ⊎_elim, refl, sym, ap, subst, ◌==◌, cond, List, [], ◌∷◌, ◌++◌, length, take, arith}
use Rattle.std.specs.Prelude.{All, reverse, slice_index_or}
use Rattle.std.specs.Option.{IfSome}
use Rattle.std.proofs.lemmas.Bool.{cases_Bool, eqb-true, eqb-false}
use Rattle.std.proofs.lemmas.List.{reverse-reverse, take_more}
use Rattle.std.proofs.lemmas.List.Elements.{All-get_or, All-weaker}
use Rattle.pw_files.specs.Records.{IsContent}
use Rattle.pw_onecopy.proofs.Update.{upd-same, upd-other}
use Rattle.pw_onecopy.specs.Update.{upd}
use Rattle.pw_paired.specs.State.{BeforeImage}
use Rattle.pw_paired.specs.Units.{put_back, restored_files}
use Rattle.pw_tmf.specs.Committed.{FitsFile, all_put_back, put_back_if}
use Rattle.pw_tmf.specs.Tmf.{AreImages, IsImage}
use Rattle.pw_tmf.proofs.Reversed.{All-reverse, reverse-push}

pub all_put_back-append : (n file : ℕ) (xs ys : List BeforeImage) (records : List (List ℕ)) → all_put_back n file (xs ++ ys) records ≡ all_put_back n file ys (all_put_back n file xs records)
all_put_back-append n file [] ys records = refl
all_put_back-append n file (image ∷ xs) ys records = all_put_back-append n file xs ys (put_back_if n file image records)

-- one image, in all files and in one
pub one-restored : (key_length : ℕ → ℕ) (image : BeforeImage) (files : ℕ → List (List ℕ)) (file : ℕ)
    → upd files image.file (put_back (key_length image.file) (files image.file) image.key image.content) file ≡ put_back_if (key_length file) file image (files file)
one-restored key_length image files file =
    ⊎_elim
    (λ is.
    let same : image.file ≡ file = eqb-true image.file file is in
    upd-same files image.file _ file (sym same)
    ∙ (ap (λ f. put_back (key_length f) (files f) image.key image.content) same ∙ sym (ap (λ b. cond b (put_back (key_length file) (files file) image.key image.content) (files file)) is)))
    (λ is.
    let differ : file ≢ image.file = λ same. absurd (eqb-false image.file file is (sym same)) in
    upd-other files image.file _ file differ ∙ sym (ap (λ b. cond b (put_back (key_length file) (files file) image.key image.content) (files file)) is))
    (cases_Bool (image.file == file))

-- the images that are put back in all files, seen in one
pub restored-at : (key_length : ℕ → ℕ) (images : List BeforeImage) (files : ℕ → List (List ℕ)) (file : ℕ) → restored_files key_length images files file ≡ all_put_back (key_length file) file images (files file)
restored-at key_length [] files file = refl
restored-at key_length (image ∷ images) files file =
    restored-at key_length images (upd files image.file (put_back (key_length image.file) (files image.file) image.key image.content)) file
    ∙ ap (all_put_back (key_length file) file images) (one-restored key_length image files file)

-- images that fit their files fit each of these
pub fits-file : (key_length : ℕ → ℕ) (files file : ℕ) (images : List BeforeImage) → AreImages key_length files images → All (FitsFile file (key_length file)) images
fits-file key_length files file images h =
    All-weaker (IsImage key_length files) (FitsFile file (key_length file)) (λ image is same. subst (λ f. IfSome image.content (IsContent (key_length f))) same is.content) images h

-- the last of the images that are left is put back next
pub put-last : (n file : ℕ) (images : List BeforeImage) (left : ℕ) (image : BeforeImage) (records : List (List ℕ)) → 0 < left → left ≤ length images → image ≡ slice_index_or images (left - 1) image
    → all_put_back n file (reverse (take left images)) records ≡ all_put_back n file (reverse (take (left - 1) images)) (put_back_if n file image records)
put-last n file images left image records some within is =
    let before : left ≡ (left - 1) + 1 = omega (arith, some) in
    let lt : left - 1 < length images = omega (arith, some, within) in
    let more : take left images ≡ take (left - 1) images ++ image ∷ [] =
    ap (λ k. take k images) before ∙ (take_more images (left - 1) image lt ∙ ap (λ x. take (left - 1) images ++ x ∷ []) (sym is)) in
    ap (λ xs. all_put_back n file xs records) (ap reverse more ∙ reverse-push (take (left - 1) images) image)

-- the image at a place fits where all of the reversed list do
pub fits-at : (P : BeforeImage → Type 0) (images : List BeforeImage) (i : ℕ) (image : BeforeImage) → i < length images → image ≡ slice_index_or images i image → All P (reverse images) → P image
fits-at P images i image lt is h = subst P (sym is) (All-get_or P images i image lt (subst (All P) (reverse-reverse images) (All-reverse P (reverse images) h)))
