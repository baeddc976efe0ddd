-- Before-images are found by their places.
use Rattle.std.proofs.Common.{◌≡◌, ◌≢◌, ℕ, zero, suc, ◌<◌, List, [], ◌∷◌, ◌++◌, ◌&&◌, ◌||◌, Bool, true, false, Some, None, length, refl, sym, ap, subst, ◌∙◌, arith}
use Rattle.std.specs.Prelude.{nat_eq, slice_get}
use Rattle.std.specs.BTreeMap.{BTreeMap, get}
use Rattle.std.specs.Global.{Vec}
use Rattle.std.specs.List.{list_any}
use Rattle.std.specs.Str.{bytes_eq}
use Rattle.std.proofs.lemmas.Bool.{and_parts, false_from_ne_true}
use Rattle.std.proofs.lemmas.Bool.Decides.{nat_tests}
use Rattle.std.proofs.lemmas.Slice.Eq.{bytes_eq-Decides}
use Rattle.std.proofs.lemmas.Map.Keys.{any_passes_from_place}
use Rattle.pw_base.proofs.Plain.{or-true, same-truth}
use Rattle.pw_locks.specs.Indexes.{has, found_has, is_filed}
use Rattle.pw_paired.specs.State.{BeforeImage}
use Rattle.pw_paired.specs.Units.{has_image}
use Rattle.pw_tmf.specs.Placed.{AreFiled, is_image_at, is_found_at, place_cmp}

-- some image passes
record Passing (test : BeforeImage → Bool) (images : List BeforeImage) : Type 0 where
  pub at : ℕ
  pub image : BeforeImage
  pub there : slice_get images at ≡ Some image
  pub passes : test image ≡ true

later : (test : BeforeImage → Bool) (x : BeforeImage) (xs : List BeforeImage) → Passing test xs → Passing test (x ∷ xs)
later test x xs p = record { at = suc p.at; image = p.image; there = p.there; passes = p.passes }

passing : (test : BeforeImage → Bool) (images : List BeforeImage) → list_any test images ≡ true → Passing test images
passing test [] h = absurd (cc h)
passing test (x ∷ xs) h =
    elim (test x) as (λ b. test x ≡ b → (b || list_any test xs) ≡ true → Passing test (x ∷ xs)) [
      | true ↦ λ is h. record { at = 0; image = x; there = refl; passes = is }
      | false ↦ λ is h. later test x xs (passing test xs h)
    ] refl h

-- a number among these that passes
any-has : (test : ℕ → Bool) (numbers : List ℕ) (i : ℕ) → has numbers i ≡ true → test i ≡ true → list_any test numbers ≡ true
any-has test [] i h passes = absurd (cc h)
any-has test (n ∷ numbers) i h passes =
    elim (nat_eq i n) as (λ b. nat_eq i n ≡ b → (b || has numbers i) ≡ true → (test n || list_any test numbers) ≡ true) [
      | true ↦ λ is h. let same : i ≡ n = grind (arith, nat_tests, is) in ap (λ b. b || list_any test numbers) (sym (ap test same) ∙ passes)
      | false ↦ λ is h. ap (λ b. test n || b) (any-has test numbers i h passes) ∙ or-true (test n)
    ] refl h

-- what an image found at a number shows
image-found : (t file : ℕ) (key : List ℕ) (images : List BeforeImage) (n : ℕ) (rest : Bool) (image : BeforeImage) → slice_get images n ≡ Some image → (rest ≡ true → has_image t file key images ≡ true)
    → (b : Bool) → is_image_at t file key image ≡ b → (b || rest) ≡ true → has_image t file key images ≡ true
image-found t file key images n rest image is later true passes h = any_passes_from_place (is_image_at t file key) images n image is passes
image-found t file key images n rest image is later false passes h = later h

found-any : (t file : ℕ) (key : List ℕ) (images : List BeforeImage) (numbers : List ℕ) → list_any (λ n. is_found_at t file key (slice_get images n)) numbers ≡ true → has_image t file key images ≡ true
found-any t file key images [] h = absurd (cc h)
found-any t file key images (n ∷ numbers) h =
    let rest : Bool = list_any (λ m. is_found_at t file key (slice_get images m)) numbers in
    elim (slice_get images n) as (λ o. slice_get images n ≡ o → (is_found_at t file key o || rest) ≡ true → has_image t file key images ≡ true) [
      | None ↦ λ is h. found-any t file key images numbers h
      | Some image ↦ λ is h. image-found t file key images n rest image is (found-any t file key images numbers) (is_image_at t file key image) refl h
    ] refl h

-- an image at a key of a file is filed there
filed-there : (t file : ℕ) (key : List ℕ) (images : List BeforeImage) (index : BTreeMap (ℕ × List ℕ) (Vec ℕ)) → AreFiled images index → (p : Passing (is_image_at t file key) images)
    → is_filed place_cmp index (file, key) p.at ≡ true
filed-there t file key images index filed p =
    let out = and_parts (nat_eq p.image.terminal t) (nat_eq p.image.file file && bytes_eq p.image.key key) p.passes in
    let place = and_parts (nat_eq p.image.file file) (bytes_eq p.image.key key) out.1 in
    let same : p.image.file ≡ file = grind (arith, nat_tests, place.0) in
    let key-same : p.image.key ≡ key = (bytes_eq-Decides p.image.key key).0 place.1 in
    subst (λ f. is_filed place_cmp index (f, key) p.at ≡ true) same (subst (λ k. is_filed place_cmp index (p.image.file, k) p.at ≡ true) key-same (filed p.at p.image p.there))

pub none-filed : (t file : ℕ) (key : List ℕ) (images : List BeforeImage) (index : BTreeMap (ℕ × List ℕ) (Vec ℕ)) → AreFiled images index → get place_cmp index (file, key) ≡ None
    → has_image t file key images ≡ false
none-filed t file key images index filed none =
    false_from_ne_true (has_image t file key images)
    (λ is.
    let p = passing (is_image_at t file key) images is in
    let there : found_has (get place_cmp index (file, key)) p.at ≡ true = filed-there t file key images index filed p in
    let nowhere : found_has (get place_cmp index (file, key)) p.at ≡ false = ap (λ o. found_has o p.at) none in
    absurd (cc (there, nowhere)))

pub some-filed : (t file : ℕ) (key : List ℕ) (images : List BeforeImage) (index : BTreeMap (ℕ × List ℕ) (Vec ℕ)) (numbers : Vec ℕ) → AreFiled images index → get place_cmp index (file, key) ≡ Some numbers
    → list_any (λ n. is_found_at t file key (slice_get images n)) numbers.items ≡ has_image t file key images
some-filed t file key images index numbers filed some =
    same-truth (list_any (λ n. is_found_at t file key (slice_get images n)) numbers.items) (has_image t file key images)
    (found-any t file key images numbers.items)
    (λ is.
    let p = passing (is_image_at t file key) images is in
    let there : found_has (get place_cmp index (file, key)) p.at ≡ true = filed-there t file key images index filed p in
    let among : has numbers.items p.at ≡ true = sym (ap (λ o. found_has o p.at) some) ∙ there in
    any-has (λ n. is_found_at t file key (slice_get images n)) numbers.items p.at among (ap (is_found_at t file key) p.there ∙ p.passes))

-- one more behind the others
abbrev At : List BeforeImage → ℕ → BeforeImage → Type 0
At images i image = slice_get images i ≡ Some image

pushed-at : (images : List BeforeImage) (x : BeforeImage) (P : ℕ → BeforeImage → Type 0) → ((i : ℕ) (image : BeforeImage) → At images i image → P i image) → P (length images) x
    → (i : ℕ) (image : BeforeImage) → At (images ++ x ∷ []) i image → P i image
pushed-at [] x P old new zero image is = let same : x ≡ image = cc is in subst (P 0) same new
pushed-at [] x P old new (suc i) image is = absurd (cc is)
pushed-at (y ∷ images) x P old new zero image is = old 0 image is
pushed-at (y ∷ images) x P old new (suc i) image is = pushed-at images x (λ j. P (suc j)) (λ j. old (suc j)) new i image is

pub filed-push : (images : List BeforeImage) (x : BeforeImage) (before after : BTreeMap (ℕ × List ℕ) (Vec ℕ)) → AreFiled images before
    → is_filed place_cmp after (x.file, x.key) (length images) ≡ true
    → ((q : ℕ × List ℕ) (n : ℕ) → is_filed place_cmp before q n ≡ true → is_filed place_cmp after q n ≡ true) → AreFiled (images ++ x ∷ []) after
filed-push images x before after filed new stays =
    pushed-at images x (λ i image. is_filed place_cmp after (image.file, image.key) i ≡ true) (λ i image is. stays (image.file, image.key) i (filed i image is)) new

below-length : (images : List BeforeImage) (i : ℕ) (image : BeforeImage) → At images i image → i < length images
below-length [] i image is = absurd (cc is)
below-length (x ∷ images) zero image is = omega arith
below-length (x ∷ images) (suc i) image is = let less = below-length images i image is in omega arith

kept-at : (images : List BeforeImage) (x : BeforeImage) (i : ℕ) (image : BeforeImage) → At images i image → At (images ++ x ∷ []) i image
kept-at [] x i image is = absurd (cc is)
kept-at (y ∷ images) x zero image is = is
kept-at (y ∷ images) x (suc i) image is = kept-at images x i image is

pub filed-pop : (images : List BeforeImage) (x : BeforeImage) (before after : BTreeMap (ℕ × List ℕ) (Vec ℕ)) → AreFiled (images ++ x ∷ []) before
    → ((q : ℕ × List ℕ) (n : ℕ) → n ≢ length images → is_filed place_cmp before q n ≡ true → is_filed place_cmp after q n ≡ true) → AreFiled images after
filed-pop images x before after filed stays =
    λ i image is.
    let less : i < length images = below-length images i image is in
    stays (image.file, image.key) i (omega arith) (filed i image (kept-at images x i image is))
