-- The before-images of all units, terminal by terminal and as they were made.
use Rattle.std.proofs.Common.{◌≡◌, ⊎_elim, ℕ, zero, suc, ◌<◌, ◌≤◌, ◌==◌, ◌&&◌, ◌||◌, Bool, true, false, not, cond, List, [], ◌∷◌, ◌++◌, filter, Option, Some, None, refl, sym, ap, arith, ◌∙◌}
use Rattle.std.specs.List.{AllByRecursion}
use Rattle.std.specs.Str.{bytes_eq}
use Rattle.std.specs.Option.{option_map}
use Rattle.std.proofs.lemmas.Bool.{cases_lt, eq-eqb, eqb-true, false_from_ne_true, ne_eqb, or_left, or_right, true≢false}
use Rattle.pw_onecopy.specs.Behaviour.{Behaviour}
use Rattle.pw_paired.specs.State.{BeforeImage, OpenUnit, State}
use Rattle.pw_paired.specs.Units.{any_below, attempt_of, committed_files, has_image, only, restored_files}
use Rattle.pw_tmf.specs.Committed.{committed, images_below, images_of}
use Rattle.pw_tmf.specs.Leaving.{AreSingle, IsKeyed}
use Rattle.pw_tmf.specs.Tells.{Tells, as_told, images_by}
use Rattle.pw_tmf.specs.Told.{Told, ToldUnit}
use Rattle.pw_tmf.proofs.Leaving.{first-of-them, own-key, past, put}

-- the terminal is one of the first n
abbrev below : ℕ → ℕ → Bool
below n t = any_below n (λ j. only j t)

not-below : (n t : ℕ) → n ≤ t → below n t ≡ false
not-below zero t le = refl
not-below (suc n) t le =
    ap (λ b. b || only n t) (not-below n t (omega arith)) ∙ ne_eqb t n (λ same. absurd (omega (arith, same)))

is-below : (n t : ℕ) → t < n → below n t ≡ true
is-below zero t lt = absurd (omega arith)
is-below (suc n) t lt =
    ⊎_elim
    (λ (less : t < n). or_left (below n t) (only n t) (is-below n t less))
    (λ (more : n ≤ t). or_right (below n t) (only n t) (eq-eqb t n (omega arith)))
    (cases_lt t n)

-- the images of the first n terminals, and of all
abbrev those-below : ℕ → List BeforeImage → List BeforeImage
those-below n before = filter (λ image. below n image.terminal) before

all-below : (n : ℕ) (before : List BeforeImage) → AllByRecursion (λ image. image.terminal < n) before → those-below n before ≡ before
all-below n [] all = refl
all-below n (image ∷ before) all =
    ap (λ b. cond b (image ∷ those-below n before) (those-below n before)) (is-below n image.terminal all.0)
    ∙ ap (λ images. image ∷ images) (all-below n before all.1)

-- those of the first n, of which one is left out, are those below it
left-out : (n : ℕ) (before : List BeforeImage) → those-below (suc n) (filter (λ image. not (only n image.terminal)) before) ≡ those-below n before
left-out n [] = refl
left-out n (image ∷ before) =
    let others : List BeforeImage = filter (λ i. not (only n i.terminal)) before in
    elim (only n image.terminal) as (λ b. only n image.terminal ≡ b
    → those-below (suc n) (cond (not b) (image ∷ others) others) ≡ cond (below n image.terminal) (image ∷ those-below n before) (those-below n before)) [
      | true ↦ λ is.
          left-out n before
          ∙ sym (ap (λ b. cond b (image ∷ those-below n before) (those-below n before)) (not-below n image.terminal (omega (arith, eqb-true image.terminal n is))))
      | false ↦ λ is.
          ap (λ b. cond b (image ∷ those-below (suc n) others) (those-below (suc n) others)) (either image.terminal is)
          ∙ ap (λ images. cond (below n image.terminal) (image ∷ images) images) (left-out n before)
    ] refl
  where
    or-false : (a : Bool) → (a || false) ≡ a
    or-false true = refl
    or-false false = refl

    either : (t : ℕ) → only n t ≡ false → (below n t || only n t) ≡ below n t
    either t is = ap (λ b. below n t || b) is ∙ or-false (below n t)

module _ (key_length : ℕ → ℕ) where
  -- one list of images behind another
  restored-append : (a b : List BeforeImage) (files : ℕ → List (List ℕ)) → restored_files key_length (a ++ b) files ≡ restored_files key_length b (restored_files key_length a files)
  restored-append [] b files = refl
  restored-append (image ∷ a) b files = restored-append a b (put key_length image files)

  -- the images of a terminal are put back before those of others, or behind them
  swapped : (t : ℕ) (before : List BeforeImage) → AllByRecursion (IsKeyed key_length) before
      → (xs : List BeforeImage) → AllByRecursion (λ x. IsKeyed key_length x × (has_image t x.file x.key before ≡ false)) xs → (files : ℕ → List (List ℕ))
      → restored_files key_length (images_by t before) (restored_files key_length xs files) ≡ restored_files key_length xs (restored_files key_length (images_by t before) files)
  swapped t before keyed [] all files = refl
  swapped t before keyed (x ∷ xs) all files =
      swapped t before keyed xs all.1 (put key_length x files)
      ∙ ap (restored_files key_length xs) (past key_length t x all.0.0 before keyed all.0.1 files)

  -- images of others are at other keys
  apart : (n : ℕ) (before : List BeforeImage) → AreSingle before → (xs : List BeforeImage) → AllByRecursion (IsKeyed key_length) xs
      → ((s file : ℕ) (key : List ℕ) → has_image s file key xs ≡ true → has_image s file key before ≡ true)
      → AllByRecursion (λ x. IsKeyed key_length x × (has_image n x.file x.key before ≡ false)) (those-below n xs)
  apart n before single [] keyed among = tt
  apart n before single (x ∷ xs) keyed among =
      let rest = apart n before single xs keyed.1 (λ s file key there. among s file key (or_right (x.terminal == s && (x.file == file && bytes_eq x.key key)) (has_image s file key xs) there)) in
      elim (below n x.terminal) as (λ b. below n x.terminal ≡ b → AllByRecursion (λ (i : BeforeImage). IsKeyed key_length i × (has_image n i.file i.key before ≡ false)) (cond b (x ∷ those-below n xs) (those-below n xs))) [
        | true ↦ λ is. (
          (
            keyed.0,
            false_from_ne_true (has_image n x.file x.key before) (λ there.
                let same : n ≡ x.terminal = single n x.terminal x.file x.key there (among x.terminal x.file x.key (own-key key_length n x xs)) in
                true≢false (sym is ∙ not-below n x.terminal (omega (arith, same)))),
          ),
          rest,
        )
        | false ↦ λ is. rest
      ] refl

  module _ (before : List BeforeImage) (keyed : AllByRecursion (IsKeyed key_length) before) (single : AreSingle before)
      (units : ℕ → Option ToldUnit) (images : (t : ℕ) → images_of (units t) ≡ images_by t before) where
    -- those of the first terminals, one terminal after the other, or as they were made
    first-terminals : (n : ℕ) (files : ℕ → List (List ℕ)) → restored_files key_length (images_below units n) files ≡ restored_files key_length (those-below n before) files
    first-terminals zero files = ap (λ images. restored_files key_length images files) (sym (none before))
      where
        none : (xs : List BeforeImage) → those-below zero xs ≡ []
        none [] = refl
        none (x ∷ xs) = none xs
    first-terminals (suc n) files =
        restored-append (images_below units n) (images_of (units n)) files
        ∙ ap (λ own. restored_files key_length own (restored_files key_length (images_below units n) files)) (images n)
        ∙ ap (restored_files key_length (images_by n before)) (first-terminals n files)
        ∙ swapped n before keyed (those-below n before) (apart n before single before keyed (λ s file key there. there)) files
        ∙ sym (first-of-them key_length n (below (suc n)) (or_right (below n n) (only n n) (eq-eqb n n refl)) before keyed single files
        ∙ ap (λ xs. restored_files key_length xs (restored_files key_length (images_by n before) files)) (left-out n before))

    -- those of all
    pub all-terminals : (n : ℕ) → AllByRecursion (λ image. image.terminal < n) before → (files : ℕ → List (List ℕ))
        → restored_files key_length (images_below units n) files ≡ restored_files key_length before files
    all-terminals n few files = first-terminals n files ∙ ap (λ xs. restored_files key_length xs files) (all-below n before few)

-- the images of the unit that is told are those of its terminal
pub images-told : (sys : Behaviour) (state : State) (told : Told) → Tells sys state told → (t : ℕ) → images_of (told.units t) ≡ images_by t state.before
images-told sys state told h t = by (state.units t) refl
  where
    by : (own : Option OpenUnit) → state.units t ≡ own → images_of (told.units t) ≡ images_by t state.before
    by None is = ap images_of (h.units t ∙ ap (option_map (as_told (images_by t state.before))) is) ∙ sym (h.idle t (ap attempt_of is))
    by (Some own) is = ap images_of (h.units t ∙ ap (option_map (as_told (images_by t state.before))) is)

pub committed-told : (sys : Behaviour) (state : State) (told : Told) → Tells sys state told → AllByRecursion (IsKeyed sys.key_length) state.before → AreSingle state.before
    → AllByRecursion (λ image. image.terminal < told.terminals) state.before → committed told ≡ committed_files sys state
committed-told sys state told h keyed single few =
    ap (λ k. restored_files k (images_below told.units told.terminals) told.files) h.keys
    ∙ ap (restored_files sys.key_length (images_below told.units told.terminals)) h.files
    ∙ all-terminals sys.key_length state.before keyed single told.units (images-told sys state told h) told.terminals few state.files
