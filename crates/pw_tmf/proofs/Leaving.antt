-- The units of several terminals leave as they do one after the other.
use Rattle.std.proofs.Common.{◌≡◌, ◌≢◌, ℕ, ◌==◌, ◌&&◌, Bool, true, false, not, cond, List, [], ◌∷◌, filter, Option, Some, None, refl, sym, ap, subst, ◌∙◌}
use Rattle.std.specs.List.{AllByRecursion}
use Rattle.std.specs.Str.{bytes_eq}
use Rattle.std.proofs.Math.Path.{fun_ext}
use Rattle.std.proofs.lemmas.Bool.{and_from, eq-eqb, eqb-true, false_from_ne_true, false≢true, or_left, or_parts, or_right, true≢false}
use Rattle.pw_base.proofs.Plain.{bytes_eq-same}
use Rattle.pw_locks.specs.declared.lock.Lock.{Lock}
use Rattle.pw_onecopy.specs.Behaviour.{Behaviour}
use Rattle.pw_onecopy.specs.Update.{upd}
use Rattle.pw_onecopy.proofs.Update.{upd_both, upd_elim}
use Rattle.pw_paired.specs.State.{BeforeImage, LastEnded, OpenUnit, State}
use Rattle.pw_paired.specs.Units.{drop_unit, has_image, last_after_leaving, leave_units, only, put_back, restored_files}
use Rattle.pw_tmf.specs.Committed.{put_back_if}
use Rattle.pw_tmf.specs.Leaving.{AreSingle, HasKey, IsKeyed}
use Rattle.pw_tmf.specs.Tells.{Tells, images_by}
use Rattle.pw_tmf.specs.Told.{Told}
use Rattle.pw_tmf.proofs.Around.{either-first, more-pass, put-either}
use Rattle.pw_tmf.proofs.PutBack.{one-restored}
use Rattle.pw_tmf.proofs.Telling.{only-other, only-same}

-- ---- before-images of different terminals

-- the files with an image put back
abbrev pub put : (ℕ → ℕ) → BeforeImage → (ℕ → List (List ℕ)) → ℕ → List (List ℕ)
put key_length image files = upd files image.file (put_back (key_length image.file) (files image.file) image.key image.content)

-- the images are of different places
abbrev AreApart : BeforeImage → BeforeImage → Type 0
AreApart a b = a.file ≡ b.file → a.key ≢ b.key

in-one-file : (n file : ℕ) (a b : BeforeImage) → HasKey n a.key a.content → HasKey n b.key b.content → AreApart a b → (x y : Bool) → (a.file == file) ≡ x → (b.file == file) ≡ y → (records : List (List ℕ))
    → cond y (put_back n (cond x (put_back n records a.key a.content) records) b.key b.content) (cond x (put_back n records a.key a.content) records)
    ≡ cond x (put_back n (cond y (put_back n records b.key b.content) records) a.key a.content) (cond y (put_back n records b.key b.content) records)
in-one-file n file a b of_a of_b apart true true is too records = put-either n a.key b.key a.content b.content of_a of_b (apart (eqb-true a.file file is ∙ sym (eqb-true b.file file too))) records
in-one-file n file a b of_a of_b apart true false is too records = refl
in-one-file n file a b of_a of_b apart false true is too records = refl
in-one-file n file a b of_a of_b apart false false is too records = refl

-- where only one of them is of the file, nothing is asked of the other
in-each-file : (key_length : ℕ → ℕ) (file : ℕ) (a b : BeforeImage) → IsKeyed key_length a → IsKeyed key_length b → AreApart a b → (x y : Bool) → (a.file == file) ≡ x → (b.file == file) ≡ y → (records : List (List ℕ))
    → cond y (put_back (key_length file) (cond x (put_back (key_length file) records a.key a.content) records) b.key b.content) (cond x (put_back (key_length file) records a.key a.content) records)
    ≡ cond x (put_back (key_length file) (cond y (put_back (key_length file) records b.key b.content) records) a.key a.content) (cond y (put_back (key_length file) records b.key b.content) records)
in-each-file key_length file a b of_a of_b apart true true is too records =
    in-one-file (key_length file) file a b (subst (λ f. HasKey (key_length f) a.key a.content) (eqb-true a.file file is) of_a) (subst (λ f. HasKey (key_length f) b.key b.content) (eqb-true b.file file too) of_b) apart true true is too records
in-each-file key_length file a b of_a of_b apart true false is too records = refl
in-each-file key_length file a b of_a of_b apart false true is too records = refl
in-each-file key_length file a b of_a of_b apart false false is too records = refl

-- images of different places are put back in either order
two-images : (key_length : ℕ → ℕ) (a b : BeforeImage) → IsKeyed key_length a → IsKeyed key_length b → AreApart a b → (files : ℕ → List (List ℕ)) → put key_length b (put key_length a files) ≡ put key_length a (put key_length b files)
two-images key_length a b of_a of_b apart files = fun_ext (λ j.
    one-restored key_length b (put key_length a files) j
    ∙ ap (put_back_if (key_length j) j b) (one-restored key_length a files j)
    ∙ in-each-file key_length j a b of_a of_b apart (a.file == j) (b.file == j) refl refl (files j)
    ∙ sym (one-restored key_length a (put key_length b files) j ∙ ap (put_back_if (key_length j) j a) (one-restored key_length b files j)))

-- one that is not at a terminal's key is apart from those that are there
not-at : (t : ℕ) (a b : BeforeImage) → (b.terminal == t && (b.file == a.file && bytes_eq b.key a.key)) ≡ false → (b.terminal == t) ≡ true → AreApart a b
not-at t a b none is file key =
    false≢true
    (sym none
    ∙ and_from (b.terminal == t) (b.file == a.file && bytes_eq b.key a.key) is
    (and_from (b.file == a.file) (bytes_eq b.key a.key) (eq-eqb b.file a.file (sym file)) (subst (λ k. bytes_eq b.key k ≡ true) (sym key) (bytes_eq-same b.key))))

module _ (key_length : ℕ → ℕ) (t : ℕ) where
  -- an image at a key where a terminal has none is put back before those of the terminal, or behind them
  pub past : (a : BeforeImage) → IsKeyed key_length a → (before : List BeforeImage) → AllByRecursion (IsKeyed key_length) before → has_image t a.file a.key before ≡ false → (files : ℕ → List (List ℕ))
      → restored_files key_length (images_by t before) (put key_length a files) ≡ put key_length a (restored_files key_length (images_by t before) files)
  past a of [] all none files = refl
  past a of (b ∷ before) all none files =
      let parts = or_parts (b.terminal == t && (b.file == a.file && bytes_eq b.key a.key)) (has_image t a.file a.key before) none in
      elim (only t b.terminal) as (λ x. only t b.terminal ≡ x → restored_files key_length (cond x (b ∷ images_by t before) (images_by t before)) (put key_length a files) ≡ put key_length a (restored_files key_length (cond x (b ∷ images_by t before) (images_by t before)) files)) [
        | true ↦ λ is. ap (restored_files key_length (images_by t before)) (two-images key_length a b of all.0 (not-at t a b parts.0 is) files) ∙ past a of before all.1 parts.1 (put key_length b files)
        | false ↦ λ is. past a of before all.1 parts.1 files
      ] refl

  -- an image is at its key
  pub own-key : (image : BeforeImage) (before : List BeforeImage) → has_image image.terminal image.file image.key (image ∷ before) ≡ true
  own-key image before =
      or_left (image.terminal == image.terminal && (image.file == image.file && bytes_eq image.key image.key)) (has_image image.terminal image.file image.key before)
      (and_from (image.terminal == image.terminal) (image.file == image.file && bytes_eq image.key image.key) (eq-eqb image.terminal image.terminal refl)
      (and_from (image.file == image.file) (bytes_eq image.key image.key) (eq-eqb image.file image.file refl) (bytes_eq-same image.key)))

  -- of the images behind one
  behind-first : (image : BeforeImage) (before : List BeforeImage) → AreSingle (image ∷ before) → AreSingle before
  behind-first image before single s o file key one other =
      single s o file key
      (or_right (image.terminal == s && (image.file == file && bytes_eq image.key key)) (has_image s file key before) one)
      (or_right (image.terminal == o && (image.file == file && bytes_eq image.key key)) (has_image o file key before) other)

  no-other : (image : BeforeImage) (before : List BeforeImage) → AreSingle (image ∷ before) → only t image.terminal ≡ false → has_image t image.file image.key before ≡ false
  no-other image before single differs =
      false_from_ne_true (has_image t image.file image.key before)
      (λ there.
      let same : t ≡ image.terminal = single t image.terminal image.file image.key (or_right (image.terminal == t && (image.file == image.file && bytes_eq image.key image.key)) (has_image t image.file image.key before) there) (own-key image before) in
      true≢false (sym (eq-eqb image.terminal t (sym same)) ∙ differs))

  module _ (whose : ℕ → Bool) (yes : whose t ≡ true) where
    -- the images of some terminals
    abbrev theirs : List BeforeImage → List BeforeImage
    theirs before = filter (λ image. whose image.terminal) before

    -- those of other terminals than this one
    abbrev others : List BeforeImage → List BeforeImage
    others before = filter (λ image. not (only t image.terminal)) before

    -- those of one terminal are put back first, or all in their order
    pub first-of-them : (before : List BeforeImage) → AllByRecursion (IsKeyed key_length) before → AreSingle before → (files : ℕ → List (List ℕ))
        → restored_files key_length (theirs before) files ≡ restored_files key_length (theirs (others before)) (restored_files key_length (images_by t before) files)
    first-of-them [] all single files = refl
    first-of-them (image ∷ before) all single files =
        elim (only t image.terminal) as (λ x. only t image.terminal ≡ x → restored_files key_length (cond (whose image.terminal) (image ∷ theirs before) (theirs before)) files ≡ restored_files key_length (theirs (cond (not x) (image ∷ others before) (others before))) (restored_files key_length (cond x (image ∷ images_by t before) (images_by t before)) files)) [
          | true ↦ λ is.
              ap (λ w. restored_files key_length (cond w (image ∷ theirs before) (theirs before)) files) (ap whose (eqb-true image.terminal t is) ∙ yes)
              ∙ first-of-them before all.1 (behind-first image before single) (put key_length image files)
          | false ↦ λ is.
              elim (whose image.terminal) as (λ w. restored_files key_length (cond w (image ∷ theirs before) (theirs before)) files ≡ restored_files key_length (cond w (image ∷ theirs (others before)) (theirs (others before))) (restored_files key_length (images_by t before) files)) [
                | true ↦
                    first-of-them before all.1 (behind-first image before single) (put key_length image files)
                    ∙ ap (restored_files key_length (theirs (others before))) (past image all.0 before all.1 (no-other image before single is) files)
                | false ↦ first-of-them before all.1 (behind-first image before single) files
              ]
        ] refl

-- ---- what stays of lists

module _ (whose : ℕ → Bool) (t : ℕ) (yes : whose t ≡ true) where
  other-terminal : (j : ℕ) → not (whose j) ≡ true → not (only t j) ≡ true
  other-terminal j stays =
      elim (only t j) as (λ b. only t j ≡ b → not b ≡ true) [
        | true ↦ λ is. absurd (false≢true (sym (ap not (ap whose (eqb-true j t is) ∙ yes)) ∙ stays))
        | false ↦ λ is. refl
      ] refl

  -- what stays behind the one and then behind all
  pub stays : {X : Type 0} (terminal : X → ℕ) (xs : List X) → filter (λ x. not (whose (terminal x))) (filter (λ x. not (only t (terminal x))) xs) ≡ filter (λ x. not (whose (terminal x))) xs
  stays {X = X} terminal xs =
      let p : X → Bool = λ x. not (whose (terminal x)) in
      let q : X → Bool = λ x. not (only t (terminal x)) in
      either-first p q xs ∙ more-pass p q (λ x is. other-terminal (terminal x) is) xs

-- a test that none passes keeps all where it is turned
pub none-passes : {X : Type 0} (p : X → Bool) (xs : List X) → filter p xs ≡ [] → filter (λ x. not (p x)) xs ≡ xs
none-passes p [] none = refl
none-passes p (x ∷ xs) none =
    elim (p x) as (λ b. cond b (x ∷ filter p xs) (filter p xs) ≡ [] → cond (not b) (x ∷ filter (λ y. not (p y)) xs) (filter (λ y. not (p y)) xs) ≡ x ∷ xs) [
      | true ↦ λ one. absurd (cc one)
      | false ↦ λ rest. ap (λ ys. x ∷ ys) (none-passes p xs rest)
    ] none

-- where each of some terminals has no image, all of them have none
pub none-of-theirs : (whose : ℕ → Bool) (before : List BeforeImage) → ((t : ℕ) → whose t ≡ true → images_by t before ≡ []) → filter (λ image. whose image.terminal) before ≡ []
none-of-theirs whose [] none = refl
none-of-theirs whose (image ∷ before) none =
    elim (whose image.terminal) as (λ w. whose image.terminal ≡ w → cond w (image ∷ filter (λ i. whose i.terminal) before) (filter (λ i. whose i.terminal) before) ≡ []) [
      | true ↦ λ is.
          let one : image ∷ images_by image.terminal before ≡ [] = sym (ap (λ b. cond b (image ∷ images_by image.terminal before) (images_by image.terminal before)) (only-same image.terminal)) ∙ none image.terminal is in
          absurd (cc one)
      | false ↦ λ is. none-of-theirs whose before (λ t yes.
          let other : only t image.terminal ≡ false = only-other t image.terminal (λ same. true≢false (sym (ap whose same ∙ yes) ∙ is)) in
          sym (ap (λ b. cond b (image ∷ images_by t before) (images_by t before)) other) ∙ none t yes)
    ] refl

-- ---- one terminal's unit first

-- the disc tells of another state what that has the same
pub tells-same : (sys : Behaviour) (state new : State) (told : Told) → new.files ≡ state.files → new.locks ≡ state.locks → new.units ≡ state.units → new.before ≡ state.before → new.ended ≡ state.ended
    → Tells sys state told → Tells sys new told
tells-same sys state new told files locks units before ended h = record {
  rule = h.rule;
  keys = h.keys;
  files = h.files ∙ sym files;
  locks = h.locks ∙ sym locks;
  units = rw units (rw before h.units);
  ended = h.ended ∙ sym ended;
  idle = rw units (rw before h.idle);
}

module _ (whose : ℕ → Bool) (t : ℕ) (yes : whose t ≡ true) (units : ℕ → Option OpenUnit) (ended : ℕ → LastEnded) where
  -- the open units of the others
  abbrev units-of : (ℕ → Option OpenUnit) → ℕ → Option OpenUnit
  units-of own j = cond (whose j) None (own j)

  -- the last ended units, once theirs have ended
  abbrev last-of : (ℕ → Option OpenUnit) → (ℕ → LastEnded) → ℕ → LastEnded
  last-of own last j = cond (whose j) (last_after_leaving (own j) (last j)) (last j)

  units-left : units-of units ≡ units-of (upd units t None)
  units-left = fun_ext (λ j.
      upd_elim units t None j (λ v. cond (whose j) None (units j) ≡ cond (whose j) None v)
      (λ same. ap (λ w. cond w None (units j)) (ap whose same ∙ yes) ∙ sym (ap (λ w. cond w None None) (ap whose same ∙ yes)))
      (λ other. refl))

  ended-left : (own : OpenUnit) → units t ≡ Some own
      → last-of units ended ≡ last-of (upd units t None) (upd ended t (record { number = own.number; reply = None }))
  ended-left own is =
      let new : LastEnded = record { number = own.number; reply = None } in
      fun_ext (λ j.
      upd_both units ended t None new j (λ u e. cond (whose j) (last_after_leaving (units j) (ended j)) (ended j) ≡ cond (whose j) (last_after_leaving u e) e)
      (λ same.
      ap (λ w. cond w (last_after_leaving (units j) (ended j)) (ended j)) (ap whose same ∙ yes)
      ∙ ap (λ u. last_after_leaving u (ended j)) (ap units same ∙ is)
      ∙ sym (ap (λ w. cond w new new) (ap whose same ∙ yes)))
      (λ other. refl))

-- units that leave behind a unit that was dropped are those that leave with it
pub tells-rest : (sys : Behaviour) (whose : ℕ → Bool) (state : State) (told : Told) (t n : ℕ) (own : OpenUnit) → whose t ≡ true → state.units t ≡ Some own → own.number ≡ n
    → AllByRecursion (IsKeyed sys.key_length) state.before → AreSingle state.before
    → Tells sys (leave_units sys whose (drop_unit sys t n state)) told → Tells sys (leave_units sys whose state) told
tells-rest sys whose state told t n own is_theirs is number keyed single =
    subst (λ k. Tells sys (leave_units sys whose (drop_unit sys t k state)) told → Tells sys (leave_units sys whose state) told) number
    (tells-same sys (leave_units sys whose (drop_unit sys t own.number state)) (leave_units sys whose state) told
    (first-of-them sys.key_length t whose is_theirs state.before keyed single state.files)
    (sym (stays whose t is_theirs (λ (lock : Lock). lock.unit.terminal) state.locks))
    (units-left whose t is_theirs state.units state.ended)
    (sym (stays whose t is_theirs (λ (image : BeforeImage). image.terminal) state.before))
    (ended-left whose t is_theirs state.units state.ended own is))
