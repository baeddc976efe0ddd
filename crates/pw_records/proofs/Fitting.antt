-- The changes that are read of a trail are of its files.
use Rattle.std.proofs.Common.{◌≡◌, ℕ, zero, suc, ◌+◌, ◌<◌, ◌≤◌, Bool, true, false, List, [], ◌∷◌, Option, Some, None, Result, Ok, Err, length, refl, ◌∙◌, subst, arith, slice_get, if◌then◌else◌, ◌==◌}
use Rattle.std.specs.List.{AllByRecursion}
use Rattle.std.specs.Int.{w32}
use Rattle.pw_base.proofs.Plain.{some_is}
use Rattle.pw_code.specs.declared.file.FileInfo.{FileInfo}
use Rattle.pw_image.specs.Reading.{Front, ◌>>=◌, all_of, both_at, is_any, made_at, many_at, number_at}
use Rattle.pw_onecopy.proofs.Update.{upd-other}
use Rattle.pw_trail.specs.Body.{any_change_at, change_at, changes_at, fits, fits_file, unit_at, unit_from, unit_in}
use Rattle.pw_trail.specs.Files.{deck_file_records, files_after, with_change, with_changes, with_units}
use Rattle.pw_trail.specs.Format.{body_in, recorded, size_of, units_from, units_in, with_first}
use Rattle.pw_trail.specs.declared.changes.Change.{Change}
use Rattle.pw_trail.specs.declared.changes.ChangeKind.{ChangeKind}
use Rattle.pw_trail.specs.declared.changes.UnitChanges.{UnitChanges}

-- ---- what a reader gives

-- what was read, if anything, has the property
abbrev Gives : {A : Type 0} → (A → Type 0) → Front A → Type 0
Gives P None = Unit {0}
Gives P (Some front) = P front.0

made-gives : {A B : Type 0} (make : A → B) (read : List ℕ → Front A) (P : A → Type 0) (Q : B → Type 0) → ((x : A) → P x → Q (make x))
    → (bytes : List ℕ) → Gives P (read bytes) → Gives Q (made_at make read bytes)
made-gives {A} {B} make read P Q on bytes h = by (read bytes) h
  where
    by : (front : Front A) → Gives P front → Gives Q (front >>= λ front. Some (make front.0, front.1))
    by None h = tt
    by (Some front) h = on front.0 h

both-gives : {A B : Type 0} (one : List ℕ → Front A) (more : List ℕ → Front B) (P : B → Type 0) → ((bytes : List ℕ) → Gives P (more bytes))
    → (bytes : List ℕ) → Gives (λ (both : A × B). P both.1) (both_at one more bytes)
both-gives {A} {B} one more P each bytes = by (one bytes)
  where
    onward : (first : A × List ℕ) (second : Front B) → Gives P second → Gives (λ (both : A × B). P both.1) (second >>= λ second. Some ((first.0, second.0), second.1))
    onward first None h = tt
    onward first (Some second) h = h

    by : (first : Front A) → Gives (λ (both : A × B). P both.1) (first >>= λ first. more first.1 >>= λ second. Some ((first.0, second.0), second.1))
    by None = tt
    by (Some first) = onward first (more first.1) (each first.1)

many-gives : {A : Type 0} (read : List ℕ → Front A) (P : A → Type 0) → ((bytes : List ℕ) → Gives P (read bytes))
    → (count : ℕ) (bytes : List ℕ) → Gives (AllByRecursion P) (many_at read count bytes)
unfolding many_at
many-gives read P each zero bytes = tt
many-gives {A} read P each (suc count) bytes = by (λ (rest : List ℕ). many-gives read P each count rest) (read bytes) (each bytes)
  where
    onward : (first : A × List ℕ) (others : Front (List A)) → P first.0 → Gives (AllByRecursion P) others
        → Gives (AllByRecursion P) (others >>= λ others. Some (first.0 ∷ others.0, others.1))
    onward first None h k = tt
    onward first (Some others) h k = (h, k)

    by : ((rest : List ℕ) → Gives (AllByRecursion P) (many_at read count rest)) → (first : Front A) → Gives P first
        → Gives (AllByRecursion P) (first >>= λ first. many_at read count first.1 >>= λ others. Some (first.0 ∷ others.0, others.1))
    by others None h = tt
    by others (Some first) h = onward first (many_at read count first.1) h (others first.1)

module _ (files : List FileInfo) where
  -- a change of one of the files, and a unit of such changes
  abbrev Fits : Change → Type 0
  Fits change = fits files change ≡ true

  abbrev pub UnitFits : UnitChanges → Type 0
  UnitFits unit = AllByRecursion Fits unit.changes

  change-gives : (bytes : List ℕ) → Gives Fits (change_at files bytes)
  unfolding change_at
  change-gives bytes = by (any_change_at bytes)
    where
      onward : (front : Change × List ℕ) (b : Bool) → fits files front.0 ≡ b → Gives Fits (if b then Some front else None)
      onward front true is = is
      onward front false is = tt

      by : (front : Front Change) → Gives Fits (front >>= λ front. if fits files front.0 then Some front else None)
      by None = tt
      by (Some front) = onward front (fits files front.0) refl

  changes-give : (bytes : List ℕ) → Gives (AllByRecursion Fits) (changes_at files bytes)
  unfolding changes_at
  changes-give bytes = by (number_at w32 bytes)
    where
      by : (front : Front ℕ) → Gives (AllByRecursion Fits) (front >>= λ front. if is_any front.0 then many_at (change_at files) front.0 front.1 else None)
      by None = tt
      by (Some front) = many-gives (change_at files) Fits change-gives front.0 front.1

  unit-gives : (bytes : List ℕ) → Gives UnitFits (unit_at files bytes)
  unfolding unit_at
  unit-gives bytes =
      made-gives unit_from (both_at (number_at w32) (both_at (number_at w32) (changes_at files)))
      (λ (parts : ℕ × (ℕ × List Change)). AllByRecursion Fits parts.1.1) UnitFits (λ parts h. h) bytes
      (both-gives (number_at w32) (both_at (number_at w32) (changes_at files)) (λ (parts : ℕ × List Change). AllByRecursion Fits parts.1)
      (both-gives (number_at w32) (changes_at files) (AllByRecursion Fits) changes-give) bytes)

  -- ---- units

  body-fits : (body : List ℕ) (unit : UnitChanges) → unit_in files body ≡ Some unit → UnitFits unit
  unfolding unit_in
  body-fits body unit is = by (unit_at files body) (unit-gives body) is
    where
      by : (read : Front UnitChanges) → Gives UnitFits read → all_of read ≡ Some unit → UnitFits unit
      by None h e = absurd cc
      by (Some (own, [])) h e = subst UnitFits (some_is e) h
      by (Some (own, byte ∷ bytes)) h e = absurd cc

  recorded-fits : (bytes : List ℕ) (unit : UnitChanges) → recorded files bytes ≡ Some unit → UnitFits unit
  recorded-fits bytes unit is = by (body_in bytes) is
    where
      by : (body : Option (List ℕ)) → (body >>= λ body. unit_in files body) ≡ Some unit → UnitFits unit
      by None e = absurd cc
      by (Some body) e = body-fits body unit e

  first-fits : (unit : Option UnitChanges) (place : ℕ) (later : Result (List UnitChanges) ℕ) (units : List UnitChanges)
      → ((own : UnitChanges) → unit ≡ Some own → UnitFits own) → ((rest : List UnitChanges) → later ≡ Ok rest → AllByRecursion UnitFits rest)
      → with_first unit place later ≡ Ok units → AllByRecursion UnitFits units
  first-fits None place later units own rest e = absurd cc
  first-fits (Some unit) place (Err at) units own rest e = absurd cc
  first-fits (Some unit) place (Ok others) units own rest e =
      let same : unit ∷ others ≡ units = cc in
      subst (AllByRecursion UnitFits) same (own unit refl, rest others refl)

  units-fit-from : (place passed : ℕ) (bytes : List ℕ) (units : List UnitChanges) → units_from files place passed bytes ≡ Ok units
      → AllByRecursion UnitFits units
  units-fit-from place zero [] units is = absurd cc
  units-fit-from place (suc passed) [] units is = absurd cc
  units-fit-from place (suc passed) (byte ∷ rest) units is = units-fit-from (place + 1) passed rest units is
  units-fit-from place zero (gate ∷ rest) units is =
      by (λ (others : List UnitChanges). units-fit-from (place + 1) (4 + size_of rest) rest others) (gate == 0) is
    where
      by : ((others : List UnitChanges) → units_from files (place + 1) (4 + size_of rest) rest ≡ Ok others → AllByRecursion UnitFits others)
          → (b : Bool) → (if b then Ok [] else with_first (recorded files rest) place (units_from files (place + 1) (4 + size_of rest) rest)) ≡ Ok units
          → AllByRecursion UnitFits units
      by later true e = let none : [] ≡ units = cc in subst (AllByRecursion UnitFits) none tt
      by later false e =
          first-fits (recorded files rest) place (units_from files (place + 1) (4 + size_of rest) rest) units (recorded-fits rest) later e

  -- the units of a trail
  units-fit : (bytes : List ℕ) (units : List UnitChanges) → units_in files bytes ≡ Ok units → AllByRecursion UnitFits units
  units-fit bytes units is = units-fit-from 0 0 bytes units is

  -- ---- a file that is not there

  present : (all : List FileInfo) (f : ℕ) (kind : ChangeKind) (bytes : List ℕ) → fits_file (slice_get all f) kind bytes ≡ true → f < length all
  present [] f kind bytes h = absurd cc
  present (file ∷ all) zero kind bytes h = omega arith
  present (file ∷ all) (suc f) kind bytes h = omega (arith, present all f kind bytes h)

  none-there : (all : List FileInfo) (f : ℕ) → length all ≤ f → deck_file_records all f ≡ []
  none-there [] f past = refl
  none-there (file ∷ all) zero past = absurd (omega (arith, past))
  none-there (file ∷ all) (suc f) past = none-there all f (omega (arith, past))

  module _ (key_length : ℕ → ℕ) (f : ℕ) (past : length files ≤ f) where
    changes-past : (changes : List Change) (records : ℕ → List (List ℕ)) → AllByRecursion Fits changes → with_changes key_length records changes f ≡ records f
    changes-past [] records all = refl
    changes-past (change ∷ changes) records all =
        changes-past changes (with_change key_length records change) all.1
        ∙ upd-other records change.file _ f (λ same. absurd (omega (arith, same, past, present files change.file change.kind change.bytes all.0)))

    units-past : (units : List UnitChanges) (records : ℕ → List (List ℕ)) → AllByRecursion UnitFits units → with_units key_length records units f ≡ records f
    units-past [] records all = refl
    units-past (unit ∷ units) records all =
        units-past units (with_changes key_length records unit.changes) all.1 ∙ changes-past unit.changes records all.0

  -- it has no record behind the units of a trail
  pub none-behind : (bytes : List ℕ) (units : List UnitChanges) → units_in files bytes ≡ Ok units
      → (f : ℕ) → length files ≤ f → files_after files units f ≡ []
  none-behind bytes units is f past = units-past _ f past units (deck_file_records files) (units-fit bytes units is) ∙ none-there files f past
