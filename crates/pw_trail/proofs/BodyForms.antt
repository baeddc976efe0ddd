-- The body of a record: what was spelled is read again.
use Rattle.std.proofs.Common.{◌≡◌, ℕ, zero, suc, ◌^◌, ◌<◌, ◌≤◌, Bool, true, cond, List, [], ◌∷◌, ◌++◌, length, All, Some, None, refl, sym, ap, subst, ◌∙◌, arith}
use Rattle.std.specs.Int.{w32, to_be_bytes}
use Rattle.std.specs.List.{flat_map, AllByRecursion}
use Rattle.std.proofs.lemmas.Bool.{leb-true}
use Rattle.std.proofs.lemmas.List.{append-nil}
use Rattle.std.proofs.lemmas.List.Elements.{All-from_recursion, recursion_from_All}
use Rattle.pw_base.proofs.Plain.{some_is, cond_passed}
use Rattle.pw_code.specs.declared.file.FileInfo.{FileInfo}
use Rattle.pw_image.proofs.Forms.{IsForm, Takes, bind_some, block, both, byte, counted, made, many, number32}
use Rattle.pw_image.specs.Reading.{Front, ◌>>=◌, all_of, block_at, is_any, is_truth, many_at, number_at}
use Rattle.pw_image.specs.Values.{AreBytes}
use Rattle.pw_trail.specs.Body.{any_change_at, body_of, change_at, change_bytes, change_from, changes_at, fits, kind_byte, change_kind_of, piece_at, such_at, unit_at, unit_from, unit_in}
use Rattle.pw_trail.specs.Values.{ChangeHasValues, UnitChangesHaveValues}
use Rattle.pw_trail.specs.declared.changes.Change.{Change}
use Rattle.pw_trail.specs.declared.changes.ChangeKind.{ChangeKind}
use Rattle.pw_trail.specs.declared.changes.ChangeKind.TheVariants.{Put, Remove}
use Rattle.pw_trail.specs.declared.changes.UnitChanges.{UnitChanges}

piece-form : IsForm piece_at (λ (l : List ℕ). to_be_bytes w32 (length l) ++ l) (λ (l : List ℕ). (length l < 2 ^ 32) × ((is_any (length l) ≡ true) × AreBytes l))
unfolding piece_at
piece-form = counted (number_at w32) is_any block_at (to_be_bytes w32) (λ l. l) (λ n. n < 2 ^ 32) (λ (l : List ℕ). length l) AreBytes number32 block

kind_again : (kind : ChangeKind) → change_kind_of (kind_byte kind) ≡ kind
kind_again Put = refl
kind_again Remove = refl

kind_fits : (kind : ChangeKind) → (is_truth (kind_byte kind) ≡ true) × (kind_byte kind < 256)
kind_fits Put = (refl, omega arith)
kind_fits Remove = (refl, omega arith)

byte_again : (byte : ℕ) → is_truth byte ≡ true → kind_byte (change_kind_of byte) ≡ byte
byte_again zero is = refl
byte_again (suc zero) is = refl
byte_again (suc (suc n)) is = let small : suc (suc n) ≤ 1 = leb-true _ _ is in absurd (omega arith)

abbrev change_parts : Change → ℕ × (ℕ × List ℕ)
change_parts change = (change.file, (kind_byte change.kind, change.bytes))

any-change-form : IsForm any_change_at change_bytes ChangeHasValues
unfolding any_change_at
any-change-form =
    made change_from change_parts _ _ change_bytes _ ChangeHasValues
    (record {
      spelled = λ x fits. ap (λ (b : ℕ). to_be_bytes w32 x.0 ++ (b ∷ [] ++ (to_be_bytes w32 (length x.1.1) ++ x.1.1))) (byte_again x.1.0 fits.1.0.0);
      fit = λ x fits. record { file = fits.0; size = fits.1.1.0; bytes = fits.1.1.1.1 };
      whole = λ y fits. ap (λ (k : ChangeKind). record { file = y.file; kind = k; bytes = y.bytes }) (kind_again y.kind);
      parts_fit = λ y fits. (fits.file, (kind_fits y.kind, (fits.size, (refl, fits.bytes))));
    })
    (both _ _ _ _ _ _ number32 (both _ _ _ _ _ _ (byte is_truth) piece-form))

-- what passes a test
module _ {A : Type 0} (test : A → Bool) (read : List ℕ → Front A) (spell : A → List ℕ) (Fits : A → Type 0) (f : IsForm read spell Fits) where
  such_takes : (bytes : List ℕ) (x : A) (rest : List ℕ) → AreBytes bytes → such_at test read bytes ≡ Some (x, rest) → Takes bytes (spell x) rest × (Fits x × (test x ≡ true))
  such_takes bytes x rest fits e =
      let a = bind_some (read bytes) (λ front. cond (test front.0) (Some front) None) (x, rest) e in
      let g = cond_passed (test a.0.0) (Some a.0) (x, rest) a.2 in
      let first = f.takes bytes a.0.0 a.0.1 fits a.1 in
      let P : A × List ℕ → Type 0 = λ p. Takes bytes (spell p.0) p.1 × (Fits p.0 × (test p.0 ≡ true)) in
      subst P (some_is g.1) (first.0, (first.1, g.0))

  such_again : (x : A) (rest : List ℕ) → Fits x × (test x ≡ true) → such_at test read (spell x ++ rest) ≡ Some (x, rest)
  such_again x rest fits =
      ap (λ r. r >>= λ front. cond (test front.0) (Some front) None) (f.again x rest fits.0)
      ∙ ap (λ b. cond b (Some (x, rest)) None) fits.1

  such : IsForm (such_at test read) spell (λ x. Fits x × (test x ≡ true))
  such = record { takes = such_takes; again = such_again }

module _ (files : List FileInfo) where
  abbrev ChangeIs : Change → Type 0
  ChangeIs change = ChangeHasValues change × (fits files change ≡ true)

  change-form : IsForm (change_at files) change_bytes ChangeIs
  unfolding change_at
  change-form = such (fits files) any_change_at change_bytes ChangeHasValues any-change-form

  changes-form : IsForm (changes_at files) (λ (xs : List Change). to_be_bytes w32 (length xs) ++ flat_map change_bytes xs)
      (λ (xs : List Change). (length xs < 2 ^ 32) × ((is_any (length xs) ≡ true) × AllByRecursion ChangeIs xs))
  unfolding changes_at
  changes-form =
      counted (number_at w32) is_any (many_at (change_at files)) (to_be_bytes w32) (flat_map change_bytes) (λ n. n < 2 ^ 32) (λ (xs : List Change). length xs)
      (AllByRecursion ChangeIs) number32 (many (change_at files) change_bytes ChangeIs change-form)

  abbrev unit_parts : UnitChanges → ℕ × (ℕ × List Change)
  unit_parts unit = (unit.terminal, (unit.unit, unit.changes))

  record UnitIs (own : UnitChanges) : Type 0 where
    terminal : own.terminal < 2 ^ 32
    unit : own.unit < 2 ^ 32
    count : length own.changes < 2 ^ 32
    changes : AllByRecursion ChangeIs own.changes

  unit-form : IsForm (unit_at files) body_of UnitIs
  unfolding unit_at
  unit-form =
      made unit_from unit_parts _ _ body_of _ UnitIs
      (record {
        spelled = λ x fits. refl;
        fit = λ x fits. record { terminal = fits.0; unit = fits.1.0; count = fits.1.1.0; changes = fits.1.1.1.1 };
        whole = λ y fits. refl;
        parts_fit = λ y fits. (fits.terminal, (fits.unit, (fits.count, (refl, fits.changes))));
      })
      (both _ _ _ _ _ _ number32 (both _ _ _ _ _ _ number32 changes-form))

  changes_are : (changes : List Change) → All ChangeHasValues changes → All (λ change. fits files change ≡ true) changes → All ChangeIs changes
  changes_are changes values fit place d lt = (values place d lt, fit place d lt)

  -- the body of a unit whose changes are of the files is read again
  pub unit_again : (own : UnitChanges) → UnitChangesHaveValues own → All (λ change. fits files change ≡ true) own.changes → unit_in files (body_of own) ≡ Some own
  unfolding unit_in
  unit_again own values fit =
      ap (λ (l : List ℕ). all_of (unit_at files l)) (sym (append-nil (body_of own)))
      ∙ ap all_of (unit-form.again own [] (record { terminal = values.terminal; unit = values.unit; count = values.count; changes = recursion_from_All ChangeIs own.changes (changes_are own.changes values.changes fit) }))

  all_is : (read : Front UnitChanges) (own : UnitChanges) → all_of read ≡ Some own → read ≡ Some (own, [])
  all_is None own e = absurd cc
  all_is (Some (x, [])) own e = ap (λ (y : UnitChanges). Some (y, [])) (some_is e)
  all_is (Some (x, b ∷ bytes)) own e = absurd cc

  -- a unit that was read has changes of the files
  pub unit_fits : (bytes : List ℕ) (own : UnitChanges) → AreBytes bytes → unit_in files bytes ≡ Some own → All (λ change. fits files change ≡ true) own.changes
  unfolding unit_in
  unit_fits bytes own values e place d lt =
      let all = All-from_recursion ChangeIs own.changes (unit-form.takes bytes own [] values (all_is (unit_at files bytes) own e)).1.changes in
      (all place d lt).1
