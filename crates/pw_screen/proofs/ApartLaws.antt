-- The fields of a screen lie apart: the cells of each were free behind the fields before it.
use Rattle.std.proofs.Common.{◌≡◌, ℕ, zero, suc, ◌+◌, Bool, true, false, not, List, [], ◌∷◌, Option, Some, None, Ok, refl, ap, ◌∙◌, subst, arith}
use Rattle.std.specs.Prelude.{◌||◌, ◌==◌}
use Rattle.std.specs.List.{list_any}
use Rattle.std.proofs.lemmas.Bool.{eqb-true}
use Rattle.std.proofs.lemmas.Bool.Decides.{nat_tests}
use Rattle.pw_base.specs.declared.fault.Fault.{Fault}
use Rattle.pw_base.specs.declared.fault_code.FaultCode.{FaultCode}
use Rattle.pw_base.specs.declared.fault_code.FaultCode.TheVariants.{BadPicture, NameTwice, UnknownItem, FieldOutside, FieldsOverlap, BadClause}
use Rattle.pw_base.specs.First.{least, unless}
use Rattle.pw_base.proofs.FirstFault.{least-none}
use Rattle.pw_base.proofs.Plain.{or-first-false, or-second-false}
use Rattle.pw_text.specs.declared.token.Token.{Token}
use Rattle.pw_text.specs.Cursor.{Left, behind as cursor-behind}
use Rattle.pw_data.specs.Entries.{line_of}
use Rattle.pw_data.specs.Parts.{left_of}
use Rattle.pw_data.specs.Layouts.{Laid}
use Rattle.pw_code.specs.declared.field.Field.{Field}
use Rattle.pw_code.specs.declared.field.ScreenTable.{ScreenTable}
use Rattle.pw_code.specs.Fields.{cells_of}
use Rattle.pw_divisions.specs.Entries.{division_entries_of}
use Rattle.pw_divisions.specs.Names.{name_of, own_name_of}
use Rattle.pw_screen.specs.declared.body.At.{At}
use Rattle.pw_screen.specs.declared.body.FieldBody.{FieldBody}
use Rattle.pw_screen.specs.declared.shown.Shown.{Shown}
use Rattle.pw_screen.specs.declared.entry.ScreenEntry.{ScreenEntry}
use Rattle.pw_screen.specs.declared.entry.PlacedEntry.{PlacedEntry}
use Rattle.pw_screen.specs.declared.entry.ScreenEntry.TheVariants.{Screen, Field as FieldEntry, Refused}
use Rattle.pw_screen.specs.Cells.{first_cell, places_from, field_cell_places, is_place_within, has_cell}
use Rattle.pw_screen.specs.Entries.{ScreenEntriesBefore, at_first, begins_screen, has_bad_picture, is_twice, refused_if, screen_by, screen_head_entry, field_name, field_with, field_on, field_by, form_of, may_stand, field_in, field_of, screen_entry_of, after_screen_entry}
use Rattle.pw_screen.specs.Clauses.{is_screen_end}
use Rattle.pw_screen.specs.Shown.{shown_of, extent_of, is_outside}
use Rattle.pw_screen.specs.Screens.{ScreensBehind, with_entry, screen_entries_behind, faults_of, placed_from, screens_of}
use Rattle.pw_screen.specs.Apart.{FieldApartFrom, AreFieldsApart, AllApart}

-- what is not refused is what comes next, and the test does not hold
next-of : (test : Bool) (code : FaultCode) (next : ScreenEntry) (field : Field) → refused_if test code next ≡ FieldEntry field → next ≡ FieldEntry field
next-of true code next field is = absurd cc
next-of false code next field is = is

test-of : (test : Bool) (code : FaultCode) (next : ScreenEntry) (field : Field) → refused_if test code next ≡ FieldEntry field → test ≡ false
test-of true code next field is = absurd cc
test-of false code next field is = refl

-- a cell of a field is free
abbrev Free : (ℕ → Bool) → Field → Type 0
Free used field = list_any used (field_cell_places field) ≡ false

on-free : (used : ℕ → Bool) (found field : Field) → field_on used found ≡ FieldEntry field → Free used field
on-free used found field is =
    let same : found ≡ field = (let e = next-of (list_any used (field_cell_places found)) FieldsOverlap (FieldEntry found) field is in cc) in
    subst (Free used) same (test-of (list_any used (field_cell_places found)) FieldsOverlap (FieldEntry found) field is)

by-free : (used : ℕ → Bool) (may : Bool) (name : List ℕ) (at : At) (cells : ℕ) (shown : Option Shown) (field : Field)
    → field_by used may name at cells shown ≡ FieldEntry field → Free used field
by-free used may name at cells None field is = absurd cc
by-free used may name at cells (Some shown) field is =
    on-free used (field_with name at cells shown) field (next-of (not may) BadClause (field_on used (field_with name at cells shown)) field is)

in-free : (laid : Laid) (used : ℕ → Bool) (begun : Bool) (part : Left) (body : Option FieldBody) (field : Field)
    → field_in laid used begun part body ≡ FieldEntry field → Free used field
in-free laid used begun part None field is = absurd cc
in-free laid used begun part (Some body) field is =
    let cells = extent_of part.text body.clauses in
    let last = field_by used (may_stand begun part) (field_name part.text (own_name_of part)) body.at cells (shown_of part.text laid body.clauses) in
    by-free used (may_stand begun part) (field_name part.text (own_name_of part)) body.at cells (shown_of part.text laid body.clauses) field
    (next-of (is_outside body.at cells) FieldOutside last field
    (next-of body.clauses.unknown UnknownItem (refused_if (is_outside body.at cells) FieldOutside last) field is))

no-screen : (text : List ℕ) (name : Option Token) (form : Bool) (field : Field) → screen_by text name form ≡ FieldEntry field → ⊥
no-screen text None form field is = cc
no-screen text (Some name) true field is = cc
no-screen text (Some name) false field is = cc

record IsFree (before : ScreenEntriesBefore) (part : Left) (field : Field) : Type 0 where
  pub begins : begins_screen part ≡ false
  pub free : Free before.used field

entry-free_by : (laid : Laid) (before : ScreenEntriesBefore) (part : Left) (field : Field) (b : Bool) → begins_screen part ≡ b → screen_entry_of laid before part ≡ FieldEntry field → IsFree before part field
entry-free_by laid before part field true begins is =
    let screen : screen_head_entry before.names part ≡ FieldEntry field = rw begins at is in
    let last = screen_by part.text (name_of part) (is_screen_end (cursor-behind 2 part)) in
    let twice = is_twice part.text before.names (name_of part) in
    absurd (no-screen part.text (name_of part) (is_screen_end (cursor-behind 2 part)) field
    (next-of twice NameTwice last field (next-of (has_bad_picture part) BadPicture (refused_if twice NameTwice last) field screen)))
entry-free_by laid before part field false begins is =
    let found : field_of laid before.fields before.used before.begun part ≡ FieldEntry field = rw begins at is in
    let last = field_in laid before.used before.begun part (form_of laid part) in
    let twice = is_twice part.text before.fields (own_name_of part) in
    record {
      begins = begins;
      free = in-free laid before.used before.begun part (form_of laid part) field
          (next-of twice NameTwice last field (next-of (has_bad_picture part) BadPicture (refused_if twice NameTwice last) field found));
    }

among-none : (from place : ℕ) → is_place_within from 0 place ≡ true → ⊥
among-none from place is = grind (arith, nat_tests)

among-behind : (from count place : ℕ) → (place == from) ≡ false → is_place_within from (suc count) place ≡ true → is_place_within (from + 1) count place ≡ true
among-behind from count place other is = grind (arith, nat_tests)

none-used_by : (used : ℕ → Bool) (from count place : ℕ) (b : Bool) → (place == from) ≡ b
    → (is_place_within (from + 1) count place ≡ true → used place ≡ false) → used from ≡ false → is_place_within from (suc count) place ≡ true → used place ≡ false
none-used_by used from count place true at rest first is = ap used (eqb-true place from at) ∙ first
none-used_by used from count place false at rest first is = rest (among-behind from count place at is)

-- where none of some places is used, each of them is free
none-used : (used : ℕ → Bool) (from count place : ℕ) → list_any used (places_from from count) ≡ false → is_place_within from count place ≡ true → used place ≡ false
none-used used from zero place none is = absurd (among-none from place is)
none-used used from (suc count) place none is =
    none-used_by used from count place (place == from) refl
    (none-used used (from + 1) count place (or-second-false (used from) (list_any used (places_from (from + 1) count)) none))
    (or-first-false (used from) (list_any used (places_from (from + 1) count)) none) is

-- no cell of the fields is used
abbrev FreeOf : (ℕ → Bool) → List Field → Type 0
FreeOf used [] = Unit {0}
FreeOf used (field ∷ fields) = ((place : ℕ) → has_cell field place ≡ true → used place ≡ false) × FreeOf used fields

-- a field and what was used before it
loosen : (f : Field) (used : ℕ → Bool) (fields : List Field) → FreeOf (λ place. has_cell f place || used place) fields → FreeOf used fields × FieldApartFrom f fields
loosen f used [] free = (tt, tt)
loosen f used (g ∷ fields) free =
    let rest = loosen f used fields free.1 in (
      ((λ place has. or-second-false (has_cell f place) (used place) (free.0 place has)), rest.0),
      ((λ place mine its. (let none = or-first-false (has_cell f place) (used place) (free.0 place its) in cc)), rest.1),
    )

-- what stands from an entry on lies apart, and in no cell that was used before
record Good (used : ℕ → Bool) (rest : ScreensBehind) : Type 0 where
  pub free : FreeOf used rest.fields
  pub apart : AreFieldsApart rest.fields
  pub tables : AllApart rest.tables

step : (laid : Laid) (before : ScreenEntriesBefore) (part : Left) (line : ℕ) (rest : List PlacedEntry) (found : ScreenEntry) → screen_entry_of laid before part ≡ found
    → faults_of (record { line = line; entry = found } ∷ rest) ≡ [] → (faults_of rest ≡ [] → Good (after_screen_entry before part found).used (screen_entries_behind rest))
    → Good before.used (with_entry found (screen_entries_behind rest))
step laid before part line rest (Screen name) is none next =
    let good = next none in
    record { free = tt; apart = tt; tables = (good.apart, good.tables) }
step laid before part line rest (FieldEntry field) is none next =
    let free = entry-free_by laid before part field (begins_screen part) refl is in
    let good : Good (λ place. has_cell field place || before.used place) (screen_entries_behind rest) = rw free.begins at (next none) in
    let looser = loosen field before.used (screen_entries_behind rest).fields good.free in
    record {
      free = ((λ place has. none-used before.used (first_cell field) (cells_of field.shown) place free.free has), looser.0);
      apart = (looser.1, good.apart);
      tables = good.tables;
    }
step laid before part line rest (Refused code) is none next = absurd cc

all-good : (text : List ℕ) (laid : Laid) (before : ScreenEntriesBefore) (parts : List (List Token)) → faults_of (placed_from text laid before parts) ≡ []
    → Good before.used (screen_entries_behind (placed_from text laid before parts))
unfolding placed_from
all-good text laid before [] none = record { free = tt; apart = tt; tables = tt }
all-good text laid before (part ∷ parts) none =
    let found = screen_entry_of laid before (left_of text part) in
    step laid before (left_of text part) (line_of part) (placed_from text laid (after_screen_entry before (left_of text part) found) parts) found refl none
    (all-good text laid (after_screen_entry before (left_of text part) found) parts)

ok-of : {A : Type 0} (o : Option Fault) (value tables : A) → unless o value ≡ Ok tables → (o ≡ None) × (value ≡ tables)
ok-of None value tables is = (refl, cc)
ok-of (Some fault) value tables is = absurd cc

-- no two fields of a screen have a cell in common
pub screens-apart : (text : List ℕ) (tokens : List Token) (laid : Laid) (tables : List ScreenTable) → screens_of text tokens laid ≡ Ok tables → AllApart tables
screens-apart text tokens laid tables is =
    let placed = placed_from text laid (at_first laid) (division_entries_of tokens) in
    let ok = ok-of (least None (faults_of placed)) (screen_entries_behind placed).tables tables is in
    subst AllApart ok.1 (all-good text laid (at_first laid) (division_entries_of tokens) (least-none (faults_of placed) ok.0)).tables
