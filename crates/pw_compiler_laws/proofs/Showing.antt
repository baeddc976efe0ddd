-- The fields of the screens that are read show items of the layout.
use Rattle.std.proofs.Common.{◌≡◌, ℕ, Bool, true, false, not, ◌||◌, List, [], ◌∷◌, Option, Some, None, Ok, if◌then◌else◌, refl, subst}
use Rattle.std.specs.Prelude.{◌&&◌, ◌==◌}
use Rattle.pw_base.specs.declared.fault.Fault.{Fault}
use Rattle.pw_base.specs.declared.fault_code.FaultCode.{FaultCode}
use Rattle.pw_base.specs.First.{least, unless}
use Rattle.pw_picture.specs.Grammar.{picture_of}
use Rattle.pw_picture.specs.declared.picture.Picture.{Picture}
use Rattle.pw_text.specs.Cursor.{Left, spelling}
use Rattle.pw_text.specs.declared.token.Token.{Token}
use Rattle.pw_words.specs.Words.{Word}
use Rattle.pw_data.specs.Layouts.{Laid, place_of}
use Rattle.pw_data.specs.Parts.{left_of}
use Rattle.pw_data.specs.declared.item.Place.{Place}
use Rattle.pw_operands.specs.Resolved.{Each}
use Rattle.pw_code.specs.Fields.{is_source_of}
use Rattle.pw_code.specs.declared.field.Field.{Field}
use Rattle.pw_code.specs.declared.field.FieldKind.TheVariants as fields
use Rattle.pw_code.specs.declared.field.ScreenTable.{ScreenTable}
use Rattle.pw_divisions.specs.Entries.{division_entries_of}
use Rattle.pw_divisions.specs.Names.{name_of, own_name_of}
use Rattle.pw_screen.specs.Entries.{ScreenEntriesBefore, at_first, after_screen_entry, begins_screen, has_bad_picture, is_twice, refused_if, screen_by, screen_head_entry, field_name, field_with, field_on, field_by, form_of, may_stand, field_in, field_of, screen_entry_of}
use Rattle.pw_screen.specs.Screens.{placed_from, faults_of, with_entry, screen_entries_behind, ScreensBehind, screens_of}
use Rattle.pw_screen.specs.Shown.{names_item, is_outside, extent_of, item_with, item_at, item_by, item_shown, literal_shown, literal_of, only_item, shown_by, shown_of}
use Rattle.pw_screen.specs.declared.body.At.{At}
use Rattle.pw_screen.specs.declared.body.FieldBody.{FieldBody}
use Rattle.pw_screen.specs.declared.entry.ScreenEntry.{ScreenEntry}
use Rattle.pw_screen.specs.declared.entry.ScreenEntry.TheVariants as entry
use Rattle.pw_screen.specs.declared.entry.PlacedEntry.{PlacedEntry}
use Rattle.pw_screen.specs.declared.shown.ItemClause.{ItemClause}
use Rattle.pw_screen.specs.declared.shown.Shown.{Shown}
use Rattle.pw_compiler_laws.specs.Premises.{IsShownOf}

module _ (laid : Laid) where
  -- what a field shows, if anything
  abbrev ShownIn : Option Shown → Type 0
  ShownIn None = Unit {0}
  ShownIn (Some shown) = IsShownOf laid shown.kind

  literal-in : (named : Bool) (o : Option (List ℕ)) → ShownIn (literal_shown named o)
  literal-in true o = tt
  literal-in false None = tt
  literal-in false (Some chars) = tt

  with-in : (name : Word) (place : Place) (picture : Picture) (show takes : Bool) (o : Option Picture) → place_of laid name ≡ Some place → place.picture ≡ o
      → ShownIn (item_with picture place.at (place.occurs == 0) show takes o)
  with-in name place picture show takes None there is = tt
  with-in name place picture show takes (Some source) there is = by ((place.occurs == 0) && is_source_of picture source)
    where
      by : (b : Bool) → ShownIn (if b then Some (record { kind = fields.Item picture place.at source show; takes = takes }) else None)
      by true = record { name = name; place = place; there = there; same = refl; shown = is }
      by false = tt

  at-in : (name : Word) (picture : Picture) (one : ItemClause) (o : Option Place) → place_of laid name ≡ o → ShownIn (item_at picture one o)
  at-in name picture one None there = tt
  at-in name picture one (Some place) there = with-in name place picture one.show one.takes place.picture there refl

  by-in : (text : List ℕ) (one : ItemClause) (o : Option Picture) → ShownIn (item_by laid text one o)
  by-in text one None = tt
  by-in text one (Some picture) = at-in (spelling text one.item) picture one (place_of laid (spelling text one.item)) refl

  item-in : (text : List ℕ) (one : Option ItemClause) (o : Option Picture) → ShownIn (item_shown text laid one o)
  item-in text None o = tt
  item-in text (Some one) o = by-in text one o

  shown-by-in : (text : List ℕ) (picture value : Option Token) (named : Bool) (one : Option ItemClause) → ShownIn (shown_by text laid picture value named one)
  shown-by-in text None None named one = tt
  shown-by-in text None (Some value) named one = literal-in named (Some (literal_of text value))
  shown-by-in text (Some picture) None named one = item-in text one (picture_of (spelling text picture))
  shown-by-in text (Some picture) (Some value) named one = tt

  -- ---- entries

  abbrev EntryIn : ScreenEntry → Type 0
  EntryIn (entry.Screen name) = Unit {0}
  EntryIn (entry.Field field) = IsShownOf laid field.shown
  EntryIn (entry.Refused code) = Unit {0}

  refused-in : (test : Bool) (code : FaultCode) (next : ScreenEntry) → EntryIn next → EntryIn (refused_if test code next)
  refused-in true code next is = tt
  refused-in false code next is = is

  field-by-in : (used : ℕ → Bool) (stands : Bool) (name : List ℕ) (at : At) (cells : ℕ) (o : Option Shown) → ShownIn o → EntryIn (field_by used stands name at cells o)
  field-by-in used stands name at cells None is = tt
  field-by-in used stands name at cells (Some shown) is =
      refused-in (not stands) _ (field_on used (field_with name at cells shown)) (refused-in _ _ (entry.Field (field_with name at cells shown)) is)

  field-in-in : (used : ℕ → Bool) (begun : Bool) (part : Left) (o : Option FieldBody) → EntryIn (field_in laid used begun part o)
  field-in-in used begun part None = tt
  field-in-in used begun part (Some body) =
      refused-in body.clauses.unknown _ _
      (refused-in (is_outside body.at (extent_of part.text body.clauses)) _ _
      (field-by-in used (may_stand begun part) (field_name part.text (own_name_of part)) body.at (extent_of part.text body.clauses) (shown_of part.text laid body.clauses)
      (shown-by-in part.text body.clauses.picture body.clauses.value (body.clauses.repeated || names_item body.clauses) (only_item body.clauses))))

  screen-by-in : (text : List ℕ) (o : Option Token) (b : Bool) → EntryIn (screen_by text o b)
  screen-by-in text None b = tt
  screen-by-in text (Some name) true = tt
  screen-by-in text (Some name) false = tt

  entry-by-in : (b : Bool) (one other : ScreenEntry) → EntryIn one → EntryIn other → EntryIn (if b then one else other)
  entry-by-in true one other f g = f
  entry-by-in false one other f g = g

  entry-in : (before : ScreenEntriesBefore) (part : Left) → EntryIn (screen_entry_of laid before part)
  entry-in before part =
      entry-by-in (begins_screen part) (screen_head_entry before.names part) (field_of laid before.fields before.used before.begun part)
      (refused-in (has_bad_picture part) _ _ (refused-in (is_twice part.text before.names (name_of part)) _ _ (screen-by-in part.text (name_of part) _)))
      (refused-in (has_bad_picture part) _ _ (refused-in (is_twice part.text before.fields (own_name_of part)) _ _ (field-in-in before.used before.begun part (form_of laid part))))

  all-in : (text : List ℕ) (before : ScreenEntriesBefore) (parts : List (List Token)) → Each (λ (placed : PlacedEntry). EntryIn placed.entry) (placed_from text laid before parts)
  unfolding placed_from
  all-in text before [] = tt
  all-in text before (part ∷ parts) = (entry-in before (left_of text part), all-in text (after_screen_entry before (left_of text part) (screen_entry_of laid before (left_of text part))) parts)

  -- ---- screens

  abbrev TableIn : ScreenTable → Type 0
  TableIn table = Each (λ (field : Field). IsShownOf laid field.shown) table.fields

  abbrev BehindIn : ScreensBehind → Type 0
  BehindIn rest = Each (λ (field : Field). IsShownOf laid field.shown) rest.fields × Each TableIn rest.tables

  with-entry-in : (one : ScreenEntry) (rest : ScreensBehind) → EntryIn one → BehindIn rest → BehindIn (with_entry one rest)
  with-entry-in (entry.Screen name) rest is all = (tt, (all.0, all.1))
  with-entry-in (entry.Field field) rest is all = ((is, all.0), all.1)
  with-entry-in (entry.Refused code) rest is all = all

  behind-in : (entries : List PlacedEntry) → Each (λ (placed : PlacedEntry). EntryIn placed.entry) entries → BehindIn (screen_entries_behind entries)
  behind-in [] each = (tt, tt)
  behind-in (placed ∷ entries) each = with-entry-in placed.entry (screen_entries_behind entries) each.0 (behind-in entries each.1)

pub unless-is : (fault : Option Fault) (value tables : List ScreenTable) → unless fault value ≡ Ok tables → value ≡ tables
unless-is None value tables is = cc
unless-is (Some fault) value tables is = absurd cc

-- the fields of screens that were read show literals and items of the layout
pub screens-show : (text : List ℕ) (tokens : List Token) (laid : Laid) (tables : List ScreenTable) → screens_of text tokens laid ≡ Ok tables
    → Each (λ (table : ScreenTable). Each (λ (field : Field). IsShownOf laid field.shown) table.fields) tables
screens-show text tokens laid tables is =
    let entries = placed_from text laid (at_first laid) (division_entries_of tokens) in
    subst (Each (TableIn laid)) (unless-is (least None (faults_of entries)) (screen_entries_behind entries).tables tables is)
    (behind-in laid entries (all-in laid text (at_first laid) (division_entries_of tokens))).1
