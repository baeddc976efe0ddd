-- The screens that are read are tables of a program with their storage.
use Rattle.std.proofs.Common.{◌≡◌, ℕ, ◌+◌, ◌-◌, ◌*◌, ◌<◌, ◌≤◌, max, Bool, true, false, not, List, [], ◌∷◌, length, Option, Some, None, Ok, All, if◌then◌else◌, refl, sym, ap, ◌∙◌, subst, arith}
use Rattle.std.specs.Prelude.{◌&&◌, ◌||◌, ◌==◌, nat_le, nat_lt, find, is_some, option_map, IsTrue, IfSome}
use Rattle.std.specs.Option.{ForSome}
use Rattle.std.proofs.lemmas.Bool.{and_parts, eqb-true, leb-true, ltb-false}
use Rattle.std.proofs.lemmas.List.Elements.{All-nil, All-cons}
use Rattle.std.proofs.lemmas.Option.{same_Some}
use Rattle.pw_base.specs.declared.fault_code.FaultCode.{FaultCode}
use Rattle.pw_base.specs.First.{least}
use Rattle.pw_picture.specs.Grammar.{IsPicture, picture_of, size_of}
use Rattle.pw_picture.specs.declared.picture.Picture.{Picture}
use Rattle.pw_text.specs.Cursor.{Left, spelling}
use Rattle.pw_text.specs.declared.token.Token.{Token}
use Rattle.pw_words.specs.Words.{Word}
use Rattle.pw_data.specs.Entries.{picture_at, picture_of_kind}
use Rattle.pw_data.specs.Layouts.{Laid, place_at, place_of, EndsBy, FitsPicture, PlaceEndsBy, PlaceFitsPicture}
use Rattle.pw_data.specs.Names.{is_this_name}
use Rattle.pw_data.specs.Parts.{left_of}
use Rattle.pw_data.specs.Store.{joined}
use Rattle.pw_data.specs.declared.item.Item.{Item}
use Rattle.pw_data.specs.declared.item.ItemKind.{ItemKind}
use Rattle.pw_data.specs.declared.item.Place.{Place}
use Rattle.pw_operands.specs.Resolved.{Each}
use Rattle.pw_code.specs.Fields.{is_source_of, cells_of, HasClauses, IsInside, IsField, IsTable}
use Rattle.pw_code.specs.declared.field.Field.{Field}
use Rattle.pw_code.specs.declared.field.FieldKind.TheVariants as fields
use Rattle.pw_code.specs.declared.field.ScreenTable.{ScreenTable}
use Rattle.pw_divisions.specs.Entries.{division_entries_of}
use Rattle.pw_divisions.specs.Names.{name_of, own_name_of}
use Rattle.pw_screen.specs.Entries.{ScreenEntriesBefore, at_first, after_screen_entry, begins_screen, has_bad_picture, is_twice, refused_if, screen_by, screen_head_entry, field_name, where_cells, field_with, field_on, field_by, form_of, may_stand, field_in, field_of, screen_entry_of}
use Rattle.pw_screen.specs.Screens.{placed_from, faults_of, with_entry, screen_entries_behind, ScreensBehind, screens_of}
use Rattle.pw_screen.specs.Shown.{names_item, is_inside, is_outside, extent_of, size_by, length_by, item_for, item_with, item_at, item_by, item_shown, literal_shown, literal_of, only_one, only_item, shown_by, shown_of, IsShown}
use Rattle.pw_screen.specs.declared.body.At.{At}
use Rattle.pw_screen.specs.declared.body.FieldBody.{FieldBody}
use Rattle.pw_screen.specs.declared.entry.ScreenEntry.{ScreenEntry}
use Rattle.pw_screen.specs.declared.entry.ScreenEntry.TheVariants as entry
use Rattle.pw_screen.specs.declared.entry.PlacedEntry.{PlacedEntry}
use Rattle.pw_screen.specs.declared.shown.ItemClause.{ItemClause}
use Rattle.pw_screen.specs.declared.shown.Shown.{Shown}
use Rattle.pw_screen.proofs.Sound.{item-sound}
use Rattle.pw_tree_meaning.specs.Program.{no_program}
use Rattle.pw_tree_meaning.specs.Sound.{IsLayout}
use Rattle.pw_tree_meaning.specs.Store.{Store, initial_store}
use Rattle.pw_tree_meaning.proofs.Resolved.{each-found}
use Rattle.pw_compiler_laws.proofs.Arguments.{length-joined}
use Rattle.pw_compiler_laws.proofs.Ground.{IsCut}
use Rattle.pw_compiler_laws.proofs.Grounds.{known-of, ground-of}
use Rattle.pw_compiler_laws.proofs.Showing.{unless-is}
use Rattle.pw_compiled_deck.proofs.Pictures.{picture-valid}

-- ---- items of a layout

-- an item ends in a storage
ends-at : (n : ℕ) (store : Store) (item : Item) → IsCut store item → length (joined store) ≡ n → EndsBy n item
ends-at n store item cuts long =
    let le = length-joined store (item.at + (max item.occurs 1 - 1) * item.step) item.size (cuts (max item.occurs 1) (omega arith) (omega arith)) in
    omega (arith, le, long)

fits-by : (o : Option ItemKind) (size : ℕ) → ForSome o (λ kind. IsPicture (picture_of_kind kind) × (size_of (picture_of_kind kind) ≡ size))
    → IfSome (option_map picture_of_kind o) (λ p. IsPicture p × (size_of p ≡ size))
fits-by None size fits = tt
fits-by (Some kind) size fits = fits kind refl

module _ (laid : Laid) (is : IsLayout false laid) where
  abbrev long : ℕ
  long = length laid.storage

  -- what lies at a place ends in the storage, and is as long as its picture
  abbrev Lies : Place → Type 0
  Lies place = PlaceEndsBy long place × PlaceFitsPicture place

  item-lies : (name : Word) (item : Item) → find (λ item. is_this_name item.name name) laid.items ≡ Some item → Lies (place_at item)
  item-lies name item found =
      let ground = ground-of false (record no_program { layout = laid }) is in
      let known = known-of false (record no_program { layout = laid }) is in
      let store : Store = initial_store (record no_program { layout = laid }) in (
        ends-at long store item (each-found (IsCut store) (λ one. is_this_name one.name name) laid.items item ground.0 found) ground.1,
        fits-by item.kind item.size (each-found FitsPicture (λ one. is_this_name one.name name) laid.items item known.fits found),
      )

  place-lies : (name : Word) (place : Place) → place_of laid name ≡ Some place → Lies place
  place-lies name place there = by (find (λ item. is_this_name item.name name) laid.items) refl there
    where
      by : (o : Option Item) → find (λ item. is_this_name item.name name) laid.items ≡ o → option_map place_at o ≡ Some place → Lies place
      by None found at = absurd cc
      by (Some item) found at = subst Lies (same_Some (place_at item) place at) (item-lies name item found)

  -- ---- what fields show

  -- what a field shows, if anything, takes so many cells
  abbrev ShownOn : ℕ → Option Shown → Type 0
  ShownOn cells None = Unit {0}
  ShownOn cells (Some shown) = IsShown long cells shown

  literal-on : (named : Bool) (chars : List ℕ) → ShownOn (length chars) (literal_shown named (Some chars))
  literal-on true chars = tt
  literal-on false chars = record { clauses = refl; size = refl }

  with-on : (name : Word) (place : Place) (picture : Picture) (show takes : Bool) (o : Option Picture) → IsPicture picture → IsTrue (show || takes)
      → place_of laid name ≡ Some place → place.picture ≡ o → ShownOn (size_of picture) (item_with picture place.at (place.occurs == 0) show takes o)
  with-on name place picture show takes None valid serves there has = tt
  with-on name place picture show takes (Some source) valid serves there has = by ((place.occurs == 0) && is_source_of picture source) refl
    where
      by : (b : Bool) → ((place.occurs == 0) && is_source_of picture source) ≡ b
          → ShownOn (size_of picture) (if b then Some (record { kind = fields.Item picture place.at source show; takes = takes }) else None)
      by true both =
          let parts = and_parts (place.occurs == 0) (is_source_of picture source) both in
          let lies = place-lies name place there in
          item-sound picture source place show takes long valid has lies.1 (eqb-true place.occurs 0 parts.0) parts.1 serves lies.0
      by false both = tt

  at-on : (name : Word) (picture : Picture) (one : ItemClause) (o : Option Place) → IsPicture picture → IsTrue (one.show || one.takes) → place_of laid name ≡ o
      → ShownOn (size_of picture) (item_at picture one o)
  at-on name picture one None valid serves there = tt
  at-on name picture one (Some place) valid serves there = with-on name place picture one.show one.takes place.picture valid serves there refl

  by-on : (text : List ℕ) (one : ItemClause) (bytes : List ℕ) (o : Option Picture) → picture_of bytes ≡ o → IsTrue (one.show || one.takes) → ShownOn (size_by o) (item_by laid text one o)
  by-on text one bytes None is_picture serves = tt
  by-on text one bytes (Some picture) is_picture serves =
      at-on (spelling text one.item) picture one (place_of laid (spelling text one.item)) (picture-valid bytes picture is_picture) serves refl

  -- a clause for an item shows it or takes entries for it
  abbrev Serves : Option ItemClause → Type 0
  Serves None = Unit {0}
  Serves (Some one) = IsTrue (one.show || one.takes)

  only-serves : (from to using : Option Token) → Serves (only_one from to using)
  only-serves (Some item) None None = refl
  only-serves None (Some item) None = refl
  only-serves None None (Some item) = refl
  only-serves None None None = tt
  only-serves (Some a) (Some b) None = tt
  only-serves (Some a) (Some b) (Some c) = tt
  only-serves (Some a) None (Some c) = tt
  only-serves None (Some b) (Some c) = tt

  unless-serves : (not_one : Bool) (one : Option ItemClause) → Serves one → Serves (if not_one then None else one)
  unless-serves true one serves = tt
  unless-serves false one serves = serves

  item-on : (text : List ℕ) (one : Option ItemClause) (bytes : List ℕ) → Serves one → ShownOn (size_by (picture_of bytes)) (item_shown text laid one (picture_of bytes))
  item-on text None bytes serves = tt
  item-on text (Some one) bytes serves = by-on text one bytes (picture_of bytes) refl serves

  shown-by-on : (text : List ℕ) (picture value : Option Token) (named : Bool) (one : Option ItemClause) → Serves one
      → ShownOn (if is_some picture then size_by (picture_at text picture) else length_by (option_map (literal_of text) value)) (shown_by text laid picture value named one)
  shown-by-on text None None named one serves = tt
  shown-by-on text None (Some value) named one serves = literal-on named (literal_of text value)
  shown-by-on text (Some picture) None named one serves = item-on text one (spelling text picture) serves
  shown-by-on text (Some picture) (Some value) named one serves = tt

  -- ---- entries

  abbrev EntryIn : ScreenEntry → Type 0
  EntryIn (entry.Screen name) = Unit {0}
  EntryIn (entry.Field field) = IsField long field
  EntryIn (entry.Refused code) = Unit {0}

  refused-in : (test : Bool) (code : FaultCode) (next : ScreenEntry) → (test ≡ false → EntryIn next) → EntryIn (refused_if test code next)
  refused-in true code next more = tt
  refused-in false code next more = more refl

  inside-of : (at : At) (cells : ℕ) → is_inside at cells ≡ true → IsInside at.row at.column cells
  inside-of at cells inside =
      let halves = and_parts (nat_le 1 at.row && nat_le at.row 23) (nat_le 1 at.column && nat_le (at.column + cells) 81) inside in
      let rows = and_parts (nat_le 1 at.row) (nat_le at.row 23) halves.0 in
      let columns = and_parts (nat_le 1 at.column) (nat_le (at.column + cells) 81) halves.1 in
      record {
        below_top = leb-true 1 at.row rows.0;
        above_messages = leb-true at.row 23 rows.1;
        from_left = leb-true 1 at.column columns.0;
        to_right = leb-true (at.column + cells) 81 columns.1;
      }

  cells-in : (at : At) (cells : ℕ) (some inside : Bool) → nat_lt 0 cells ≡ some → is_inside at cells ≡ inside → (some && not inside) ≡ false → 0 < cells
      → IsInside (if some then at.row else 0) (if some then at.column else 0) cells
  cells-in at cells true true has lies test more = inside-of at cells lies
  cells-in at cells true false has lies test more = absurd cc
  cells-in at cells false inside has lies test more = absurd (omega (arith, ltb-false 0 cells has, more))

  field-is : (name : List ℕ) (at : At) (cells : ℕ) (shown : Shown) → is_outside at cells ≡ false → IsShown long cells shown → IsField long (field_with name at cells shown)
  field-is name at cells shown within on = record {
    clauses = on.clauses;
    inside = λ more. subst (IsInside (where_cells cells at.row) (where_cells cells at.column)) (sym on.size)
        (cells-in at cells (nat_lt 0 cells) (is_inside at cells) refl refl within (omega (arith, more, on.size)));
  }

  field-by-in : (used : ℕ → Bool) (stands : Bool) (name : List ℕ) (at : At) (cells : ℕ) (o : Option Shown) → is_outside at cells ≡ false → ShownOn cells o → EntryIn (field_by used stands name at cells o)
  field-by-in used stands name at cells None within on = tt
  field-by-in used stands name at cells (Some shown) within on =
      refused-in (not stands) _ (field_on used (field_with name at cells shown)) (λ e. refused-in _ _ (entry.Field (field_with name at cells shown)) (λ f. field-is name at cells shown within on))

  field-in-in : (used : ℕ → Bool) (begun : Bool) (part : Left) (o : Option FieldBody) → EntryIn (field_in laid used begun part o)
  field-in-in used begun part None = tt
  field-in-in used begun part (Some body) =
      refused-in body.clauses.unknown _ _
      (λ known. refused-in (is_outside body.at (extent_of part.text body.clauses)) _ _
      (λ within. field-by-in used (may_stand begun part) (field_name part.text (own_name_of part)) body.at (extent_of part.text body.clauses) (shown_of part.text laid body.clauses) within
      (shown-by-on part.text body.clauses.picture body.clauses.value (body.clauses.repeated || names_item body.clauses) (only_item body.clauses)
      (unless-serves (body.clauses.repeated || body.clauses.subscripted) _ (only-serves body.clauses.from body.clauses.to body.clauses.using)))))

  screen-by-in : (text : List ℕ) (o : Option Token) (b : Bool) → EntryIn (screen_by text o b)
  screen-by-in text None b = tt
  screen-by-in text (Some name) true = tt
  screen-by-in text (Some name) false = tt

  entry-by-in : (b : Bool) (one other : ScreenEntry) → EntryIn one → EntryIn other → EntryIn (if b then one else other)
  entry-by-in true one other f g = f
  entry-by-in false one other f g = g

  entry-in : (before : ScreenEntriesBefore) (part : Left) → EntryIn (screen_entry_of laid before part)
  entry-in before part =
      entry-by-in (begins_screen part) (screen_head_entry before.names part) (field_of laid before.fields before.used before.begun part)
      (refused-in (has_bad_picture part) _ _ (λ e. refused-in (is_twice part.text before.names (name_of part)) _ _ (λ f. screen-by-in part.text (name_of part) _)))
      (refused-in (has_bad_picture part) _ _ (λ e. refused-in (is_twice part.text before.fields (own_name_of part)) _ _ (λ f. field-in-in before.used before.begun part (form_of laid part))))

  all-in : (text : List ℕ) (before : ScreenEntriesBefore) (parts : List (List Token)) → Each (λ (placed : PlacedEntry). EntryIn placed.entry) (placed_from text laid before parts)
  unfolding placed_from
  all-in text before [] = tt
  all-in text before (part ∷ parts) = (entry-in before (left_of text part), all-in text (after_screen_entry before (left_of text part) (screen_entry_of laid before (left_of text part))) parts)

  -- ---- screens

  abbrev BehindIn : ScreensBehind → Type 0
  BehindIn rest = All (IsField long) rest.fields × Each (IsTable long) rest.tables

  with-entry-in : (one : ScreenEntry) (rest : ScreensBehind) → EntryIn one → BehindIn rest → BehindIn (with_entry one rest)
  with-entry-in (entry.Screen name) rest own all = (All-nil (IsField long), (all.0, all.1))
  with-entry-in (entry.Field field) rest own all = (All-cons (IsField long) field rest.fields own all.0, all.1)
  with-entry-in (entry.Refused code) rest own all = all

  behind-in : (entries : List PlacedEntry) → Each (λ (placed : PlacedEntry). EntryIn placed.entry) entries → BehindIn (screen_entries_behind entries)
  behind-in [] each = (All-nil (IsField long), tt)
  behind-in (placed ∷ entries) each = with-entry-in placed.entry (screen_entries_behind entries) each.0 (behind-in entries each.1)

-- the screens that were read are tables of a program with the storage of the layout
pub screens-tables : (text : List ℕ) (tokens : List Token) (laid : Laid) (tables : List ScreenTable) → IsLayout false laid → screens_of text tokens laid ≡ Ok tables
    → Each (IsTable (length laid.storage)) tables
screens-tables text tokens laid tables known is =
    let entries = placed_from text laid (at_first laid) (division_entries_of tokens) in
    subst (Each (IsTable (length laid.storage))) (unless-is (least None (faults_of entries)) (screen_entries_behind entries).tables tables is)
    (behind-in laid known entries (all-in laid known text (at_first laid) (division_entries_of tokens))).1
