-- What the fields of a screen show of a store and put into it, and of its storage.
use Rattle.std.proofs.Common.{◌≡◌, ℕ, ◌+◌, ◌-◌, ◌*◌, Bool, true, false, List, [], ◌∷◌, ◌++◌, length, find, take, drop, Option, Some, None, if◌then◌else◌, refl, sym, ap, ◌∙◌, subst, arith}
use Rattle.std.specs.Prelude.{option_map, ◌%◌, ◌^◌}
use Rattle.std.proofs.lemmas.List.{append-nil}
use Rattle.pw_picture.specs.Grammar.{size_of}
use Rattle.pw_picture.specs.Stored.{size_at, is_negative}
use Rattle.pw_picture.specs.declared.picture.Picture.{Picture}
use Rattle.pw_data.specs.Entries.{picture_of_kind}
use Rattle.pw_words.specs.Words.{Word}
use Rattle.pw_data.specs.Layouts.{FitsPicture, place_at}
use Rattle.pw_data.specs.Names.{is_this_name}
use Rattle.pw_data.specs.declared.item.Item.{Item}
use Rattle.pw_data.specs.declared.item.Place.{Place}
use Rattle.pw_data.specs.Store.{joined}
use Rattle.pw_data.specs.declared.item.ItemKind.{ItemKind}
use Rattle.pw_data.specs.declared.item.ItemKind.TheVariants as kinds
use Rattle.pw_operands.specs.Resolved.{Each}
use Rattle.pw_code.specs.declared.field.Field.{Field}
use Rattle.pw_code.specs.declared.field.FieldKind.{FieldKind}
use Rattle.pw_code.specs.declared.field.FieldKind.TheVariants as fields
use Rattle.pw_terminal.specs.Shown as shown
use Rattle.pw_terminal.specs.Entries.{is_entry_field}
use Rattle.pw_terminal.proofs.Written.{length-fitted}
use Rattle.pw_tree_meaning.specs.Program.{Program}
use Rattle.pw_tree_meaning.specs.Store.{Store, Spot}
use Rattle.pw_tree_meaning.specs.Screens as screens
use Rattle.pw_tree_meaning.specs.Values.{number_in}
use Rattle.pw_tree_meaning.proofs.Resolved.{each-found}
use Rattle.pw_tree_meaning.proofs.storage.Cuts.{Cut}
use Rattle.pw_code_meaning.specs.Entries as entry
use Rattle.pw_compiler_laws.proofs.Flat.{flat-chars, flat-put}
use Rattle.pw_compiler_laws.proofs.Ground.{Ground, IsCut, cut-kept, ground-kept}
use Rattle.pw_code_meaning.proofs.Written.{length-chars_of}
use Rattle.pw_compiler_laws.specs.Premises.{IsItemAt, IsShownOf}

-- the item of a field is a run of cells of the store
pub record SitsAt (store : Store) (at : ℕ) (source : Picture) : Type 0 where
  pub kind : ItemKind
  pub shown : source ≡ picture_of_kind kind
  pub cut : Cut store at (size_of source)

abbrev pub FieldSits : Store → FieldKind → Type 0
FieldSits store (fields.Literal text) = Unit {0}
FieldSits store (fields.Item picture at source show) = SitsAt store at source

abbrev spot_at : ℕ → Picture → Spot
spot_at at source = record { at = at; size = size_of source; picture = Some source }

-- ---- from the program

kind-by : (o : Option ItemKind) (source : Picture) → option_map picture_of_kind o ≡ Some source → (kind : ItemKind) × (o ≡ Some kind) × (picture_of_kind kind ≡ source)
kind-by None source e = absurd cc
kind-by (Some kind) source e = (kind, refl, cc)

item-sits-by : (program : Program) (store : Store) (at : ℕ) (source : Picture) (name : Word) (place : Place) (o : Option Item) → find (λ (one : Item). is_this_name one.name name) program.layout.items ≡ o
    → Each FitsPicture program.layout.items → Ground program store → option_map place_at o ≡ Some place → at ≡ place.at → place.picture ≡ Some source → SitsAt store at source
item-sits-by program store at source name place None found fits ground there same shown = absurd cc
item-sits-by program store at source name place (Some item) found fits ground there same shown =
    let lies : place_at item ≡ place = cc in
    let fit : FitsPicture item = each-found FitsPicture (λ (one : Item). is_this_name one.name name) program.layout.items item fits found in
    let cuts : IsCut store item = each-found (IsCut store) (λ (one : Item). is_this_name one.name name) program.layout.items item ground.0 found in
    let k = kind-by item.kind source (ap (λ (p : Place). p.picture) lies ∙ shown) in
    let long : size_of source ≡ item.size = ap size_of (sym k.2) ∙ (fit k.0 k.1).1 in
    let first : item.at + (1 - 1) * item.step ≡ at = let here : item.at + (1 - 1) * item.step ≡ item.at = omega arith in here ∙ ap (λ (p : Place). p.at) lies ∙ sym same in
    record {
      kind = k.0;
      shown = sym k.2;
      cut = subst (λ n. Cut store at n) (sym long) (subst (λ n. Cut store n item.size) first (cuts 1 (omega arith) (omega arith)));
    }

item-sits-at : (program : Program) (store : Store) (at : ℕ) (source : Picture) → Each FitsPicture program.layout.items → Ground program store
    → IsItemAt program.layout at source → SitsAt store at source
item-sits-at program store at source fits ground is =
    item-sits-by program store at source is.name is.place (find (λ (one : Item). is_this_name one.name is.name) program.layout.items) refl fits ground is.there is.same is.shown

pub field-sits : (program : Program) (store : Store) (one : FieldKind) → Each FitsPicture program.layout.items → Ground program store
    → IsShownOf program.layout one → FieldSits store one
field-sits program store (fields.Literal text) fits ground is = tt
field-sits program store (fields.Item picture at source show) fits ground is = item-sits-at program store at source fits ground is

pub fields-sit : (program : Program) (store : Store) (ones : List Field) → Each FitsPicture program.layout.items → Ground program store
    → Each (λ (field : Field). IsShownOf program.layout field.shown) ones → Each (λ (field : Field). FieldSits store field.shown) ones
fields-sit program store [] fits ground each = tt
fields-sit program store (one ∷ ones) fits ground each =
    (field-sits program store one.shown fits ground each.0, fields-sit program store ones fits ground each.1)

-- ---- what is shown

chars-same : (store : Store) (tail : List ℕ) (spot : Spot) → Cut store spot.at spot.size
    → take spot.size (drop spot.at (joined store ++ tail)) ≡ take spot.size (drop spot.at (joined store))
chars-same store tail spot cut =
    flat-chars spot store tail cut ∙ sym (flat-chars spot store [] cut) ∙ ap (λ chars. take spot.size (drop spot.at chars)) (append-nil (joined store))

text-same : (store : Store) (tail : List ℕ) (one : FieldKind) → FieldSits store one → shown.field_text (joined store ++ tail) one ≡ shown.field_text (joined store) one
text-same store tail (fields.Literal text) sits = refl
text-same store tail (fields.Item picture at source true) sits = ap (shown.as_shown picture source) (chars-same store tail (spot_at at source) sits.cut)
text-same store tail (fields.Item picture at source false) sits = refl

pub shown-same : (base : Bool) (store : Store) (tail : List ℕ) (ones : List Field) (cells : List ℕ) → Each (λ (field : Field). FieldSits store field.shown) ones
    → shown.with_fields base (joined store ++ tail) ones cells ≡ shown.with_fields base (joined store) ones cells
shown-same base store tail [] cells each = refl
shown-same base store tail (one ∷ ones) cells each =
    ap (λ (text : List ℕ). shown.with_fields base (joined store ++ tail) ones (if shown.is_put base one.shown then shown.written (shown.cell_place one.row one.column) text cells else cells))
    (text-same store tail one.shown each.0)
    ∙ shown-same base store tail ones (shown.with_field base (joined store) one cells) each.1

-- ---- what is entered

length-entered : (kind : ItemKind) (value : List ℕ) → length (screens.entered_chars (picture_of_kind kind) value) ≡ size_of (picture_of_kind kind)
length-entered (kinds.Text size) value = length-fitted size value
length-entered (kinds.Number digits places sign) value =
    length-chars_of digits (size_at places (number_in value) % 10 ^ digits) sign (is_negative (number_in value))

entered-in : (one : FieldKind) (value : List ℕ) (store : Store) (tail : List ℕ) → FieldSits store one
    → entry.entered_in one value (joined store ++ tail) ≡ joined (screens.entered_in one value store) ++ tail
entered-in (fields.Literal text) value store tail sits = refl
entered-in (fields.Item picture at source show) value store tail sits =
    flat-put (spot_at at source) (screens.entered_chars source value) tail store sits.cut
    (subst (λ (p : Picture). length (screens.entered_chars p value) ≡ size_of p) (sym sits.shown) (length-entered sits.kind value))

entered-by : (o : Option Field) (value : List ℕ) (store : Store) (tail : List ℕ) → ((field : Field) → o ≡ Some field → FieldSits store field.shown)
    → entry.entered_by o value (joined store ++ tail) ≡ joined (screens.entered_by o value store) ++ tail
entered-by None value store tail sits = refl
entered-by (Some field) value store tail sits = entered-in field.shown value store tail (sits field refl)

kept-in : (one other : FieldKind) (value : List ℕ) (store : Store) → FieldSits store other → FieldSits (screens.entered_in one value store) other
kept-in (fields.Literal text) other value store sits = sits
kept-in (fields.Item picture at source show) (fields.Literal text) value store sits = tt
kept-in (fields.Item picture at source show) (fields.Item p a q s) value store sits =
    record { kind = sits.kind; shown = sits.shown; cut = cut-kept (spot_at at source) (screens.entered_chars source value) store a (size_of q) sits.cut }

kept-by : (o : Option Field) (other : FieldKind) (value : List ℕ) (store : Store) → FieldSits store other → FieldSits (screens.entered_by o value store) other
kept-by None other value store sits = sits
kept-by (Some field) other value store sits = kept-in field.shown other value store sits

kept-all : (o : Option Field) (value : List ℕ) (store : Store) (ones : List Field) → Each (λ (field : Field). FieldSits store field.shown) ones
    → Each (λ (field : Field). FieldSits (screens.entered_by o value store) field.shown) ones
kept-all o value store [] each = tt
kept-all o value store (one ∷ ones) each = (kept-by o one.shown value store each.0, kept-all o value store ones each.1)

pub entered-same : (ones : List Field) (pairs : List (List ℕ × List ℕ)) (store : Store) (tail : List ℕ) → Each (λ (field : Field). FieldSits store field.shown) ones
    → entry.storage_entered ones pairs (joined store ++ tail) ≡ joined (screens.store_entered ones pairs store) ++ tail
entered-same ones [] store tail each = refl
entered-same ones (pair ∷ pairs) store tail each =
    let o = find (is_entry_field pair.0) ones in
    ap (entry.storage_entered ones pairs) (entered-by o pair.1 store tail (λ field is. each-found (λ (one : Field). FieldSits store one.shown) (is_entry_field pair.0) ones field each is))
    ∙ entered-same ones pairs (screens.entered_by o pair.1 store) tail (kept-all o pair.1 store ones each)

ground-in : (program : Program) (one : FieldKind) (value : List ℕ) (store : Store) → Ground program store → Ground program (screens.entered_in one value store)
ground-in program (fields.Literal text) value store ground = ground
ground-in program (fields.Item picture at source show) value store ground = ground-kept program (spot_at at source) (screens.entered_chars source value) store ground

ground-by : (program : Program) (o : Option Field) (value : List ℕ) (store : Store) → Ground program store → Ground program (screens.entered_by o value store)
ground-by program None value store ground = ground
ground-by program (Some field) value store ground = ground-in program field.shown value store ground

pub entered-ground : (program : Program) (ones : List Field) (pairs : List (List ℕ × List ℕ)) (store : Store) → Ground program store
    → Ground program (screens.store_entered ones pairs store)
entered-ground program ones [] store ground = ground
entered-ground program ones (pair ∷ pairs) store ground =
    entered-ground program ones pairs (screens.entered_by (find (is_entry_field pair.0) ones) pair.1 store)
    (ground-by program (find (is_entry_field pair.0) ones) pair.1 store ground)
