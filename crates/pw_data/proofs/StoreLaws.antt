-- A layout has the store that its entries say.
use Rattle.std.proofs.Common.{◌≡◌, ℕ, Bool, true, false, not, List, [], ◌∷◌, ◌++◌, Option, Some, None, Ok, length, All, refl, sym, subst, arith}
use Rattle.std.specs.Prelude.{◌||◌, option_map, option_and_then, option_to_list}
use Rattle.std.specs.List.{list_any}
use Rattle.std.specs.Option.{option_or}
use Rattle.std.proofs.lemmas.List.{append-nil}
use Rattle.std.proofs.lemmas.Bool.{or_parts}
use Rattle.pw_base.specs.declared.fault_code.FaultCode.{FaultCode}
use Rattle.pw_base.specs.declared.fault_code.FaultCode.TheVariants.{BadDataEntry, BadPicture, NameTwice}
use Rattle.pw_base.specs.declared.fault.Fault.{Fault}
use Rattle.pw_base.specs.First.{least, unless}
use Rattle.pw_base.proofs.FirstFault.{least-none}
use Rattle.pw_base.proofs.Plain.{append-none}
use Rattle.pw_text.specs.declared.token.Token.{Token}
use Rattle.pw_data.specs.declared.reading.EntryParts.{EntryParts}
use Rattle.pw_data.specs.declared.entry.Entry.{Entry}
use Rattle.pw_data.specs.Parts.{Part, left_of, parts_of}
use Rattle.pw_data.specs.Entries.{data_fault_if, reading_of, line_of, proper_name, has_form, is_bad_picture, has_table_name, has_no_kind, is_bad_entry, is_bad_occurs, is_bad_value, entry_with, data_entry_of, part_faults, faults_of_parts, data_entries_of, KeepsPicture}
use Rattle.pw_data.specs.Tree.{forest, tree_faults}
use Rattle.pw_data.specs.Names.{clashes}
use Rattle.pw_data.specs.Laid.{too_large, size_in, items_in, chars_in}
use Rattle.pw_data.specs.Layouts.{FitsPicture, Laid, no_table, laid, entries_in, faults_in, first_fault, layout_of}
use Rattle.pw_data.specs.Store.{IsStoreOf, store_of, cells_in}
use Rattle.pw_data.proofs.Cells.{Good, Each, All-forest, joined-cells, length-chars}
use Rattle.pw_data.proofs.Held.{items-fit, is_kept}
use Rattle.pw_data.proofs.Kept.{Each-All}
use Rattle.pw_data.proofs.Stores.{Lie-cells}

pub no_fault-here : (is_fault : Bool) (line : ℕ) (code : FaultCode) → data_fault_if is_fault line code ≡ [] → is_fault ≡ false
no_fault-here true line code none = absurd cc
no_fault-here false line code none = refl

good-by : (text : List ℕ) (linked : Bool) (line : ℕ) (reading : EntryParts) (level : Option ℕ) → is_bad_entry text (option_map (entry_with text linked line reading) level) ≡ false
    → Each (Good text) (option_to_list (option_map (entry_with text linked line reading) level))
good-by text linked line reading None none = tt
good-by text linked line reading (Some level) none =
    let entry : Entry = entry_with text linked line reading level in
    (record { kind = (or_parts (has_no_kind text entry) (is_bad_occurs entry || is_bad_value text entry entry.clauses.value) none).0; kept = refl; size = refl; occurs = refl }, tt)

pub Each-append : (P : Entry → Type 0) (xs ys : List Entry) → Each P xs → Each P ys → Each P (xs ++ ys)
Each-append P [] ys front back = back
Each-append P (x ∷ xs) ys front back = (front.0, Each-append P xs ys front.1 back)

good-part : (server : Bool) (text : List ℕ) (part : Part) → part_faults server text part ≡ [] → Each (Good text) (option_to_list (data_entry_of server text part))
good-part server text part none =
    let reading : EntryParts = reading_of server (left_of text part.tokens) in
    let line : ℕ = line_of part.tokens in
    let pictures : List Fault = data_fault_if (list_any (is_bad_picture text) part.tokens) line BadPicture in
    let wrong : Bool = not (has_form reading) || is_bad_entry text (data_entry_of server text part) in
    let names : List Fault = data_fault_if (has_table_name server text (option_and_then (proper_name text) reading.name)) line NameTwice in
    let others = (append-none pictures (data_fault_if wrong line BadDataEntry ++ names) none).1 in
    let fine : wrong ≡ false = no_fault-here wrong line BadDataEntry (append-none (data_fault_if wrong line BadDataEntry) names others).0 in
    good-by text part.linked line reading reading.level (or_parts (not (has_form reading)) (is_bad_entry text (data_entry_of server text part)) fine).1

good-parts : (server : Bool) (text : List ℕ) (parts : List Part) → faults_of_parts server text parts ≡ [] → Each (Good text) (data_entries_of server text parts)
good-parts server text [] none = tt
good-parts server text (part ∷ parts) none =
    let both = append-none (part_faults server text part) (faults_of_parts server text parts) none in
    Each-append (Good text) (option_to_list (data_entry_of server text part)) (data_entries_of server text parts) (good-part server text part both.0) (good-parts server text parts both.1)

pub unless-ok : (fault : Option Fault) (value layout : Laid) → unless fault value ≡ Ok layout → (fault ≡ None) × (value ≡ layout)
unless-ok None value layout is = (refl, cc)
unless-ok (Some fault) value layout is = absurd cc

pub none-first : (a b : Option Fault) → option_or a b ≡ None → a ≡ None
none-first None b is = refl
none-first (Some fault) b is = absurd cc

store-of_entries : (text : List ℕ) (entries : List Entry) → Each (Good text) entries → tree_faults true false (forest entries) ≡ []
    → IsStoreOf (laid text entries) (cells_in text 0 1 (forest entries))
store-of_entries text entries good none =
    let items = items_in text 0 no_table (forest entries) in
    record {
      storage = joined-cells text 0 1 (forest entries);
      places = Lie-cells text items [] [] true false 0 1 no_table (forest entries) (All-forest (Good text) entries good) none (omega arith) (omega arith) (λ is. refl) (sym (append-nil items));
    }

-- what is known of the entries of a layout
pub record Fine (text : List ℕ) (tokens : List Token) (server : Bool) (layout : Laid) : Type 0 where
  pub is_laid : laid text (entries_in text tokens server) ≡ layout
  pub good : Each (Good text) (entries_in text tokens server)
  pub placed : tree_faults true false (forest (entries_in text tokens server)) ≡ []

pub fine : (text : List ℕ) (tokens : List Token) (server : Bool) (layout : Laid) → layout_of text tokens server ≡ Ok layout → Fine text tokens server layout
fine text tokens server layout is =
    let entries : List Entry = entries_in text tokens server in
    let both = unless-ok (first_fault text tokens server) (laid text entries) layout is in
    let none : faults_in text tokens server ≡ [] = least-none (faults_in text tokens server) (none-first (least None (faults_in text tokens server)) (too_large 0 (forest entries)) both.0) in
    let parts = append-none (faults_of_parts server text (parts_of text tokens)) (tree_faults true false (forest entries) ++ clashes text [] entries) none in
    record {
      is_laid = both.1;
      good = good-parts server text (parts_of text tokens) parts.0;
      placed = (append-none (tree_faults true false (forest entries)) (clashes text [] entries) parts.1).0;
    }

-- a layout begins with the store of its entries
pub store-of_layout : (text : List ℕ) (tokens : List Token) (server : Bool) (layout : Laid) → layout_of text tokens server ≡ Ok layout → IsStoreOf layout (store_of text tokens server)
store-of_layout text tokens server layout is =
    let known = fine text tokens server layout is in
    subst (λ l. IsStoreOf l (store_of text tokens server)) known.is_laid (store-of_entries text (entries_in text tokens server) known.good known.placed)

-- its storage is as long as its items say
pub length-of_layout : (text : List ℕ) (tokens : List Token) (server : Bool) (layout : Laid) → layout_of text tokens server ≡ Ok layout
    → length (chars_in text (forest (entries_in text tokens server))) ≡ size_in (forest (entries_in text tokens server))
length-of_layout text tokens server layout is =
    length-chars text (forest (entries_in text tokens server)) (All-forest (Good text) (entries_in text tokens server) (fine text tokens server layout is).good)

-- its items are as long as their pictures say
pub pictures-of_layout : (text : List ℕ) (tokens : List Token) (server : Bool) (layout : Laid) → layout_of text tokens server ≡ Ok layout
    → All FitsPicture (items_in text 0 no_table (forest (entries_in text tokens server)))
pictures-of_layout text tokens server layout is =
    let known = fine text tokens server layout is in
    items-fit text true false 0 no_table (forest (entries_in text tokens server)) (All-forest (Good text) (entries_in text tokens server) known.good) known.placed

Each-map : (P Q : Entry → Type 0) (entries : List Entry) → ((entry : Entry) → P entry → Q entry) → Each P entries → Each Q entries
Each-map P Q [] f each = tt
Each-map P Q (entry ∷ entries) f each = (f entry each.0, Each-map P Q entries f each.1)

-- its entries keep what their pictures say
pub kept-of_layout : (text : List ℕ) (tokens : List Token) (server : Bool) (layout : Laid) → layout_of text tokens server ≡ Ok layout → All (KeepsPicture text) (entries_in text tokens server)
kept-of_layout text tokens server layout is =
    Each-All (KeepsPicture text) (entries_in text tokens server) (Each-map (Good text) (KeepsPicture text) (entries_in text tokens server) (is_kept text) (fine text tokens server layout is).good)
