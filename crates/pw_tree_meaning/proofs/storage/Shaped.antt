-- What is known of the trees of a layout.
use Rattle.std.proofs.Common.{◌≡◌, ℕ, Bool, true, false, List, [], ◌++◌, Option, Some, None, Ok, is_some, refl, sym, ap, ◌∙◌}
use Rattle.std.specs.Prelude.{◌||◌, option_and_then}
use Rattle.pw_base.specs.declared.fault_code.FaultCode.TheVariants.{BadDataEntry}
use Rattle.pw_base.proofs.Plain.{append-none}
use Rattle.pw_text.specs.declared.token.Token.{Token}
use Rattle.pw_data.specs.declared.entry.Entry.{Entry}
use Rattle.pw_data.specs.Entries.{kind_at, kind_of, has_occurs, picture_at, size_at}
use Rattle.pw_data.specs.Tree.{Forest, Empty, Node, forest, tree_faults, is_group, is_misplaced}
use Rattle.pw_data.specs.Layouts.{Laid, entries_in, layout_of}
use Rattle.pw_data.proofs.Cells.{Good, AllIn, All-forest}
use Rattle.pw_data.proofs.StoreLaws.{fine}
use Rattle.pw_data.proofs.Stores.{no_fault, Placed, placed, has_count}

-- ---- the shape of trees

-- an entry with OCCURS is in no other, and a group is not elementary and has no characters of its own
pub record ShapedEntry (text : List ℕ) (inside : Bool) (entry : Entry) (members : Forest) : Type 0 where
  pub alone : is_some entry.occurs ≡ true → inside ≡ false
  pub elementary : is_group members ≡ true → is_some (kind_at text entry) ≡ false
  pub size : is_group members ≡ true → entry.size ≡ 0
  pub good : Good text entry

abbrev pub Shaped : List ℕ → Bool → Forest → Type 0
Shaped text inside Empty = Unit {0}
Shaped text inside (Node entry members behind) =
    ShapedEntry text inside entry members × Shaped text (inside || has_occurs entry) members × Shaped text inside behind

no-picture : (text : List ℕ) (token : Option Token) → is_some token ≡ false → (is_some (option_and_then kind_of (picture_at text token)) ≡ false) × (size_at (picture_at text token) ≡ 0)
no-picture text None is = (refl, refl)
no-picture text (Some token) is = absurd cc

shaped-entry : (text : List ℕ) (top table : Bool) (e : Entry) (ms : Forest) → Good text e → Placed table e ms → ShapedEntry text table e ms
shaped-entry text top table e ms good fine = record {
  alone = λ has. fine.alone (has_count text e.clauses.occurs (ap is_some (sym good.occurs) ∙ has));
  elementary = λ group. (no-picture text e.clauses.picture (fine.plain group)).0;
  size = λ group. good.size ∙ (no-picture text e.clauses.picture (fine.plain group)).1;
  good = good;
}

shaped-trees : (text : List ℕ) (top table : Bool) (f : Forest) → AllIn (Good text) f → tree_faults top table f ≡ [] → Shaped text table f
shaped-trees text top table Empty all none = tt
shaped-trees text top table (Node e ms r) all none =
    let here = no_fault (is_misplaced top table (is_group ms) e) e.line BadDataEntry (tree_faults false (table || has_occurs e) ms ++ tree_faults top table r) none in
    let deeper = append-none (tree_faults false (table || has_occurs e) ms) (tree_faults top table r) here.1 in
    (shaped-entry text top table e ms all.0 (placed top table e ms here.0), shaped-trees text false (table || has_occurs e) ms all.1 deeper.0, shaped-trees text top table r all.2 deeper.1)

-- the trees of a layout are shaped
pub shaped : (text : List ℕ) (tokens : List Token) (server : Bool) (layout : Laid) → layout_of text tokens server ≡ Ok layout
    → Shaped text false (forest (entries_in text tokens server))
shaped text tokens server layout is =
    let known = fine text tokens server layout is in
    shaped-trees text true false (forest (entries_in text tokens server)) (All-forest (Good text) (entries_in text tokens server) known.good) known.placed
