-- Items with a picture are as long as it says.
use Rattle.std.proofs.Common.{◌≡◌, ℕ, ◌+◌, ◌*◌, ◌≤◌, Bool, true, false, List, [], ◌++◌, length, drop, All, Option, Some, None, refl, sym, ap, ◌∙◌, subst, arith}
use Rattle.std.specs.Prelude.{◌&&◌, ◌||◌, nat_le, take_while, is_some, option_and_then, if◌then◌else◌, ◌==◌}
use Rattle.std.specs.List.{list_all}
use Rattle.std.proofs.lemmas.Bool.Decides.{nat_tests}
use Rattle.std.proofs.lemmas.List.Elements.{All-nil, All-cons, All-append}
use Rattle.pw_base.specs.declared.fault_code.FaultCode.TheVariants.{BadDataEntry}
use Rattle.pw_base.proofs.Plain.{append-none}
use Rattle.pw_picture.specs.declared.picture.Picture.{Picture}
use Rattle.pw_picture.specs.declared.picture.Picture.TheVariants.{Text, Number, Edited}
use Rattle.pw_picture.specs.Symbols.{longest, begins_with, bounded, symbols_behind}
use Rattle.pw_picture.specs.Grammar as grammar
use Rattle.pw_picture.specs.Grammar.{IsPicture, size_of, picture_of, is_run_of, is_edited, after_symbol, decimals, number_with, number_picture_of}
use Rattle.pw_text.specs.declared.token.Token.{Token}
use Rattle.pw_data.specs.declared.entry.Entry.{Entry}
use Rattle.pw_data.specs.declared.item.ItemKind.{ItemKind}
use Rattle.pw_data.specs.declared.item.ItemKind.TheVariants as kind
use Rattle.pw_data.specs.declared.item.ItemTable.{ItemTable}
use Rattle.pw_text.specs.Cursor.{spelling}
use Rattle.pw_data.specs.Entries.{KeepsPicture, picture_of_kind, picture_at, kind_of, has_picture, has_occurs, size_at}
use Rattle.pw_data.specs.Tree.{Forest, Empty, Node, is_group, is_misplaced, tree_faults}
use Rattle.pw_data.specs.Laid.{times, size_in, table_of, item_of, items_in}
use Rattle.pw_data.specs.Layouts.{FitsPicture}
use Rattle.pw_data.proofs.Cells.{Good, AllIn}
use Rattle.pw_data.proofs.Stores.{no_fault, Placed, placed, no_members}

-- a Text or Number picture is one that a text may be
abbrev IsHeld : Picture → Type 0
IsHeld (Text size) = (1 ≤ size) × (size ≤ longest)
IsHeld (Number digits places signed) = (1 ≤ digits) × (digits ≤ 18) × (places ≤ digits)
IsHeld (Edited symbols) = Unit {0}

held-number : (signed : Bool) (whole places : ℕ) (fits : Bool) (p : Picture) → (nat_le 1 (whole + places) && nat_le (whole + places) 18) ≡ fits
    → (if fits then Some (Number (whole + places) places signed) else None) ≡ Some p → IsHeld p
held-number signed whole places true p test is =
    let same : Number (whole + places) places signed ≡ p = cc in
    let some : 1 ≤ whole + places = grind (arith, nat_tests) in
    let few : whole + places ≤ 18 = grind (arith, nat_tests) in
    subst IsHeld same (some, few, omega arith)
held-number signed whole places false p test is = absurd cc

held-decimals : (signed : Bool) (whole : ℕ) (places : Option ℕ) (p : Picture) → option_and_then (λ n. number_with signed whole n) places ≡ Some p → IsHeld p
held-decimals signed whole None p is = absurd cc
held-decimals signed whole (Some n) p is = held-number signed whole n (nat_le 1 (whole + n) && nat_le (whole + n) 18) p refl is

pub held-text : (n : ℕ) (all : Bool) → (nat_le 1 n && all) ≡ true → 1 ≤ n
held-text n all run = grind (arith, nat_tests)

held-kind : (symbols : List ℕ) (run edited : Bool) (p : Picture) → length symbols ≤ longest → is_run_of 88 symbols ≡ run
    → (if run then Some (Text (length symbols)) else if edited then Some (Edited symbols) else number_picture_of symbols) ≡ Some p → IsHeld p
held-kind symbols true edited p short run is =
    let same : Text (length symbols) ≡ p = cc in
    subst IsHeld same (held-text (length symbols) (list_all (λ s. s == 88) symbols) run, short)
held-kind symbols false true p short run is = let same : Edited symbols ≡ p = cc in subst IsHeld same tt
held-kind symbols false false p short run is =
    let body : List ℕ = after_symbol 83 symbols in
    let whole : ℕ = length (take_while (λ s. s == 57) body) in
    held-decimals (begins_with 83 symbols) whole (decimals (drop whole body)) p is

held-bounded : (symbols : List ℕ) (short : Bool) (p : Picture) → nat_le (length symbols) longest ≡ short → option_and_then grammar.picture_of_symbols (if short then Some symbols else None) ≡ Some p → IsHeld p
held-bounded symbols true p short is =
    let few : length symbols ≤ longest = grind (arith, nat_tests) in
    held-kind symbols (is_run_of 88 symbols) (is_edited symbols) p few refl is
held-bounded symbols false p short is = absurd cc

held-symbols : (symbols : Option (List ℕ)) (p : Picture) → option_and_then grammar.picture_of_symbols (option_and_then bounded symbols) ≡ Some p → IsHeld p
held-symbols None p is = absurd cc
held-symbols (Some symbols) p is = held-bounded symbols (nat_le (length symbols) longest) p refl is

held : (bytes : List ℕ) (p : Picture) → picture_of bytes ≡ Some p → IsHeld p
held bytes p is = held-symbols (symbols_behind 0 bytes) p is

-- what is known of the picture of a kind
record Kinded (k : ItemKind) (size : ℕ) : Type 0 where
  valid : IsPicture (picture_of_kind k)
  long : size_of (picture_of_kind k) ≡ size

kinded : (p : Picture) (k : ItemKind) → IsHeld p → kind_of p ≡ Some k → Kinded k (size_of p)
kinded (Text size) k is_held is =
    let same : kind.Text size ≡ k = cc in
    subst (λ x. Kinded x size) same (record { valid = is_held; long = refl })
kinded (Number digits places signed) k is_held is =
    let same : kind.Number digits places signed ≡ k = cc in
    subst (λ x. Kinded x (size_of (Number digits places signed))) same (record { valid = is_held; long = refl })
kinded (Edited symbols) k is_held is = absurd cc

kinded-picture : (o : Option Picture) (k : ItemKind) → ((p : Picture) → o ≡ Some p → IsHeld p) → option_and_then kind_of o ≡ Some k → Kinded k (size_at o)
kinded-picture None k is_held is = absurd cc
kinded-picture (Some p) k is_held is = kinded p k (is_held p refl) is

-- the kind of an entry comes from a picture clause
record Clause (token : Option Token) (k : ItemKind) (size : ℕ) : Type 0 where
  some : is_some token ≡ true
  of_kind : Kinded k size

clause : (text : List ℕ) (token : Option Token) (k : ItemKind) → option_and_then kind_of (picture_at text token) ≡ Some k → Clause token k (size_at (picture_at text token))
clause text None k is = absurd cc
clause text (Some t) k is = record { some = refl; of_kind = kinded-picture (picture_of (spelling text t)) k (held (spelling text t)) is }

item-fits : (text : List ℕ) (at : ℕ) (table : ItemTable) (e : Entry) (ms : Forest) → Good text e → (is_group ms ≡ true → has_picture e ≡ false) → FitsPicture (item_of text at (e.size + size_in ms) table e)
item-fits text at table e ms good plain = λ k is.
    let found = clause text e.clauses.picture k is in
    let none : ms ≡ Empty = no_members ms (λ group. let has : has_picture e ≡ true = found.some in absurd (cc (plain group))) in
    let zero_size : size_in ms ≡ 0 = ap size_in none in
    (found.of_kind.valid, omega (arith, found.of_kind.long, good.size))

-- a good entry keeps what its picture says
pub is_kept : (text : List ℕ) (e : Entry) → Good text e → KeepsPicture text e
is_kept text e good = (good.kept, λ k is. (clause text e.clauses.picture k (sym good.kept ∙ is)).of_kind.valid)

-- the items of trees without a fault
pub items-fit : (text : List ℕ) (top table : Bool) (at : ℕ) (around : ItemTable) (f : Forest) → AllIn (Good text) f → tree_faults top table f ≡ [] → All FitsPicture (items_in text at around f)
items-fit text top table at around Empty all none = All-nil FitsPicture
items-fit text top table at around (Node e ms r) all none =
    let size : ℕ = e.size + size_in ms in
    let own : ItemTable = table_of around e.occurs size in
    let here = no_fault (is_misplaced top table (is_group ms) e) e.line BadDataEntry (tree_faults false (table || has_occurs e) ms ++ tree_faults top table r) none in
    let deeper = append-none (tree_faults false (table || has_occurs e) ms) (tree_faults top table r) here.1 in
    let fine : Placed table e ms = placed top table e ms here.0 in
    All-cons FitsPicture (item_of text at size own e) (items_in text at own ms ++ items_in text (at + times e * size) around r) (item-fits text at own e ms all.0 fine.plain)
    (All-append FitsPicture (items_in text at own ms) (items_in text (at + times e * size) around r)
    (items-fit text false (table || has_occurs e) at own ms all.1 deeper.0) (items-fit text top table (at + times e * size) around r all.2 deeper.1))
