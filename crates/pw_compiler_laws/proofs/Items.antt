-- Places and operands of the code of a program whose names resolve lie in its storage.
use Rattle.std.proofs.Common.{◌≡◌, ℕ, ◌+◌, ◌-◌, ◌*◌, ◌≤◌, max, Bool, true, false, List, [], ◌∷◌, length, Option, Some, None, IfSome, IsTrue, refl, sym, ap, ◌∙◌, subst, arith}
use Rattle.std.specs.Prelude.{◌&&◌, ◌==◌, option_map, if◌then◌else◌, nat_le}
use Rattle.std.specs.Option.{ForSome, option_or}
use Rattle.std.proofs.lemmas.Bool.{and_parts, leb-true}
use Rattle.pw_base.specs.Limits.{most_occurrences, most_storage}
use Rattle.pw_picture.specs.Grammar.{IsPicture, size_of}
use Rattle.pw_picture.specs.declared.picture.Picture.TheVariants as picture
use Rattle.pw_words.specs.Words.{Word}
use Rattle.pw_data.specs.Entries.{count_at, count_of, picture_of_kind}
use Rattle.pw_data.specs.Laid.{times, size_in, table_of, items_in, too_large}
use Rattle.pw_data.specs.Layouts.{FitsPicture, EndsBy, Laid, no_table, entries_in, first_fault, laid, place_at, place_of}
use Rattle.pw_data.specs.Literals.{whole_number}
use Rattle.pw_data.specs.Names.{is_this_name}
use Rattle.pw_data.specs.Store.{joined}
use Rattle.pw_data.specs.Tree.{Forest, Empty, Node, forest}
use Rattle.pw_data.specs.declared.entry.Entry.{Entry}
use Rattle.pw_data.specs.declared.item.Item.{Item}
use Rattle.pw_data.specs.declared.item.ItemKind.{ItemKind}
use Rattle.pw_data.specs.declared.item.ItemKind.TheVariants as kinds
use Rattle.pw_data.specs.declared.item.ItemTable as tables
use Rattle.pw_text.specs.declared.token.Token.{Token}
use Rattle.pw_data.proofs.Cells.{Good, AllIn, All-forest}
use Rattle.pw_data.proofs.StoreLaws.{fine, length-of_layout, unless-ok}
use Rattle.pw_tree_meaning.proofs.storage.Places.{each-append}
use Rattle.pw_forms.specs.declared.operand.Operand.{Operand}
use Rattle.pw_forms.specs.declared.operand.Operand.TheVariants as operands
use Rattle.pw_forms.specs.declared.operand.Subscript.{Subscript}
use Rattle.pw_forms.specs.declared.operand.Subscript.TheVariants as subscripts
use Rattle.pw_operands.specs.Resolved.{Each, IsSubscript, HasSubscript, NamesVariable, IsItem, IsAny, IsAmount}
use Rattle.pw_operands.specs.Scope.{Scope, variable_in}
use Rattle.pw_operands.specs.Variables.{of_place, is_index, has_no_sign}
use Rattle.pw_operands.specs.declared.variable.Variable.{Variable}
use Rattle.pw_code.specs.Places as lies
use Rattle.pw_code.specs.Places.{IsPlace, IsOperand, picture_of}
use Rattle.pw_tree_meaning.specs.Program.{DeckModel, Program, item_named}
use Rattle.pw_tree_meaning.specs.Runs.{start}
use Rattle.pw_tree_meaning.specs.Sound.{scope_of, IsLayout}
use Rattle.pw_tree_meaning.specs.Store.{Store, initial_store}
use Rattle.pw_tree_meaning.proofs.Resolved.{each-found}
use Rattle.pw_compile.specs.Operands as code
use Rattle.pw_compiler_laws.specs.Premises.{IsLiteral, arguments_of}
use Rattle.pw_compiler_laws.proofs.Suits.{IsFew}
use Rattle.pw_compiler_laws.proofs.Arguments.{length-joined}
use Rattle.pw_compiler_laws.proofs.Ground.{Ground, IsCut}
use Rattle.pw_compiler_laws.proofs.Grounds.{known-of, ground-of}
use Rattle.pw_compiler_laws.proofs.Operands.{Known, item-variable}
use Rattle.std.specs.Prelude.{option_and_then}
use Rattle.pw_base.specs.First.{least}
use Rattle.pw_text.specs.Cursor.{spelling}
use Rattle.pw_data.specs.Layouts.{faults_in}
use Rattle.pw_data.proofs.Sizes.{too_large-none}
use Rattle.pw_code.specs.Instrs as instrs
use Rattle.pw_code.specs.Valid.{IsLinked}
use Rattle.pw_compile.specs.Programs.{linked_by}

-- ---- how often items occur

some-few : (o : Option ℕ) → IfSome o (λ n. n ≤ most_occurrences) → (n : ℕ) → o ≡ Some n → n ≤ most_occurrences
some-few None is n e = absurd cc
some-few (Some m) is n e = let same : m ≡ n = cc in omega (arith, is, same)

few-of : (n : ℕ) → IfSome (count_of n) (λ k. k ≤ most_occurrences)
few-of n = by (nat_le 1 n && nat_le n most_occurrences) refl
  where
    by : (b : Bool) → (nat_le 1 n && nat_le n most_occurrences) ≡ b → IfSome (if b then Some n else None) (λ k. k ≤ most_occurrences)
    by true e = leb-true n most_occurrences (and_parts (nat_le 1 n) (nat_le n most_occurrences) e).1
    by false e = tt

few-number : (o : Option ℕ) → IfSome (option_and_then count_of o) (λ k. k ≤ most_occurrences)
few-number None = tt
few-number (Some n) = few-of n

few-at : (text : List ℕ) (token : Option Token) → IfSome (count_at text token) (λ k. k ≤ most_occurrences)
few-at text None = tt
few-at text (Some token) = few-number (whole_number (spelling text token))

few-table : (text : List ℕ) (around : tables.ItemTable) (o : Option ℕ) (size : ℕ) → around.occurs ≤ most_occurrences → IfSome o (λ k. k ≤ most_occurrences) → (table_of around o size).occurs ≤ most_occurrences
few-table text around None size few is = few
few-table text around (Some n) size few is = is

few-items : (text : List ℕ) (at : ℕ) (around : tables.ItemTable) (f : Forest) → around.occurs ≤ most_occurrences → AllIn (Good text) f
    → Each (λ (x : Item). x.occurs ≤ most_occurrences) (items_in text at around f)
few-items text at around Empty few good = tt
few-items text at around (Node e ms r) few good =
    let size : ℕ = e.size + size_in ms in
    let table = table_of around e.occurs size in
    let own : IfSome e.occurs (λ k. k ≤ most_occurrences) = subst (λ o. IfSome o (λ k. k ≤ most_occurrences)) (sym good.0.occurs) (few-at text e.clauses.occurs) in
    let few_here = few-table text around e.occurs size few own in (
      few_here,
      each-append (λ (x : Item). x.occurs ≤ most_occurrences) (items_in text at table ms) (items_in text (at + times e * size) around r)
          (few-items text at table ms few_here good.1) (few-items text (at + times e * size) around r few good.2),
    )

pub few-of-layout : (server : Bool) (program : Program) → IsLayout server program.layout → Each (λ (x : Item). x.occurs ≤ most_occurrences) program.layout.items
few-of-layout server program is =
    let known = fine is.text is.tokens server program.layout is.is_laid in
    let f = forest (entries_in is.text is.tokens server) in
    subst (λ l. Each (λ (x : Item). x.occurs ≤ most_occurrences) l.items) known.is_laid
    (few-items is.text 0 no_table f (omega arith) (All-forest (Good is.text) (entries_in is.text is.tokens server) known.good))

-- an item ends in a storage
ends-at : (n : ℕ) (store : Store) (item : Item) → IsCut store item → length (joined store) ≡ n → EndsBy n item
ends-at n store item cuts long =
    let le = length-joined store (item.at + (max item.occurs 1 - 1) * item.step) item.size (cuts (max item.occurs 1) (omega arith) (omega arith)) in
    omega (arith, le, long)

-- ---- places

module _ (server : Bool) (deck : DeckModel) (program : Program) (is_laid : IsLayout server program.layout) where
  abbrev scope : Scope
  scope = scope_of server deck program

  abbrev long : ℕ
  long = length program.layout.storage

  known : Known server program
  known = known-of server program is_laid

  ground : Ground program (initial_store program)
  ground = ground-of server program is_laid

  item-ends : (name : Word) (item : Item) → item_named program name ≡ Some item → EndsBy long item
  item-ends name item is =
      ends-at long (initial_store program) item (each-found (IsCut (initial_store program)) (λ one. is_this_name one.name name) program.layout.items item ground.0 is) ground.1

  item-few : (name : Word) (item : Item) → item_named program name ≡ Some item → item.occurs ≤ most_occurrences
  item-few name item is = each-found (λ (x : Item). x.occurs ≤ most_occurrences) (λ one. is_this_name one.name name) program.layout.items item (few-of-layout server program is_laid) is

  fits-of : (name : Word) (item : Item) → item_named program name ≡ Some item → FitsPicture item
  fits-of name item is = each-found FitsPicture (λ one. is_this_name one.name name) program.layout.items item known.fits is

  -- the variable of a name that is an item's
  pub variable-of : (name : Word) (item : Item) (variable : Variable) → item_named program name ≡ Some item → variable_in scope name ≡ Some variable → of_place (place_at item) ≡ variable
  variable-of name item variable is found = item-variable server deck program known (start program []) [] ground name item variable is found

  picture-of : (o : Option ItemKind) (size : ℕ) → ForSome o (λ kind. IsPicture (picture_of_kind kind) × (size_of (picture_of_kind kind) ≡ size))
      → IfSome (picture_of (code.code_kind_of (option_map picture_of_kind o)) size) (λ p. IsPicture p × (size_of p ≡ size))
  picture-of None size fits = tt
  picture-of (Some (kinds.Text n)) size fits =
      let fit = fits (kinds.Text n) refl in
      (subst (λ m. IsPicture (picture.Text m)) fit.1 fit.0, refl)
  picture-of (Some (kinds.Number digits places sign)) size fits = fits (kinds.Number digits places sign) refl

  -- an item that is a subscript
  index-at : (o : Option ItemKind) (at size occurs step : ℕ) → ForSome o (λ kind. IsPicture (picture_of_kind kind) × (size_of (picture_of_kind kind) ≡ size))
      → has_no_sign (option_map picture_of_kind o) ≡ true → at + (max occurs 1 - 1) * step + size ≤ long → lies.IsSubscriptInStorage long (code.index_at at (option_map picture_of_kind o))
  index-at None at size occurs step fits plain ends = absurd cc
  index-at (Some (kinds.Text n)) at size occurs step fits plain ends = absurd cc
  index-at (Some (kinds.Number digits places true)) at size occurs step fits plain ends = absurd cc
  index-at (Some (kinds.Number digits places false)) at size occurs step fits plain ends =
      let fit = fits (kinds.Number digits places false) refl in (fit.0, omega (arith, fit.1, ends))

  subscript-lies : (occurs : ℕ) (one : Subscript) → occurs ≤ most_occurrences → IsSubscript scope one → lies.IsSubscriptInStorage long (code.subscript_of program.layout occurs one)
  subscript-lies occurs (subscripts.Number spelling) few is = omega (arith, few)
  subscript-lies occurs (subscripts.Item name) few is = by (item_named program name) refl
    where
      by : (o : Option Item) → item_named program name ≡ o → lies.IsSubscriptInStorage long (code.index_by (option_map place_at o) name)
      by None e = tt
      by (Some item) e =
          let v = variable-of name item is.variable e is.found in
          let index : is_index (of_place (place_at item)) ≡ true = ap is_index v ∙ is.passes in
          let parts = and_parts (has_no_sign (option_map picture_of_kind item.kind)) (item.occurs == 0) index in
          index-at item.kind item.at item.size item.occurs item.step (fits-of name item e) parts.0 (item-ends name item e)

  placed-lies : (name : Word) (item : Item) (subscript : Option Subscript) → item_named program name ≡ Some item → HasSubscript scope (of_place (place_at item)) subscript
      → IsPlace long (code.placed program.layout (place_at item) subscript)
  placed-lies name item None e has =
      record { picture = picture-of item.kind item.size (fits-of name item e); inside = let ends = item-ends name item e in omega (arith, ends) }
  placed-lies name item (Some one) e has =
      let ends = item-ends name item e in
      let some : max item.occurs 1 ≡ item.occurs = omega (arith, has.0) in
      record {
        picture = picture-of item.kind item.size (fits-of name item e);
        inside = record {
          subscript = subscript-lies item.occurs one (item-few name item e) has.1;
          some = omega (arith, has.0);
          few = item-few name item e;
          inside = subst (λ n. item.at + (n - 1) * item.step + item.size ≤ long) some ends;
        };
      }

  no-place : IsPlace long code.no_place
  no-place = record { picture = tt; inside = omega arith }

  -- what is known of a name that is an item's
  item-has : (test : Variable → Bool) (name : Word) (subscript : Option Subscript) (item : Item) → NamesVariable scope test name subscript → item_named program name ≡ Some item
      → HasSubscript scope (of_place (place_at item)) subscript
  item-has test name subscript item is e = subst (λ v. HasSubscript scope v subscript) (sym (variable-of name item is.variable e is.found)) is.subscripted

  named-place : (test : Variable → Bool) (name : Word) (subscript : Option Subscript) → NamesVariable scope test name subscript → IsPlace long (code.place_in program.layout (operands.Item name subscript))
  named-place test name subscript is = by (item_named program name) refl
    where
      by : (o : Option Item) → item_named program name ≡ o → IsPlace long (code.place_by program.layout (option_map place_at o) subscript)
      by None e = no-place
      by (Some item) e = placed-lies name item subscript e (item-has test name subscript item is e)

  named-operand : (test : Variable → Bool) (name : Word) (subscript : Option Subscript) → NamesVariable scope test name subscript → IsOperand long (code.operand_of program.layout (operands.Item name subscript))
  named-operand test name subscript is = by (item_named program name) refl
    where
      by : (o : Option Item) → item_named program name ≡ o → IsOperand long (code.operand_by program.layout (option_map place_at o) name subscript)
      by None e = tt
      by (Some item) e = placed-lies name item subscript e (item-has test name subscript item is e)

  -- ---- operands

  pub place-lies : (test : Variable → Bool) (one : Operand) → IsItem scope test one → IsPlace long (code.place_in program.layout one)
  place-lies test (operands.Item name subscript) is = named-place test name subscript is
  place-lies test (operands.Number digits) is = absurd is
  place-lies test (operands.Text chars) is = absurd is
  place-lies test operands.Spaces is = absurd is
  place-lies test operands.Zeros is = absurd is

  pub item-lies : (test : Variable → Bool) (one : Operand) → IsItem scope test one → IsOperand long (code.operand_of program.layout one)
  item-lies test (operands.Item name subscript) is = named-operand test name subscript is
  item-lies test (operands.Number digits) is = absurd is
  item-lies test (operands.Text chars) is = absurd is
  item-lies test operands.Spaces is = absurd is
  item-lies test operands.Zeros is = absurd is

  pub any-lies : (one : Operand) → IsAny scope one → IsLiteral one → IsOperand long (code.operand_of program.layout one)
  any-lies (operands.Item name subscript) is literal = named-operand (λ v. true) name subscript is
  any-lies (operands.Number digits) is literal = literal
  any-lies (operands.Text chars) is literal = tt
  any-lies operands.Spaces is literal = tt
  any-lies operands.Zeros is literal = tt

  pub amount-lies : (one : Operand) → IsAmount scope one → IsLiteral one → IsOperand long (code.operand_of program.layout one)
  amount-lies (operands.Item name subscript) is literal = named-operand _ name subscript is
  amount-lies (operands.Number digits) is literal = literal
  amount-lies (operands.Text chars) is literal = absurd is
  amount-lies operands.Spaces is literal = absurd is
  amount-lies operands.Zeros is literal = absurd is

  -- an item or register is one in the code too, and as long as its variable
  pub is-item-there : (test : Variable → Bool) (one : Operand) → IsItem scope test one → IsTrue (instrs.is_item (code.operand_of program.layout one))
  is-item-there test (operands.Item name subscript) is = by (item_named program name)
    where
      by : (o : Option Item) → IsTrue (instrs.is_item (code.operand_by program.layout (option_map place_at o) name subscript))
      by None = refl
      by (Some item) = refl
  is-item-there test (operands.Number digits) is = absurd is
  is-item-there test (operands.Text chars) is = absurd is
  is-item-there test operands.Spaces is = absurd is
  is-item-there test operands.Zeros is = absurd is

  -- an argument stands in no longer table than there may be
  place-few : (one : Operand) → IsFew (code.place_in program.layout one)
  place-few (operands.Item name subscript) = by (item_named program name) refl subscript
    where
      by : (o : Option Item) → item_named program name ≡ o → (sub : Option Subscript) → IsFew (code.place_by program.layout (option_map place_at o) sub)
      by None e sub = tt
      by (Some item) e None = tt
      by (Some item) e (Some one) = item-few name item e
  place-few (operands.Number digits) = tt
  place-few (operands.Text chars) = tt
  place-few operands.Spaces = tt
  place-few operands.Zeros = tt

  pub places-few : (ones : List Operand) → Each IsFew (arguments_of program ones)
  places-few [] = tt
  places-few (one ∷ ones) = (place-few one, places-few ones)

  -- the storage of a program
  pub storage-few : length program.layout.storage ≤ most_storage
  storage-few =
      let k = fine is_laid.text is_laid.tokens server program.layout is_laid.is_laid in
      let entries = entries_in is_laid.text is_laid.tokens server in
      let small : size_in (forest entries) ≤ most_storage = small-of entries in
      let whole : length program.layout.storage ≡ size_in (forest entries) =
      ap (λ (l : Laid). length l.storage) (sym k.is_laid) ∙ length-of_layout is_laid.text is_laid.tokens server program.layout is_laid.is_laid in
      omega (arith, whole, small)
    where
      or-second : {A : Type 0} (a b : Option A) → option_or a b ≡ None → b ≡ None
      or-second None b e = e
      or-second (Some x) b e = absurd cc

      small-of : (entries : List Entry) → size_in (forest (entries_in is_laid.text is_laid.tokens server)) ≤ most_storage
      small-of entries =
          let both = unless-ok (first_fault is_laid.text is_laid.tokens server) (laid is_laid.text (entries_in is_laid.text is_laid.tokens server)) program.layout is_laid.is_laid in
          let none = or-second (least None (faults_in is_laid.text is_laid.tokens server)) (too_large 0 (forest (entries_in is_laid.text is_laid.tokens server))) both.0 in
          let le = too_large-none 0 (forest (entries_in is_laid.text is_laid.tokens server)) (omega arith) none in
          omega (arith, le)

  -- an item of USING lies in it
  pub linked-lies : (name : Word) → IsLinked long (linked_by (place_of program.layout name))
  linked-lies name = by (item_named program name) refl
    where
      by : (o : Option Item) → item_named program name ≡ o → IsLinked long (linked_by (option_map place_at o))
      by None e = omega arith
      by (Some item) e = let ends = item-ends name item e in omega (arith, ends)
