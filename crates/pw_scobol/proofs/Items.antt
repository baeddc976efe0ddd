-- In a layout without a fault the first item of a name is that of the entry that has the name.
use Rattle.std.proofs.Common.{◌≡◌, ℕ, ◌+◌, ◌*◌, Bool, true, false, List, [], ◌∷◌, ◌++◌, Option, Some, None, Ok, ◌⊎◌, inl, inr, refl, sym, ap, subst, ◌∙◌, append_assoc}
use Rattle.std.specs.Prelude.{◌||◌, find, if◌then◌else◌}
use Rattle.std.specs.List.{list_any}
use Rattle.std.specs.Str.{str_to_ascii_lowercase}
use Rattle.std.specs.Cmp.Lexicographic.{bytes_decides}
use Rattle.std.proofs.lemmas.List.Folds.{list_any-append}
use Rattle.std.proofs.lemmas.Bool.{or_parts}
use Rattle.pw_base.specs.declared.fault_code.FaultCode.TheVariants.{NameTwice}
use Rattle.pw_base.specs.First.{least}
use Rattle.pw_base.proofs.FirstFault.{least-none}
use Rattle.pw_base.proofs.Plain.{append-none}
use Rattle.pw_words.specs.Words.{Word, same_word}
use Rattle.pw_text.specs.declared.token.Token.{Token}
use Rattle.pw_data.specs.declared.entry.Entry.{Entry}
use Rattle.pw_data.specs.declared.item.ItemTable.{ItemTable}
use Rattle.pw_data.specs.declared.item.Item.{Item}
use Rattle.pw_data.specs.Entries.{data_fault_if, faults_of_parts}
use Rattle.pw_data.specs.Parts.{parts_of}
use Rattle.pw_data.specs.Tree.{Forest, Empty, Node, stands_in, inside, past, forest, tree_faults}
use Rattle.pw_data.specs.Names.{name_of, is_this_name, is_taken, clashes}
use Rattle.pw_data.specs.Laid.{too_large, times, table_of, size_in, items_in}
use Rattle.pw_data.specs.Layouts.{Laid, no_table, laid, entries_in, faults_in, first_fault, layout_of}
use Rattle.pw_data.proofs.StoreLaws.{no_fault-here, unless-ok, none-first}

-- one of a list
abbrev pub Among : {A : Type 0} → A → List A → Type 0
Among x [] = ⊥
Among x (y ∷ ys) = (x ≡ y) ⊎ Among x ys

-- the entries of trees, each in front of its members
abbrev flat : Forest → List Entry
flat Empty = []
flat (Node entry members behind) = entry ∷ (flat members ++ flat behind)

split-by : (m : Entry) (ms inner outer rest : Forest) (b : Bool) → flat inner ++ flat outer ≡ flat rest
    → flat (if b then Node m ms inner else Empty) ++ flat (if b then outer else Node m ms rest) ≡ flat (Node m ms rest)
split-by m ms inner outer rest true is =
    ap (λ (xs : List Entry). m ∷ xs) (append_assoc (flat ms) (flat inner) (flat outer) ∙ ap (λ (xs : List Entry). flat ms ++ xs) is)
split-by m ms inner outer rest false is = refl

flat-split : (e : Entry) (f : Forest) → flat (inside e f) ++ flat (past e f) ≡ flat f
flat-split e Empty = refl
flat-split e (Node m ms r) = split-by m ms (inside e r) (past e r) r (stands_in e m) (flat-split e r)

flat-forest : (entries : List Entry) → flat (forest entries) ≡ entries
unfolding forest
flat-forest [] = refl
flat-forest (e ∷ es) = ap (λ (xs : List Entry). e ∷ xs) (flat-split e (forest es) ∙ flat-forest es)

-- the item is that of the entry
pub record IsItemOf (text : List ℕ) (entry : Entry) (item : Item) : Type 0 where
  pub name : item.name ≡ name_of text entry
  pub level : item.level ≡ entry.level
  pub linked : item.linked ≡ entry.linked

-- an item for each entry
abbrev Match : List ℕ → List Entry → List Item → Type 0
Match text [] [] = Unit {0}
Match text [] (item ∷ items) = ⊥
Match text (entry ∷ entries) [] = ⊥
Match text (entry ∷ entries) (item ∷ items) = IsItemOf text entry item × Match text entries items

Match-append : (text : List ℕ) (es fs : List Entry) (is js : List Item) → Match text es is → Match text fs js → Match text (es ++ fs) (is ++ js)
Match-append text [] fs [] js front back = back
Match-append text [] fs (i ∷ is) js front back = absurd front
Match-append text (e ∷ es) fs [] js front back = absurd front
Match-append text (e ∷ es) fs (i ∷ is) js front back = (front.0, Match-append text es fs is js front.1 back)

items-match : (text : List ℕ) (at : ℕ) (around : ItemTable) (f : Forest) → Match text (flat f) (items_in text at around f)
items-match text at around Empty = tt
items-match text at around (Node e ms r) = (
  record { name = refl; level = refl; linked = refl },
  Match-append text (flat ms) (flat r) _ _ (items-match text at (table_of around e.occurs (e.size + size_in ms)) ms)
      (items-match text (at + times e * (e.size + size_in ms)) around r),
)

-- the first item of a name is that of an entry
pub record Finds (text : List ℕ) (items : List Item) (name : Word) (entry : Entry) : Type 0 where
  pub item : Item
  pub found : find (λ item. is_this_name item.name name) items ≡ Some item
  pub of : IsItemOf text entry item

not_taken-less : (text : List ℕ) (before : List Entry) (e : Entry) (name : Option Word) → is_taken text (before ++ e ∷ []) name ≡ false
    → (is_taken text before name ≡ false) × (is_taken text (e ∷ []) name ≡ false)
not_taken-less text before e None none = (refl, refl)
not_taken-less text before e (Some name) none =
    let test : Entry → Bool = λ entry. is_this_name (name_of text entry) name in
    or_parts (list_any test before) (list_any test (e ∷ [])) (sym (list_any-append test before (e ∷ [])) ∙ none)

-- where no two names clash, the name of an entry is that of none before
not_taken : (text : List ℕ) (before es : List Entry) (E : Entry) → clashes text before es ≡ [] → Among E es → is_taken text before (name_of text E) ≡ false
not_taken text before [] E none among = absurd among
not_taken text before (e ∷ es) E none (inl same) =
    let here = no_fault-here (is_taken text before (name_of text e)) e.line NameTwice (append-none (data_fault_if (is_taken text before (name_of text e)) e.line NameTwice) (clashes text (before ++ e ∷ []) es) none).0 in
    ap (λ (x : Entry). is_taken text before (name_of text x)) same ∙ here
not_taken text before (e ∷ es) E none (inr more) =
    let rest = (append-none (data_fault_if (is_taken text before (name_of text e)) e.line NameTwice) (clashes text (before ++ e ∷ []) es) none).1 in
    (not_taken-less text before e (name_of text E) (not_taken text (before ++ e ∷ []) es E rest more)).0

-- the same of an entry and one behind it
apart : (text : List ℕ) (before es : List Entry) (e E : Entry) → clashes text (before ++ e ∷ []) es ≡ [] → Among E es → is_taken text (e ∷ []) (name_of text E) ≡ false
apart text before es e E none more = (not_taken-less text before e (name_of text E) (not_taken text (before ++ e ∷ []) es E none more)).1

-- two names that are one word are the same
one_word : (a b word : Word) → same_word a word ≡ true → same_word b word ≡ true → same_word a b ≡ true
one_word a b word left right =
    let at_a = (bytes_decides (str_to_ascii_lowercase a) (str_to_ascii_lowercase word)).0 left in
    let at_b = (bytes_decides (str_to_ascii_lowercase b) (str_to_ascii_lowercase word)).0 right in
    (bytes_decides (str_to_ascii_lowercase a) (str_to_ascii_lowercase b)).1 (at_a ∙ sym at_b)

or-false : (a : Bool) → a ≡ true → (a || false) ≡ false → ⊥
or-false true is none = absurd cc
or-false false is none = absurd cc

clash-by : (name : Option Word) (own word : Word) → is_this_name name word ≡ true → same_word own word ≡ true → (is_this_name name own || false) ≡ false → ⊥
clash-by None own word is same none = absurd cc
clash-by (Some name) own word is same none = or-false (same_word name own) (one_word name own word is same) none

module _ (text : List ℕ) (E : Entry) (own word : Word) (own_is : name_of text E ≡ Some own) (same : same_word own word ≡ true) where
  passes : (e : Entry) (i : Item) → E ≡ e → IsItemOf text e i → is_this_name i.name word ≡ true
  passes e i is of =
      ap (λ (n : Option Word). is_this_name n word) (of.name ∙ ap (name_of text) (sym is) ∙ own_is) ∙ same

  -- an entry in front of E has another name
  other : (before es : List Entry) (e : Entry) (i : Item) → IsItemOf text e i → is_this_name i.name word ≡ true → clashes text (before ++ e ∷ []) es ≡ [] → Among E es → ⊥
  other before es e i of hits none more =
      let named : is_this_name (name_of text e) word ≡ true = sym (ap (λ (n : Option Word). is_this_name n word) of.name) ∙ hits in
      clash-by (name_of text e) own word named same (sym (ap (λ (n : Option Word). is_taken text (e ∷ []) n) own_is) ∙ apart text before es e E none more)

  found-by : (b : Bool) (before es : List Entry) (e : Entry) (i : Item) (is : List Item) → is_this_name i.name word ≡ b → IsItemOf text e i
      → clashes text (before ++ e ∷ []) es ≡ [] → (E ≡ e) ⊎ Among E es → (Among E es → Finds text is word E) → Finds text (i ∷ is) word E
  found-by true before es e i is hits of none (inl here) rest =
      record { item = i; found = rw hits refl; of = subst (λ (x : Entry). IsItemOf text x i) (sym here) of }
  found-by true before es e i is hits of none (inr more) rest = absurd (other before es e i of hits none more)
  found-by false before es e i is misses of none (inl here) rest = absurd (let hits = passes e i here of in cc)
  found-by false before es e i is misses of none (inr more) rest =
      let found = rest more in
      record { item = found.item; found = rw misses found.found; of = found.of }

  found-among : (before es : List Entry) (is : List Item) → Match text es is → clashes text before es ≡ [] → Among E es → Finds text is word E
  found-among before [] is match none among = absurd among
  found-among before (e ∷ es) [] match none among = absurd match
  found-among before (e ∷ es) (i ∷ is) match none among =
      let rest = (append-none (data_fault_if (is_taken text before (name_of text e)) e.line NameTwice) (clashes text (before ++ e ∷ []) es) none).1 in
      found-by (is_this_name i.name word) before es e i is refl match.0 rest among (λ more. found-among (before ++ e ∷ []) es is match.1 rest more)

-- a layout has the item of an entry with a name, and finds it by the name
pub item-of_entry : (text : List ℕ) (tokens : List Token) (server : Bool) (layout : Laid) → layout_of text tokens server ≡ Ok layout
    → (entry : Entry) (own word : Word) → Among entry (entries_in text tokens server) → name_of text entry ≡ Some own → same_word own word ≡ true
    → Finds text layout.items word entry
item-of_entry text tokens server layout is entry own word among own_is same =
    let entries : List Entry = entries_in text tokens server in
    let both = unless-ok (first_fault text tokens server) (laid text entries) layout is in
    let none : faults_in text tokens server ≡ [] = least-none (faults_in text tokens server) (none-first (least None (faults_in text tokens server)) (too_large 0 (forest entries)) both.0) in
    let parts = append-none (faults_of_parts server text (parts_of text tokens)) (tree_faults true false (forest entries) ++ clashes text [] entries) none in
    let clear = (append-none (tree_faults true false (forest entries)) (clashes text [] entries) parts.1).1 in
    let match : Match text entries (items_in text 0 no_table (forest entries)) =
    subst (λ (es : List Entry). Match text es (items_in text 0 no_table (forest entries))) (flat-forest entries) (items-match text 0 no_table (forest entries)) in
    subst (λ (l : Laid). Finds text l.items word entry) both.1 (found-among text entry own word own_is same [] entries (items_in text 0 no_table (forest entries)) match clear among)
