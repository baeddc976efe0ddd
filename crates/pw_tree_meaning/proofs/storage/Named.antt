-- No item has the name of a register, which is a table word.
use Rattle.std.proofs.Common.{◌≡◌, ℕ, ◌+◌, ◌*◌, Bool, true, false, not, List, [], ◌∷◌, ◌++◌, find, ◌⊎◌, inl, inr, Option, Some, None, Ok, IsSome, is_some, refl, ap, ◌∙◌, subst, ⊎_elim}
use Rattle.std.specs.Prelude.{◌||◌, option_map, option_and_then, option_to_list, position, bytes_eq, codes, if◌then◌else◌}
use Rattle.std.specs.List.{list_any}
use Rattle.std.specs.Str.{str_to_ascii_lowercase}
use Rattle.std.proofs.lemmas.Slice.Eq.{bytes_eq-Decides}
use Rattle.pw_base.specs.declared.fault_code.FaultCode.TheVariants.{BadDataEntry, BadPicture, NameTwice}
use Rattle.pw_base.specs.declared.fault.Fault.{Fault}
use Rattle.pw_base.specs.First.{least}
use Rattle.pw_base.proofs.FirstFault.{least-none}
use Rattle.pw_base.proofs.Plain.{append-none}
use Rattle.pw_words.specs.Words.{Word, same_word}
use Rattle.pw_words.specs.Texts.{server_words, requester_words}
use Rattle.pw_text.specs.declared.token.Token.{Token}
use Rattle.pw_text.specs.Cursor.{spelling}
use Rattle.pw_data.specs.declared.reading.EntryParts.{EntryParts}
use Rattle.pw_data.specs.declared.entry.Entry.{Entry}
use Rattle.pw_data.specs.declared.item.Item.{Item}
use Rattle.pw_data.specs.declared.item.ItemTable.{ItemTable}
use Rattle.pw_data.specs.Parts.{Part, left_of, parts_of, is_table_word}
use Rattle.pw_data.specs.Entries.{data_fault_if, reading_of, line_of, proper_name, has_form, is_bad_picture, has_table_name, is_bad_entry, entry_with, data_entry_of, part_faults, faults_of_parts, data_entries_of}
use Rattle.pw_data.specs.Tree.{Forest, Empty, Node, forest, tree_faults}
use Rattle.pw_data.specs.Names.{is_this_name, clashes}
use Rattle.pw_data.specs.Laid.{times, size_in, table_of, items_in, too_large}
use Rattle.pw_data.specs.Layouts.{Laid, laid, no_table, entries_in, faults_in, first_fault, layout_of}
use Rattle.pw_data.proofs.Cells.{AllIn, All-forest}
use Rattle.pw_data.proofs.Cells as cells
use Rattle.pw_operands.specs.Resolved.{Each}
use Rattle.pw_operands.specs.declared.register.SpecialRegister.TheVariants.{TerminationStatus, RestartCounter, FileStatus}
use Rattle.pw_operands.specs.Variables.{register_of}
use Rattle.pw_tree_meaning.specs.Sound.{IsLayout}
use Rattle.pw_data.proofs.StoreLaws.{no_fault-here, Each-append, unless-ok, none-first, fine}
use Rattle.pw_tree_meaning.proofs.storage.Places.{each-append}

-- ---- entries

abbrev pub PlainEntry : Bool → List ℕ → Entry → Type 0
PlainEntry server text entry = has_table_name server text entry.name ≡ false

plain-by : (server : Bool) (text : List ℕ) (linked : Bool) (line : ℕ) (reading : EntryParts) (level : Option ℕ)
    → has_table_name server text (option_and_then (proper_name text) reading.name) ≡ false
    → cells.Each (PlainEntry server text) (option_to_list (option_map (entry_with text linked line reading) level))
plain-by server text linked line reading None plain = tt
plain-by server text linked line reading (Some level) plain = (plain, tt)

plain-part : (server : Bool) (text : List ℕ) (part : Part) → part_faults server text part ≡ [] → cells.Each (PlainEntry server text) (option_to_list (data_entry_of server text part))
plain-part server text part none =
    let reading : EntryParts = reading_of server (left_of text part.tokens) in
    let line : ℕ = line_of part.tokens in
    let pictures : List Fault = data_fault_if (list_any (is_bad_picture text) part.tokens) line BadPicture in
    let wrong : Bool = not (has_form reading) || is_bad_entry text (data_entry_of server text part) in
    let names : List Fault = data_fault_if (has_table_name server text (option_and_then (proper_name text) reading.name)) line NameTwice in
    let others = (append-none pictures (data_fault_if wrong line BadDataEntry ++ names) none).1 in
    let plain = no_fault-here (has_table_name server text (option_and_then (proper_name text) reading.name)) line NameTwice (append-none (data_fault_if wrong line BadDataEntry) names others).1 in
    plain-by server text part.linked line reading reading.level plain

plain-parts : (server : Bool) (text : List ℕ) (parts : List Part) → faults_of_parts server text parts ≡ [] → cells.Each (PlainEntry server text) (data_entries_of server text parts)
plain-parts server text [] none = tt
plain-parts server text (part ∷ parts) none =
    let both = append-none (part_faults server text part) (faults_of_parts server text parts) none in
    Each-append (PlainEntry server text) (option_to_list (data_entry_of server text part)) (data_entries_of server text parts) (plain-part server text part both.0) (plain-parts server text parts both.1)

plain-entries : (text : List ℕ) (tokens : List Token) (server : Bool) (layout : Laid) → layout_of text tokens server ≡ Ok layout
    → cells.Each (PlainEntry server text) (entries_in text tokens server)
plain-entries text tokens server layout is =
    let entries : List Entry = entries_in text tokens server in
    let both = unless-ok (first_fault text tokens server) (laid text entries) layout is in
    let none : faults_in text tokens server ≡ [] = least-none (faults_in text tokens server) (none-first (least None (faults_in text tokens server)) (too_large 0 (forest entries)) both.0) in
    plain-parts server text (parts_of text tokens) (append-none (faults_of_parts server text (parts_of text tokens)) (tree_faults true false (forest entries) ++ clashes text [] entries) none).0

-- ---- items

-- a name that is no table word, or none
abbrev PlainName : Bool → Option Word → Type 0
PlainName server None = Unit {0}
PlainName server (Some own) = is_table_word server own ≡ false

plain-name : (server : Bool) (text : List ℕ) (o : Option Token) → has_table_name server text o ≡ false → PlainName server (option_map (spelling text) o)
plain-name server text None plain = tt
plain-name server text (Some token) plain = plain

plain-items : (server : Bool) (text : List ℕ) (at : ℕ) (around : ItemTable) (f : Forest) → AllIn (PlainEntry server text) f
    → Each (λ x. PlainName server x.name) (items_in text at around f)
plain-items server text at around Empty all = tt
plain-items server text at around (Node e ms r) all =
    let size : ℕ = e.size + size_in ms in (
      plain-name server text e.name all.0,
      each-append (λ x. PlainName server x.name) (items_in text at (table_of around e.occurs size) ms) (items_in text (at + times e * size) around r)
          (plain-items server text at (table_of around e.occurs size) ms all.1) (plain-items server text (at + times e * size) around r all.2),
    )

-- ---- registers

lower-same : (a b : Word) → same_word a b ≡ true → str_to_ascii_lowercase a ≡ str_to_ascii_lowercase b
lower-same a b e = (bytes_eq-Decides (str_to_ascii_lowercase a) (str_to_ascii_lowercase b)).0 e

-- what is a table word in lower case is one
server-word : (own : Word) → str_to_ascii_lowercase own ≡ str_to_ascii_lowercase (codes "FILE-STATUS") → is_table_word true own ≡ true
unfolding is_table_word
server-word own e = ap (λ low. is_some (position (λ row. bytes_eq (str_to_ascii_lowercase row) low) server_words)) e ∙ refl

requester-word : (own : Word) (word : Word) → is_some (position (λ row. bytes_eq (str_to_ascii_lowercase row) (str_to_ascii_lowercase word)) requester_words) ≡ true
    → str_to_ascii_lowercase own ≡ str_to_ascii_lowercase word → is_table_word false own ≡ true
unfolding is_table_word
requester-word own word there e = ap (λ low. is_some (position (λ row. bytes_eq (str_to_ascii_lowercase row) low) requester_words)) e ∙ there

some-if : {A : Type 0} (b : Bool) (x : A) → IsSome (if b then Some x else None) → b ≡ true
some-if true x some = refl
some-if false x some = absurd cc

some-either : {A : Type 0} (a b : Bool) (x y : A) → IsSome (if a then Some x else if b then Some y else None) → (a ≡ true) ⊎ (b ≡ true)
some-either true b x y some = inl refl
some-either false true x y some = inr refl
some-either false false x y some = absurd cc

register-word : (server : Bool) (name own : Word) → same_word own name ≡ true → IsSome (register_of server name) → is_table_word server own ≡ true
register-word true name own same some =
    server-word own (lower-same own name same ∙ lower-same name (codes "FILE-STATUS") (some-if (same_word name (codes "FILE-STATUS")) FileStatus some))
register-word false name own same some =
    ⊎_elim
    (λ e. requester-word own (codes "TERMINATION-STATUS") refl (lower-same own name same ∙ lower-same name (codes "TERMINATION-STATUS") e))
    (λ e. requester-word own (codes "RESTART-COUNTER") refl (lower-same own name same ∙ lower-same name (codes "RESTART-COUNTER") e))
    (some-either (same_word name (codes "TERMINATION-STATUS")) (same_word name (codes "RESTART-COUNTER")) TerminationStatus RestartCounter some)

not-named : (server : Bool) (o : Option Word) (name : Word) → PlainName server o → IsSome (register_of server name) → is_this_name o name ≡ true → ⊥
not-named server None name plain some e = cc
not-named server (Some own) name plain some e = let word = register-word server name own e some in cc

none-by : {A : Type 0} (b : Bool) (x : A) (rest : Option A) → (b ≡ true → ⊥) → rest ≡ None → (if b then Some x else rest) ≡ None
none-by true x rest never none = absurd (never refl)
none-by false x rest never none = none

none-found : (server : Bool) (name : Word) (items : List Item) → IsSome (register_of server name) → Each (λ x. PlainName server x.name) items
    → find (λ item. is_this_name item.name name) items ≡ None
none-found server name [] some each = refl
none-found server name (x ∷ xs) some each =
    none-by (is_this_name x.name name) x (find (λ item. is_this_name item.name name) xs) (not-named server x.name name each.0 some) (none-found server name xs some each.1)

pub no-item : (server : Bool) (layout : Laid) → IsLayout server layout → (name : Word) → IsSome (register_of server name)
    → find (λ item. is_this_name item.name name) layout.items ≡ None
no-item server layout is name some =
    let f = forest (entries_in is.text is.tokens server) in
    let plain = All-forest (PlainEntry server is.text) (entries_in is.text is.tokens server) (plain-entries is.text is.tokens server layout is.is_laid) in
    subst (λ l. find (λ item. is_this_name item.name name) l.items ≡ None) (fine is.text is.tokens server layout is.is_laid).is_laid
    (none-found server name (items_in is.text 0 no_table f) some (plain-items server is.text 0 no_table f plain))
