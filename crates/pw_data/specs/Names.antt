-- Names that two items have.
use Rattle.std.specs.Prelude.{◌≡◌, ℕ, List, [], ◌∷◌, ◌++◌, Bool, false, Option, Some, None, option_map}
use Rattle.std.specs.List.{list_any}
use Rattle.std.specs.Str.{str_to_ascii_lowercase}
use Rattle.pw_base.specs.declared.fault_code.FaultCode.TheVariants.{NameTwice}
use Rattle.pw_base.specs.declared.fault.Fault.{Fault}
use Rattle.pw_words.specs.Words.{Word, same_word}
use Rattle.pw_words.specs.Names.{has_name as has_name_as_written}
use Rattle.pw_data.specs.declared.entry.Entry.{Entry}
use Rattle.pw_text.specs.Cursor.{spelling}
use Rattle.pw_data.specs.Entries.{data_fault_if}

-- the name of an entry, where it has one
abbrev pub name_of : List ℕ → Entry → Option Word
name_of text entry = option_map (spelling text) entry.name

-- there is a name, and it is this word
abbrev pub is_this_name : Option Word → Word → Bool
is_this_name None word = false
is_this_name (Some name) word = same_word name word

-- one of the entries has the name, where there is one
abbrev pub is_taken : List ℕ → List Entry → Option Word → Bool
is_taken text entries None = false
is_taken text entries (Some name) = list_any (λ entry. is_this_name (name_of text entry) name) entries

-- one of the names, which are in lower case, is this word
abbrev pub has_name : List Word → Word → Bool
has_name names word = has_name_as_written names (str_to_ascii_lowercase word)

-- the names are those of some entries
abbrev pub HasNamesOf : List ℕ → List Entry → List Word → Type 0
HasNamesOf text entries names =
    (word : Word) → has_name names word ≡ list_any (λ entry. is_this_name (name_of text entry) word) entries

-- NameTwice for each entry with a name that one before it has
abbrev pub clashes : List ℕ → List Entry → List Entry → List Fault
clashes text before [] = []
clashes text before (entry ∷ entries) =
    data_fault_if (is_taken text before (name_of text entry)) entry.line NameTwice ++ clashes text (before ++ entry ∷ []) entries
