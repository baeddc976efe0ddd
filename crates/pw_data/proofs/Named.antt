-- Names of entries.
use Rattle.std.proofs.Common.{◌≡◌, ℕ, Bool, true, false, List, [], ◌∷◌, ◌++◌, Option, Some, Result, Ok, Err, IfOk, OnOk, refl, sym, ap, ◌∙◌}
use Rattle.std.specs.Prelude.{◌||◌, bytes_eq}
use Rattle.std.specs.List.{list_any}
use Rattle.std.specs.Str.{str_to_ascii_lowercase}
use Rattle.pw_base.specs.declared.memory.Memory.{Memory}
use Rattle.pw_words.specs.Words.{Word, same_word}
use Rattle.pw_words.specs.Names.{has_name as has_name_as_written}
use Rattle.pw_data.specs.declared.entry.Entry.{Entry}
use Rattle.pw_data.specs.Names.{name_of, is_this_name, is_taken, has_name, HasNamesOf}

any-behind-by : (a b c : Bool) → c ≡ (b || a) → (x : Bool) → (x || c) ≡ (b || (x || a))
any-behind-by a true c is true = refl
any-behind-by a false c is true = refl
any-behind-by a b c is false = is

any-behind : (test : Entry → Bool) (xs : List Entry) (x : Entry) → list_any test (xs ++ x ∷ []) ≡ (test x || list_any test xs)
any-behind test [] x = refl
any-behind test (y ∷ ys) x = any-behind-by (list_any test ys) (test x) (list_any test (ys ++ x ∷ [])) (any-behind test ys x) (test y)

-- one name more, in lower case
pub named-folded : (result : Result Bool Memory) (names next : List Word) (name key : Word) → key ≡ str_to_ascii_lowercase name
    → OnOk result ((word : Word) → has_name_as_written next word ≡ (bytes_eq key word || has_name_as_written names word))
    → OnOk result ((word : Word) → has_name next word ≡ (same_word name word || has_name names word))
named-folded (Ok taken) names next name key key_is is =
    λ word. is (str_to_ascii_lowercase word) ∙ ap (λ k. bytes_eq k (str_to_ascii_lowercase word) || has_name names word) key_is
named-folded (Err memory) names next name key key_is is = tt

-- whether the name of an entry is taken, by a set of the names of those before it
pub taken-by_set : (text : List ℕ) (entries : List Entry) (name : Word) (names : List Word) → HasNamesOf text entries names → has_name names name ≡ is_taken text entries (Some name)
taken-by_set text entries name names has = has name

-- one name more
pub HasNamesOf-more : (text : List ℕ) (entries : List Entry) (entry : Entry) (name : Option Word) (names next : List Word) → name ≡ name_of text entry
    → ((word : Word) → has_name next word ≡ (is_this_name name word || has_name names word)) → HasNamesOf text entries names → HasNamesOf text (entries ++ entry ∷ []) next
HasNamesOf-more text entries entry name names next name_is next_is has word =
    next_is word ∙ ap (λ n. is_this_name n word || has_name names word) name_is ∙ ap (λ b. is_this_name (name_of text entry) word || b) (has word)
    ∙ sym (any-behind (λ e. is_this_name (name_of text e) word) entries entry)

-- the same of an entry with a name, by what putting the name there gives
module _ (text : List ℕ) (entry : Entry) (name : Word) (names next : List Word) (name_is : Some name ≡ name_of text entry) where
  pub named-taken : (result : Result Bool Memory) (entries : List Entry) → IfOk result (λ taken. taken ≡ has_name names name) → HasNamesOf text entries names
      → IfOk result (λ taken. taken ≡ is_taken text entries (name_of text entry))
  named-taken (Ok taken) entries is has = is ∙ taken-by_set text entries name names has ∙ ap (is_taken text entries) name_is
  named-taken (Err memory) entries is has = tt

  pub named-more : (result : Result Bool Memory) → OnOk result ((word : Word) → has_name next word ≡ (same_word name word || has_name names word))
      → OnOk result ((entries : List Entry) → HasNamesOf text entries names → HasNamesOf text (entries ++ entry ∷ []) next)
  named-more (Ok taken) is = λ entries has. HasNamesOf-more text entries entry (Some name) names next name_is is has
  named-more (Err memory) is = tt
