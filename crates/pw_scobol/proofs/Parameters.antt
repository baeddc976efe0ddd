-- The names that USING may name are those of entries.
use Rattle.std.proofs.Common.{◌≡◌, ℕ, Bool, true, false, List, [], ◌∷◌, ◌++◌, Option, Some, None, ◌⊎◌, inl, inr, ⊎_elim, refl, sym, ap, ◌∙◌}
use Rattle.std.specs.Prelude.{◌==◌, slice_get, option_map, option_and_then, option_to_list}
use Rattle.std.specs.Char.{to_ascii_lowercase}
use Rattle.std.specs.Str.{str_to_ascii_lowercase, str_to_ascii_uppercase}
use Rattle.std.proofs.lemmas.Bool.{or_cases, eqb-true}
use Rattle.std.proofs.lemmas.Str.Ascii.{lowercase-uppercase}
use Rattle.pw_words.specs.Words.{Word, same_word}
use Rattle.pw_text.specs.declared.token.Token.{Token}
use Rattle.pw_text.specs.Cursor.{spelling}
use Rattle.pw_data.specs.declared.entry.Entry.{Entry}
use Rattle.pw_data.specs.Parts.{left_of, Part, part_of}
use Rattle.pw_data.specs.Entries.{data_name_token, proper_name, reading_of, line_of, entry_with, data_entry_of, data_entries_of}
use Rattle.pw_data.specs.Names.{name_of}
use Rattle.pw_divisions.specs.Names.{level_of, with_name}
use Rattle.pw_divisions.specs.Divisions.{parameter_by, parameter_of, with_parameters}
use Rattle.pw_scobol.proofs.Items.{Among}
use Rattle.pw_scobol.proofs.Linkage.{Among-behind}

-- an entry that USING may name by a word
pub record Parameter (text : List ℕ) (entries : List (List Token)) (word : Word) : Type 0 where
  pub tokens : List Token
  pub name : Token
  pub among : Among tokens entries
  pub name_is : parameter_of text tokens ≡ Some name
  pub same : same_word (spelling text name) word ≡ true

named-by : (text : List ℕ) (names : Word → Bool) (e : List Token) (es : List (List Token)) (word : Word) (name : Option Token) → parameter_of text e ≡ name
    → with_name text name names word ≡ true → (names word ≡ true) ⊎ Parameter text (e ∷ es) word
named-by text names e es word None is found = inl found
named-by text names e es word (Some name) is found =
    ⊎_elim (λ same. inr (record { tokens = e; name = name; among = inl refl; name_is = is; same = same })) (λ old. inl old)
    (or_cases (same_word (spelling text name) word) (names word) found)

parameter-behind : (text : List ℕ) (e : List Token) (es : List (List Token)) (word : Word) → Parameter text es word → Parameter text (e ∷ es) word
parameter-behind text e es word p = record { tokens = p.tokens; name = p.name; among = inr p.among; name_is = p.name_is; same = p.same }

parameter-known : (text : List ℕ) (names : Word → Bool) (entries : List (List Token)) (word : Word) → with_parameters text names entries word ≡ true
    → (names word ≡ true) ⊎ Parameter text entries word
parameter-known text names [] word found = inl found
parameter-known text names (e ∷ es) word found =
    ⊎_elim (λ old. named-by text names e es word (parameter_of text e) refl old) (λ p. inr (parameter-behind text e es word p))
    (parameter-known text (with_name text (parameter_of text e) names) es word found)

-- each of the names is that of an entry
pub parameter-of : (text : List ℕ) (entries : List (List Token)) (word : Word) → with_parameters text (λ w. false) entries word ≡ true → Parameter text entries word
parameter-of text entries word found =
    ⊎_elim (λ old. absurd cc) (λ p. p) (parameter-known text (λ w. false) entries word found)

-- ---- the entry as the data read it

at-level : (level : ℕ) (name : Option Token) (b : Bool) (token : Token) → (level == 1) ≡ b → parameter_by (Some level) name ≡ Some token → (level ≡ 1) × (name ≡ Some token)
at-level level name true token one is = (eqb-true level 1 one, rw one at is)
at-level level name false token one is = absurd (let none = rw one at is in cc)

read-by : (text : List ℕ) (level : Option ℕ) (second : Option Token) (token : Token)
    → parameter_by level (option_and_then (proper_name text) (option_and_then (λ l. second) level)) ≡ Some token
    → (level ≡ Some 1) × (option_and_then (proper_name text) second ≡ Some token)
read-by text None second token is = absurd cc
read-by text (Some level) second token is =
    let both = at-level level (option_and_then (proper_name text) second) (level == 1) token refl is in
    (ap (λ n. Some n) both.0, both.1)

-- an entry of level 01 in LINKAGE, with its name
pub record Read (text : List ℕ) (part : Part) (name : Token) : Type 0 where
  pub entry : Entry
  pub is : data_entry_of false text part ≡ Some entry
  pub level : entry.level ≡ 1
  pub linked : entry.linked ≡ true
  pub name_is : name_of text entry ≡ Some (spelling text name)

pub read-parameter : (text : List ℕ) (tokens : List Token) (name : Token) → parameter_of text tokens ≡ Some name → Read text (part_of true tokens) name
read-parameter text tokens name is =
    let reading = reading_of false (left_of text tokens) in
    let facts = read-by text (level_of (left_of text tokens)) (option_and_then (data_name_token false text) (slice_get tokens 1)) name is in
    record {
      entry = entry_with text true (line_of tokens) reading 1;
      is = ap (option_map (entry_with text true (line_of tokens) reading)) facts.0;
      level = refl;
      linked = refl;
      name_is = ap (option_map (spelling text)) facts.1;
    }

Among-front : {A : Type 0} (x : A) (xs ys : List A) → Among x xs → Among x (xs ++ ys)
Among-front x [] ys among = absurd among
Among-front x (z ∷ zs) ys (inl here) = inl here
Among-front x (z ∷ zs) ys (inr more) = inr (Among-front x zs ys more)

-- what the data read of a part is one of their entries
pub entry-among : (text : List ℕ) (parts : List Part) (part : Part) (entry : Entry) → Among part parts → data_entry_of false text part ≡ Some entry → Among entry (data_entries_of false text parts)
entry-among text [] part entry among is = absurd among
entry-among text (p ∷ ps) part entry (inl here) is =
    let at : data_entry_of false text p ≡ Some entry = sym (ap (data_entry_of false text) here) ∙ is in
    rw at (inl refl)
entry-among text (p ∷ ps) part entry (inr more) is =
    Among-behind entry (option_to_list (data_entry_of false text p)) (data_entries_of false text ps) (entry-among text ps part entry more is)

-- the case of a letter does not count
lower-upper : (word : Word) → str_to_ascii_lowercase (str_to_ascii_uppercase word) ≡ str_to_ascii_lowercase word
lower-upper [] = refl
lower-upper (b ∷ bs) = ap (λ c. c ∷ str_to_ascii_lowercase (str_to_ascii_uppercase bs)) (lowercase-uppercase b) ∙ ap (λ (rest : Word). to_ascii_lowercase b ∷ rest) (lower-upper bs)

pub same-upper : (name word : Word) → same_word name word ≡ true → same_word name (str_to_ascii_uppercase word) ≡ true
same-upper name word same = rw (lower-upper word) same
