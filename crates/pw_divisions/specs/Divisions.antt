-- The divisions of a source, and the first token that may not stand in them.
use Rattle.std.specs.Prelude.{ℕ, ◌-◌, ◌==◌, slice_get, List, [], ◌∷◌, length, take_while, codes, Bool, true, false, not, ◌&&◌, ◌||◌, Option, Some, None, Result, Ok, Err, if◌then◌else◌}
use Rattle.pw_base.specs.declared.fault.Fault.{Fault}
use Rattle.pw_base.specs.declared.fault_code.FaultCode.TheVariants.{BadDivision}
use Rattle.pw_words.specs.Words.{Word}
use Rattle.pw_text.specs.declared.token.TokenKind.TheVariants as kind
use Rattle.pw_text.specs.declared.token.Token.{Token}
use Rattle.pw_text.specs.Cursor.{Left, has_kind, spelling, sees, sees_word, behind}
use Rattle.pw_data.specs.Parts.{left_of}
use Rattle.pw_divisions.specs.Divided.{DataDivision, Divided}
use Rattle.pw_divisions.specs.Entries.{division_entries_of}
use Rattle.pw_divisions.specs.Names.{level_of, own_name_of, with_name}
use Rattle.pw_divisions.specs.Steps.{TokenStep, ◌>>=◌, pure, word, period, up_to, some_tokens, between}

-- a division begins here: a word and DIVISION
abbrev pub begins_division : Left → Bool
begins_division left = sees kind.Word left && sees_word (codes "DIVISION") (behind 1 left)

-- a section of the data division begins here
abbrev pub begins_section : Left → Bool
begins_section left =
    (sees_word (codes "WORKING-STORAGE") left
    || (sees_word (codes "LINKAGE") left || sees_word (codes "SCREEN") left))
    && sees_word (codes "SECTION") (behind 1 left)

-- a text ends here: where a division begins, and within the data division also where a section begins
abbrev pub ends_text : Bool → Left → Bool
ends_text in_data left = (in_data && begins_section left) || begins_division left

-- the identification division of a program of this name
abbrev pub identification : Word → TokenStep (Unit {0})
identification name = do
  first ← word (codes "IDENTIFICATION")
  division ← word (codes "DIVISION")
  end ← period
  id ← word (codes "PROGRAM-ID")
  end ← period
  own ← word name
  period

-- behind ENVIRONMENT: its division, whose text goes up to the next division
abbrev pub environment_text : TokenStep (Unit {0})
environment_text = do
  division ← word (codes "DIVISION")
  end ← period
  text ← up_to (ends_text false)
  pure tt

-- the environment division, where it is there
abbrev pub environment : TokenStep (Unit {0})
environment = λ left.
    if sees_word (codes "ENVIRONMENT") left then environment_text (behind 1 left) else Ok (tt, left)

-- behind the name of a section: its entries, up to the end of the section
abbrev pub section_text : TokenStep (List Token)
section_text = do
  section ← word (codes "SECTION")
  end ← period
  up_to (ends_text true)

-- the entries of a section, where it may be there and is there
abbrev pub section : Bool → Word → TokenStep (List Token)
section may_be name = λ left.
    if may_be && sees_word name left then section_text (behind 1 left) else Ok ([], left)

-- no data
abbrev pub no_data : DataDivision
no_data = record { stored = []; linkage = []; screens = [] }

-- working storage and linkage: the entries of the second
abbrev pub stored_sections : Bool → TokenStep (List Token)
stored_sections server = do
  working ← section true (codes "WORKING-STORAGE")
  section (not server) (codes "LINKAGE")

-- these two with all their tokens, and the screens
abbrev pub sections : Bool → TokenStep DataDivision
sections server = λ left. (do
  linkage ← stored_sections server
  (λ rest. (do
    screens ← section (not server) (codes "SCREEN")
    pure (record { stored = between left rest; linkage = linkage; screens = screens })) rest)) left

-- behind DATA: its division
abbrev pub data_sections : Bool → TokenStep DataDivision
data_sections server = do
  division ← word (codes "DIVISION")
  end ← period
  sections server

-- the data division, where it is there
abbrev pub data_division : Bool → TokenStep DataDivision
data_division server = λ left.
    if sees_word (codes "DATA") left then data_sections server (behind 1 left) else Ok (no_data, left)

-- the name of an entry of level 01
abbrev pub parameter_by : Option ℕ → Option Token → Option Token
parameter_by None name = None
parameter_by (Some level) name = if level == 1 then name else None

-- the name of an entry of LINKAGE SECTION that USING may name
abbrev pub parameter_of : List ℕ → List Token → Option Token
parameter_of text entry =
    parameter_by (level_of (left_of text entry)) (own_name_of (left_of text entry))

-- these words, and the names of entries that USING may name
abbrev pub with_parameters : List ℕ → (Word → Bool) → List (List Token) → Word → Bool
with_parameters text names [] = names
with_parameters text names (entry ∷ entries) =
    with_parameters text (with_name text (parameter_of text entry) names) entries

-- the words that are names of level-01 items of LINKAGE SECTION, as they stand in its entries
abbrev pub parameters : List ℕ → List Token → Word → Bool
parameters text linkage = with_parameters text (λ word. false) (division_entries_of linkage)

-- the token is a name of this kind
abbrev pub is_parameter : List ℕ → (Word → Bool) → Token → Bool
is_parameter text names token = has_kind kind.Word token && names (spelling text token)

-- so many tokens, at least one
abbrev pub one_or_more : ℕ → TokenStep (List Token)
one_or_more count = λ left. if count == 0 then Err left else some_tokens count left

-- behind USING: one or more names of level-01 items of LINKAGE SECTION
abbrev pub used_names : List Token → TokenStep (List Token)
used_names linkage = λ left.
    let names = parameters left.text linkage in
    one_or_more (length (take_while (is_parameter left.text names) left.tokens)) left

-- USING and its names, where they may be there and are there
abbrev pub using_names : Bool → List Token → TokenStep (List Token)
using_names server linkage = λ left.
    if not server && sees_word (codes "USING") left
    then used_names linkage (behind 1 left)
    else Ok ([], left)

-- the words that begin the procedure division
abbrev pub begins_procedure : TokenStep (Unit {0})
begins_procedure = do
  first ← word (codes "PROCEDURE")
  word (codes "DIVISION")

-- the period behind the names of USING, which are given
abbrev pub period_behind : List Token → TokenStep (List Token)
period_behind names = do
  end ← period
  pure names

-- the heading of the procedure division: the names of its USING
abbrev pub procedure_heading : Bool → List Token → TokenStep (List Token)
procedure_heading server linkage = do
  division ← begins_procedure
  names ← using_names server linkage
  period_behind names

-- the divisions in front of the procedure division
abbrev pub front : Bool → Word → TokenStep DataDivision
front server name = do
  id ← identification name
  text ← environment
  data_division server

-- the divisions of a source of this name; all that is left behind the heading of the procedure division is its text
abbrev pub source : Bool → Word → TokenStep Divided
source server name = do
  «data» ← front server name
  names ← procedure_heading server «data».linkage
  (λ left. Ok (
    record {
      stored = «data».stored;
      screens = «data».screens;
      using_names = names;
      procedure = left.tokens;
    },
    left,
  ))

-- the line of a token, where there is one, and else this one
abbrev pub line_or : ℕ → Option Token → ℕ
line_or line None = line
line_or line (Some token) = token.line

-- the line of the token in front; where none is left, that of the last token of the text, or its first line
abbrev pub line_at : ℕ → List Token → List Token → ℕ
line_at first_line tokens [] = line_or first_line (slice_get tokens (length tokens - 1))
line_at first_line tokens (token ∷ rest) = token.line

-- the divisions, or a fault at the first token that may not stand where it is
abbrev pub divided : ℕ → List Token → Result (Divided × Left) Left → Result Divided Fault
divided first_line tokens (Ok found) = Ok found.0
divided first_line tokens (Err left) =
    Err (record { line = line_at first_line tokens left.tokens; code = BadDivision })

-- the divisions of a text, whose tokens these are and whose first line has a number, or its first fault
abbrev pub divisions_of : Bool → Word → List ℕ → List Token → ℕ → Result Divided Fault
divisions_of server name text tokens first_line =
    divided first_line tokens (source server name (left_of text tokens))
