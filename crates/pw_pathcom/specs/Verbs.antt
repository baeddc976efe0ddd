-- What a command does, by its words.
use Rattle.std.specs.Prelude.{ℕ, List, [], ◌∷◌, Option, None, Some, option_map, slice_index_or}
use Rattle.pw_words.specs.Texts.{pathcom_words}
use Rattle.pw_words.specs.Words.{Word, word_place}
use Rattle.pw_pathcom.specs.declared.verb.CommandKeyword.{CommandKeyword}
use Rattle.pw_pathcom.specs.declared.verb.CommandKeyword.TheVariants.{Set, Add, Start, Tcp, Term, Server, Initial, Program, MaxServers, MaxRestarts, Other}
use Rattle.pw_pathcom.specs.declared.verb.Object.{Object}
use Rattle.pw_pathcom.specs.declared.verb.Object.TheVariants as object
use Rattle.pw_pathcom.specs.declared.verb.CommandVerb.{CommandVerb}
use Rattle.pw_pathcom.specs.declared.verb.CommandVerb.TheVariants as verb

-- the keywords, in the order of the table of words
abbrev pub keywords : List CommandKeyword
keywords = Set ∷ Add ∷ Start ∷ Tcp ∷ Term ∷ Server ∷ Initial ∷ Program ∷ MaxServers ∷ MaxRestarts ∷ []

-- the keyword at a place of the table
abbrev pub keyword_at : Option ℕ → CommandKeyword
keyword_at None = Other
keyword_at (Some place) = slice_index_or keywords place Other

-- the keyword that a word is, in either case
abbrev pub keyword : Word → CommandKeyword
keyword word = keyword_at (word_place pathcom_words word)

-- the kind of object that a keyword names
abbrev pub object_of : CommandKeyword → Option Object
object_of Tcp = Some object.Tcp
object_of Term = Some object.Term
object_of Server = Some object.Server
object_of _ = None

-- ADD or START of an object
abbrev pub deed : CommandKeyword → CommandKeyword → Option CommandVerb
deed Add kind = option_map verb.Add (object_of kind)
deed Start kind = option_map verb.Start (object_of kind)
deed _ kind = None

-- what is set for terminals
abbrev pub set_for_terminals : CommandKeyword → Option CommandVerb
set_for_terminals Tcp = Some verb.SetTcp
set_for_terminals Initial = Some verb.SetInitial
set_for_terminals MaxRestarts = Some verb.SetRestarts
set_for_terminals _ = None

-- what is set for servers
abbrev pub set_for_servers : CommandKeyword → Option CommandVerb
set_for_servers Program = Some verb.SetProgram
set_for_servers MaxServers = Some verb.SetProcesses
set_for_servers _ = None

-- what is set for a kind of object
abbrev pub set_for : CommandKeyword → CommandKeyword → Option CommandVerb
set_for Term attribute = set_for_terminals attribute
set_for Server attribute = set_for_servers attribute
set_for _ attribute = None

-- SET of an attribute of a kind of object
abbrev pub setting : CommandKeyword → CommandKeyword → CommandKeyword → Option CommandVerb
setting Set kind attribute = set_for kind attribute
setting _ kind attribute = None

-- a verb with its operand
abbrev pub with_operand : Word → Option CommandVerb → Option (CommandVerb × Word)
with_operand operand verb = option_map (λ v. (v, operand)) verb

-- what a command does, and its operand, by its words; none where they are no command
abbrev pub command_of : List Word → Option (CommandVerb × Word)
command_of (a ∷ b ∷ operand ∷ []) = with_operand operand (deed (keyword a) (keyword b))
command_of (a ∷ b ∷ c ∷ operand ∷ []) = with_operand operand (setting (keyword a) (keyword b) (keyword c))
command_of _ = None
