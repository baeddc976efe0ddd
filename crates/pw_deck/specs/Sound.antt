-- When the tables of a deck are those of a valid system.
use Rattle.std.specs.Prelude.{◌≡◌, ◌<◌, ◌^◌, List, length, All}
use Rattle.pw_code.specs.Valid.{IsTerminal, IsClass, IsDeckFile, HasNames, HasFew}
use Rattle.pw_code.specs.declared.code.Code.{Code}
use Rattle.pw_code.specs.declared.field.ScreenTable.{ScreenTable}
use Rattle.pw_code.specs.declared.system.System.{System}
use Rattle.pw_deck.specs.declared.deck.ParsedDeck.{ParsedDeck}

-- what a valid system has besides the code of its programs
pub record AreTables (system : System) : Type 0 where
  pub terminals : All (IsTerminal system) system.terminals
  pub classes : All (IsClass system) system.classes
  pub files : All IsDeckFile system.files
  pub names : HasNames system
  pub few : HasFew system

-- the system of a deck, with the code of its programs and their screens
abbrev pub with_code : ParsedDeck → List Code → List Code → List ScreenTable → System
with_code deck programs servers screens = record deck.told.system { programs = programs; servers = servers; screens = screens }

-- whatever the programs of a deck are compiled to, its tables are those of a valid system
abbrev pub HasValidTables : ParsedDeck → Type 0
HasValidTables deck =
    (programs servers : List Code) (screens : List ScreenTable) → length programs ≡ length deck.requesters → length servers ≡ length deck.servers
    → length screens < 2 ^ 32 → AreTables (with_code deck programs servers screens)
