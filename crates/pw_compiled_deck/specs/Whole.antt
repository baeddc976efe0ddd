-- What a deck says with its programs compiled, and the trees that they are compiled from.
use Rattle.std.specs.Prelude.{ℕ, List, [], map, Result, Ok}
use Rattle.pw_base.specs.declared.fault.Fault.{Fault}
use Rattle.pw_code.specs.declared.lock.LockRule.TheVariants.{ReadersShare}
use Rattle.pw_deck.specs.Deck.{deck_of}
use Rattle.pw_deck.specs.declared.deck.ParsedDeck as trees
use Rattle.pw_sections.specs.Steps.{◌>>=◌}
use Rattle.pw_scobol.specs.declared.requester.Requester.{Requester}
use Rattle.pw_server.specs.declared.server.Server.{Server}
use Rattle.pw_compiler_laws.specs.Systems.{system_of}
use Rattle.pw_tree_meaning.specs.Program as source
use Rattle.pw_compiled_deck.specs.declared.deck.Deck.{Deck}

-- a requester and a server as the meaning of programs takes them
abbrev pub of_requester : Requester → source.Program
of_requester requester = record {
  name = requester.name;
  layout = requester.layout;
  screens = requester.screens;
  parameters = requester.using;
  paragraphs = requester.procedure.paragraphs;
}

-- a server as a program without screens and parameters
abbrev pub of_server : Server → source.Program
of_server server = record {
  name = server.name;
  layout = server.layout;
  screens = [];
  parameters = [];
  paragraphs = server.procedure.paragraphs;
}

-- the programs, tables and failure lines of a deck as their meaning takes them
abbrev pub trees_of : trees.ParsedDeck → source.DeckModel
trees_of deck = record {
  programs = map of_requester deck.requesters;
  servers = map of_server deck.servers;
  classes = deck.told.system.classes;
  files = deck.told.system.files;
  tcps = deck.told.system.tcps;
  terminals = deck.told.system.terminals;
  script = deck.told.script.lines;
}

-- what a deck says, with its programs compiled: its readers share locks
abbrev pub compiled : trees.ParsedDeck → Deck
compiled deck = record {
  system = system_of ReadersShare (trees_of deck);
  script = deck.told.script;
  log = deck.told.log;
  version = deck.told.version;
}

-- what the bytes of a deck say, or its first fault
abbrev pub whole_of : List ℕ → Result Deck Fault
whole_of bytes = do
  deck ← deck_of bytes
  Ok (compiled deck)
