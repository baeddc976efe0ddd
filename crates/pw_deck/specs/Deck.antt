-- What a deck says, or its first fault.
use Rattle.std.specs.Prelude.{ℕ, ◌+◌, List, length, Bool, nat_lt, Result, Ok, if◌then◌else◌}
use Rattle.pw_base.specs.Limits.{longest_input}
use Rattle.pw_base.specs.declared.fault.Fault.{Fault}
use Rattle.pw_base.specs.declared.fault_code.FaultCode.TheVariants.{InputTooLong, EndMissing}
use Rattle.pw_code.specs.declared.links.Links.{Links}
use Rattle.pw_sections.specs.Lines.{lines}
use Rattle.pw_sections.specs.Steps.{◌>>=◌, refused}
use Rattle.pw_names.specs.Names.{names_of}
use Rattle.pw_deck_tables.specs.Tables.{class_names}
use Rattle.pw_deck_tables.specs.Unknown.{told_of}
use Rattle.pw_deck.specs.Parts.{parts_of, program_names, server_names}
use Rattle.pw_deck.specs.declared.deck.ParsedDeck.{ParsedDeck}
use Rattle.pw_deck.specs.declared.parts.Parts.{Parts}

-- the input is not too long
abbrev pub sized : List ℕ → Result (Unit {0}) Fault
sized bytes = if nat_lt longest_input (length bytes) then refused 0 InputTooLong else Ok tt

-- the deck is ended; else the line behind its last one is refused
abbrev pub end_found : List ℕ → Bool → Result (Unit {0}) Fault
end_found bytes has_end = if has_end then Ok tt else refused (length (lines bytes) + 1) EndMissing

-- what the programs of a deck may name besides what is theirs
abbrev pub links_of : Parts → Links
links_of parts = record {
  programs = program_names parts;
  classes = class_names parts.objects.commands;
  files = parts.objects.files;
}

-- what a deck says, by what its sections say, or the first fault of what is looked at once all of them are read
abbrev pub deck_in : List ℕ → Parts → Result ParsedDeck Fault
deck_in bytes parts = do
  done ← end_found bytes parts.has_end
  done ← names_of parts.requesters parts.servers (links_of parts)
  told ← told_of parts.objects (program_names parts) (server_names parts)
  Ok (record { told = told; requesters = parts.requesters; servers = parts.servers })

-- what a deck says, or its first fault
abbrev pub deck_of : List ℕ → Result ParsedDeck Fault
deck_of bytes = do
  done ← sized bytes
  parts ← parts_of bytes
  deck_in bytes parts
