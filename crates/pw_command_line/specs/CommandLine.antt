-- The words of the command line, as clap states them of one simple command.
use Rattle.std.specs.Prelude.{◌≡◌, ◌≤◌, ℕ, Bool, true, List, [], ◌∷◌, Option, Some, None, is_some, Result, MatchResult, codes, option_map, option_and_then, if◌then◌else◌, bytes_eq}
use Rattle.std.specs.Str.Parse.{digits_value, without_leading_plus}
use Rattle.clap.specs.Words.{App, IsUnsignedIn, Kinds, Row, Rule, Text, fault_of, first_of, matches_of, new_app, new_rule, one_of, with_rule}
use Rattle.clap.specs.Walk.{is_empty}
use Rattle.clap.specs.Simple.{on_top}
use Rattle.clap.specs.declared.builder.action.ArgAction.TheVariants.{Set}
use Rattle.clap.specs.declared.builder.value_parser.ValueParser.TheVariants as vp
use Rattle.pw_command_line.specs.declared.words.Command.{Command}
use Rattle.pw_command_line.specs.declared.words.Command.TheVariants as command
use Rattle.pw_command_line.specs.declared.words.Words.{Words}
use Rattle.pw_command_line.specs.declared.words.WordsFault.{WordsFault}
use Rattle.pw_command_line.specs.declared.words.WordsFault.TheVariants as fault

-- the most entries of a run
abbrev pub most_events : ℕ
most_events = 500000

-- the option `--name N`, where N is a number from low to high
abbrev pub option_rule : Text → ℕ → ℕ → Text → Rule
option_rule name low high usual = record (new_rule name) {
  long = Some name;
  action = Some Set;
  parser = Some (vp.Unsigned low high);
  defaults = usual ∷ [];
}

-- the word COMMAND, which has to be there
abbrev pub command_rule : Rule
command_rule = record (new_rule (codes "command")) { required = true; action = Some Set }

-- a command with neither help nor version, whose words do not begin with the program's name
abbrev pub bare_app : App
bare_app = on_top (λ s. record s { no_binary_name = true; disable_help_flag = true }) (new_app (codes "pathway"))

-- the command: the word COMMAND, and the five options with their ranges and defaults
abbrev pub pathway_app : App
pathway_app =
    with_rule (with_rule (with_rule (with_rule (with_rule (with_rule bare_app command_rule)
    (option_rule (codes "workers") 1 16 (codes "2")))
    (option_rule (codes "events") 1 most_events (codes "100000")))
    (option_rule (codes "seed") 0 4294967295 (codes "1")))
    (option_rule (codes "terms") 1 64 (codes "8")))
    (option_rule (codes "at") 0 most_events (codes "0"))

-- the command of a name
abbrev pub command_named : Text → Option Command
command_named text =
    if bytes_eq text (codes "run") then Some command.Run
    else (if bytes_eq text (codes "trial") then Some command.Trial
    else (if bytes_eq text (codes "check") then Some command.Check
    else (if bytes_eq text (codes "verify") then Some command.Verify
    else (if bytes_eq text (codes "gen") then Some command.Gen
    else (if bytes_eq text (codes "disc") then Some command.Disc
    else (if bytes_eq text (codes "trail") then Some command.Trail
    else (if bytes_eq text (codes "status") then Some command.Status
    else (if bytes_eq text (codes "expand") then Some command.Expand else None))))))))

-- the number that a text writes; clap gives each option a text, its default where the words have none
abbrev pub number_of_option : Option Text → ℕ
number_of_option None = 0
number_of_option (Some text) = digits_value 10 (without_leading_plus text)

-- the number of an option
abbrev pub number_at : Text → List Row → ℕ
number_at name rows = number_of_option (one_of name rows)

-- a command with the numbers of the options
abbrev pub words_with : List Row → Command → Words
words_with rows command = record {
  command = command;
  workers = number_at (codes "workers") rows;
  events = number_at (codes "events") rows;
  seed = number_at (codes "seed") rows;
  terms = number_at (codes "terms") rows;
  at = number_at (codes "at") rows;
}

-- the command that the word COMMAND names
abbrev pub command_in : List Row → Option Command
command_in rows = option_and_then command_named (first_of (codes "command") rows)

-- what clap's faults and matches come to
abbrev pub reading : Kinds → List Row → Option Words
reading faults rows = if is_empty faults then option_map (words_with rows) (command_in rows) else None

-- what the words say, or none where clap has a fault of them or the word COMMAND is none of the nine
abbrev pub command_of : List Text → Option Words
command_of words = reading (fault_of pathway_app words) (matches_of pathway_app words)

-- the words are the command's
abbrev pub takes : List Text → Bool
takes words = is_some (command_of words)

-- the result is what the words say, Refused where they are not the command's, or memory ran out
abbrev pub ReadsCommandLine : List Text → Result Words WordsFault → Type 0
ReadsCommandLine words result = MatchResult result
    (λ said. command_of words ≡ Some said)
    (λ why. why ≡ fault.Refused → command_of words ≡ None)

-- the numbers are in the ranges of the options
pub record AreOptionsInRange (words : Words) : Type 0 where
  pub workers : (1 ≤ words.workers) × (words.workers ≤ 16)
  pub events : (1 ≤ words.events) × (words.events ≤ most_events)
  pub seed : words.seed ≤ 4294967295
  pub terms : (1 ≤ words.terms) × (words.terms ≤ 64)
  pub at : words.at ≤ most_events

-- there is a text, and `u64` reads a number in the bounds from it
abbrev pub IsNumberIn : ℕ → ℕ → Option Text → Type 0
IsNumberIn low high None = ⊥
IsNumberIn low high (Some text) = IsUnsignedIn low high text
