-- The table of statuses: where each comes, and what is written then.
use Rattle.std.specs.Prelude.{◌≡◌, ℕ, ◌<◌, List, length, take, Bool, true, Option, None, Some, IfSome}
use Rattle.std.specs.Io.KnownBytes.{Appends, Keeps}
use Rattle.pw_base.specs.Outside.{Rose}
use Rattle.pw_input_output.specs.Numbers.{status_number}
use Rattle.pw_input_output.specs.declared.status.Status.{Status}
use Rattle.pw_input_output.specs.declared.status.Status.TheVariants.{DiscFault, Finished, Irregular, Limit, Memory, NotAStep, ReadFault, Refused, Usage, WriteFault}
use Rattle.pw_command_line.specs.declared.words.Command.{Command}
use Rattle.pw_command_line.specs.declared.words.Command.TheVariants as command
use Rattle.pw_command_line.specs.declared.words.Words.{Words}
use Rattle.pw_gen.specs.Generated.{generated}
use Rattle.pathway.specs.Commands.{said, usage_line, reads_source}
use Rattle.pathway.specs.Decks.{Checks, PairRuns, ReplaysDeck, RunsDeck, StatusCounts, TrailRuns, Trials}
use Rattle.pathway.specs.Schedules.{OfSchedule}

-- one call: the commands that it does, its words, what the source tells before it, and what the sink tells before it and
-- after it, with the counts of faults
pub record CommandCall : Type 0 where
  pub does : Command → Bool
  pub words : List (List ℕ)
  pub left : Option (List ℕ)
  pub read_faults : ℕ
  pub read_faults_then : ℕ
  pub written : Option (List ℕ)
  pub written_then : Option (List ℕ)
  pub write_faults : ℕ
  pub write_faults_then : ℕ

-- what bytes define by a rule; they are those that the source had left, where it tells them
pub record OfBytes (defines : Status → List ℕ → List ℕ → Type 0) (left : Option (List ℕ)) (status : Status) (text : List ℕ) : Type 0 where
  pub bytes : List ℕ
  pub read : IfSome left (λ had. had ≡ bytes)
  pub defined : defines status bytes text

-- the text is the generated deck
pub record OfSeed (said : Words) (status : Status) (text : List ℕ) : Type 0 where
  pub finished : status ≡ Finished
  pub deck : text ≡ generated said.seed said.terms

-- the text of a status, by the command
abbrev pub OutputBy : Command → Words → Option (List ℕ) → Status → List ℕ → Type 0
OutputBy command.Run said left status text = OfBytes (RunsDeck said.events) left status text
OutputBy command.Trial said left status text = Trials said.seed said.terms status text
OutputBy command.Check said left status text = OfBytes Checks left status text
OutputBy command.Verify said left status text = OfBytes ReplaysDeck left status text
OutputBy command.Gen said left status text = OfSeed said status text
OutputBy command.Disc said left status text = OfBytes (PairRuns said.events) left status text
OutputBy command.Trail said left status text = OfBytes (TrailRuns said.events said.at) left status text
OutputBy command.Status said left status text = OfBytes (StatusCounts said.at) left status text
OutputBy command.Expand said left status text = OfSchedule left status text

-- the text of a status, for words that say something
pub record IsOutput (status : Status) (call : CommandCall) (text : List ℕ) : Type 0 where
  pub words : Words
  pub say : said call.does call.words ≡ Some words
  pub output : OutputBy words.command words call.left status text

-- the words ask for a command that reads the source
abbrev pub AsksSource : (Command → Bool) → List (List ℕ) → Type 0
AsksSource does words = (read : Words) × (said does words ≡ Some read) × (reads_source read.command ≡ true)

-- the usage line is the text of words that say nothing
abbrev pub IsUsage : CommandCall → List ℕ → Type 0
IsUsage call text = (said call.does call.words ≡ None) × (text ≡ usage_line)

-- which text a status has
abbrev pub HasText : Status → CommandCall → List ℕ → Type 0
HasText Usage call text = IsUsage call text
HasText status call text = IsOutput status call text

-- the whole text was written
abbrev pub WritesOutput : Status → CommandCall → Type 0
WritesOutput status call = (text : List ℕ) × HasText status call text × Appends call.written call.written_then text

-- a beginning of the text was written, which is not all
pub record IsCutOff (call : CommandCall) : Type 0 where
  pub status : Status
  pub text : List ℕ
  pub has : HasText status call text
  pub count : ℕ
  pub some : count < length text
  pub begun : Appends call.written call.written_then (take count text)

-- where a status comes, and what is written then
abbrev pub Means : Status → CommandCall → Type 0
Means Finished call = WritesOutput Finished call
Means Irregular call = WritesOutput Irregular call
Means Limit call = WritesOutput Limit call
Means Refused call = WritesOutput Refused call
Means NotAStep call = WritesOutput NotAStep call
Means DiscFault call = WritesOutput DiscFault call × Keeps call.written call.written_then
Means Usage call = WritesOutput Usage call
Means ReadFault call = AsksSource call.does call.words × Keeps call.written call.written_then
Means WriteFault call = IsCutOff call
Means Memory call = Keeps call.written call.written_then

-- how the counts of faults go on: the source's rises at ReadFault alone, the sink's at WriteFault alone, and each of
-- them else is as it was
abbrev pub FaultCountsGoOn : Status → CommandCall → Type 0
FaultCountsGoOn ReadFault call = Rose call.read_faults call.read_faults_then × (call.write_faults_then ≡ call.write_faults)
FaultCountsGoOn WriteFault call = (call.read_faults_then ≡ call.read_faults) × Rose call.write_faults call.write_faults_then
FaultCountsGoOn status call = (call.read_faults_then ≡ call.read_faults) × (call.write_faults_then ≡ call.write_faults)

-- a call has ended with a status that means what happened, the counts of faults too
abbrev pub EndsWith : Status → CommandCall → Type 0
EndsWith status call = Means status call × FaultCountsGoOn status call

-- the answer of a call is the number of a status that means what happened, the counts of faults too
abbrev pub Ends : CommandCall → ℕ → Type 0
Ends call answer = (status : Status) × (answer ≡ status_number status) × EndsWith status call
