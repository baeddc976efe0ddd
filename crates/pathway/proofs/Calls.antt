-- What inputs, texts and calls come to.
use Rattle.std.proofs.Common.{◌≡◌, refl, sym, subst, inl, inr, ℕ, Bool, true, false, List, [], Option, None, Some, ◌∙◌, append-nil}
use Rattle.std.specs.Io.KnownBytes.{Appends, Keeps}
use Rattle.pw_input_output.specs.Numbers.{status_number}
use Rattle.pw_input_output.specs.Outputs.{EndsWriting}
use Rattle.pw_input_output.specs.declared.status.Status.{Status}
use Rattle.pw_input_output.specs.declared.status.Status.TheVariants as status
use Rattle.pw_command_line.specs.declared.words.Command.{Command}
use Rattle.pw_command_line.specs.declared.words.Command.TheVariants as command
use Rattle.pw_command_line.specs.declared.words.Words.{Words}
use Rattle.pw_expand.specs.declared.expand.ScheduleEnding.{ScheduleEnding}
use Rattle.pw_expand.specs.declared.expand.ScheduleEnding.TheVariants as ending
use Rattle.pathway.specs.Commands.{said, reads_source, usage_line}
use Rattle.pathway.specs.Schedules.{status_by}
use Rattle.pathway.specs.Statuses.{AsksSource, CommandCall, Ends, FaultCountsGoOn, EndsWith, HasText, IsCutOff, Means, OutputBy}

-- ---- texts

-- a schedule that is answered has another status than Usage, and so has each output
no-usage-by : (how : ScheduleEnding) → status.Usage ≡ status_by how → ⊥
no-usage-by ending.Expanded same = absurd (cc same)
no-usage-by ending.Refused same = absurd (cc same)

no-usage : (words : Words) (which : Command) (left : Option (List ℕ)) (text : List ℕ)
    → OutputBy which words left status.Usage text → ⊥
no-usage words command.Run left text o = o.defined
no-usage words command.Trial left text o = o
no-usage words command.Check left text o = o.defined
no-usage words command.Verify left text o = o.defined
no-usage words command.Gen left text o = absurd (cc o.finished)
no-usage words command.Disc left text o = o.defined
no-usage words command.Trail left text o = o.defined
no-usage words command.Status left text o = o.defined
no-usage words command.Expand left text o = no-usage-by o.ending o.is

-- a schedule that is answered has another status than ReadFault, and so has each output
no-read_fault-by : (how : ScheduleEnding) → status.ReadFault ≡ status_by how → ⊥
no-read_fault-by ending.Expanded same = absurd (cc same)
no-read_fault-by ending.Refused same = absurd (cc same)

no-read_fault : (words : Words) (which : Command) (left : Option (List ℕ)) (text : List ℕ)
    → OutputBy which words left status.ReadFault text → ⊥
no-read_fault words command.Run left text o = o.defined
no-read_fault words command.Trial left text o = o
no-read_fault words command.Check left text o = o.defined
no-read_fault words command.Verify left text o = o.defined
no-read_fault words command.Gen left text o = absurd (cc o.finished)
no-read_fault words command.Disc left text o = o.defined
no-read_fault words command.Trail left text o = o.defined
no-read_fault words command.Status left text o = o.defined
no-read_fault words command.Expand left text o = no-read_fault-by o.ending o.is

-- a schedule that is answered has another status than WriteFault, and so has each output
no-write_fault-by : (how : ScheduleEnding) → status.WriteFault ≡ status_by how → ⊥
no-write_fault-by ending.Expanded same = absurd (cc same)
no-write_fault-by ending.Refused same = absurd (cc same)

no-write_fault : (words : Words) (which : Command) (left : Option (List ℕ)) (text : List ℕ)
    → OutputBy which words left status.WriteFault text → ⊥
no-write_fault words command.Run left text o = o.defined
no-write_fault words command.Trial left text o = o
no-write_fault words command.Check left text o = o.defined
no-write_fault words command.Verify left text o = o.defined
no-write_fault words command.Gen left text o = absurd (cc o.finished)
no-write_fault words command.Disc left text o = o.defined
no-write_fault words command.Trail left text o = o.defined
no-write_fault words command.Status left text o = o.defined
no-write_fault words command.Expand left text o = no-write_fault-by o.ending o.is

-- a schedule that is answered has another status than Memory, and so has each output
no-memory-by : (how : ScheduleEnding) → status.Memory ≡ status_by how → ⊥
no-memory-by ending.Expanded same = absurd (cc same)
no-memory-by ending.Refused same = absurd (cc same)

no-memory : (words : Words) (which : Command) (left : Option (List ℕ)) (text : List ℕ)
    → OutputBy which words left status.Memory text → ⊥
no-memory words command.Run left text o = o.defined
no-memory words command.Trial left text o = o
no-memory words command.Check left text o = o.defined
no-memory words command.Verify left text o = o.defined
no-memory words command.Gen left text o = absurd (cc o.finished)
no-memory words command.Disc left text o = o.defined
no-memory words command.Trail left text o = o.defined
no-memory words command.Status left text o = o.defined
no-memory words command.Expand left text o = no-memory-by o.ending o.is

-- a schedule that is answered is no fault of the disc
no-disc_fault-by : (how : ScheduleEnding) → status.DiscFault ≡ status_by how → ⊥
no-disc_fault-by ending.Expanded same = absurd (cc same)
no-disc_fault-by ending.Refused same = absurd (cc same)

-- nothing is written of a run whose pair is lost
lost-text : (words : Words) (which : Command) (left : Option (List ℕ)) (text : List ℕ)
    → OutputBy which words left status.DiscFault text → text ≡ []
lost-text words command.Run left text o = absurd o.defined
lost-text words command.Trial left text o = absurd o
lost-text words command.Check left text o = absurd o.defined
lost-text words command.Verify left text o = absurd o.defined
lost-text words command.Gen left text o = absurd (cc o.finished)
lost-text words command.Disc left text o = o.defined.1.ends.1
lost-text words command.Trail left text o = absurd o.defined
lost-text words command.Status left text o = absurd o.defined
lost-text words command.Expand left text o = absurd (no-disc_fault-by o.ending o.is)

-- where nothing is appended, what is there is kept
appends-nothing : (before now : Option (List ℕ)) → Appends before now [] → Keeps before now
appends-nothing None now appends = tt
appends-nothing (Some had) None appends = appends
appends-nothing (Some had) (Some has) appends = appends ∙ append-nil had

-- ---- calls

-- words that do not ask for the source are of a command that does not read it
pub no-source : (does : Command → Bool) (words : List (List ℕ)) (read : Words) → said does words ≡ Some read
    → ¬ AsksSource does words → reads_source read.command ≡ false
no-source does words read say none = by (reads_source read.command) refl
  where
    by : (reads : Bool) → reads_source read.command ≡ reads → reads ≡ false
    by true is = absurd (none (read, say, is))
    by false is = refl

-- the text of a status that the words and the source define
has-output : (call : CommandCall) (given : Status) (text : List ℕ) (words : Words) → said call.does call.words ≡ Some words
    → OutputBy words.command words call.left given text → HasText given call text
has-output call status.Finished text words say o = record { words = words; say = say; output = o }
has-output call status.Irregular text words say o = record { words = words; say = say; output = o }
has-output call status.Refused text words say o = record { words = words; say = say; output = o }
has-output call status.Limit text words say o = record { words = words; say = say; output = o }
has-output call status.ReadFault text words say o = record { words = words; say = say; output = o }
has-output call status.WriteFault text words say o = record { words = words; say = say; output = o }
has-output call status.Memory text words say o = record { words = words; say = say; output = o }
has-output call status.Usage text words say o = absurd (no-usage words words.command call.left text o)
has-output call status.NotAStep text words say o = record { words = words; say = say; output = o }
has-output call status.DiscFault text words say o = record { words = words; say = say; output = o }

-- a whole text means its status
means-told : (call : CommandCall) (given : Status) (text : List ℕ) (words : Words) → said call.does call.words ≡ Some words
    → OutputBy words.command words call.left given text
    → Appends call.written call.written_then text → Means given call
means-told call status.Finished text words say o appends = (text, record { words = words; say = say; output = o }, appends)
means-told call status.Irregular text words say o appends = (text, record { words = words; say = say; output = o }, appends)
means-told call status.Refused text words say o appends = (text, record { words = words; say = say; output = o }, appends)
means-told call status.Limit text words say o appends = (text, record { words = words; say = say; output = o }, appends)
means-told call status.ReadFault text words say o appends = absurd (no-read_fault words words.command call.left text o)
means-told call status.WriteFault text words say o appends = absurd (no-write_fault words words.command call.left text o)
means-told call status.Memory text words say o appends = absurd (no-memory words words.command call.left text o)
means-told call status.Usage text words say o appends = absurd (no-usage words words.command call.left text o)
means-told call status.NotAStep text words say o appends = (text, record { words = words; say = say; output = o }, appends)
means-told call status.DiscFault text words say o appends =
    let none = lost-text words words.command call.left text o in
    ((text, record { words = words; say = say; output = o }, appends), appends-nothing call.written call.written_then (rw none at appends))

-- where the text is whole no count has risen
counts-told : (call : CommandCall) (given : Status) (text : List ℕ) (words : Words)
    → OutputBy words.command words call.left given text
    → call.read_faults_then ≡ call.read_faults → call.write_faults_then ≡ call.write_faults → FaultCountsGoOn given call
counts-told call status.Finished text words o read write = (read, write)
counts-told call status.Irregular text words o read write = (read, write)
counts-told call status.Refused text words o read write = (read, write)
counts-told call status.Limit text words o read write = (read, write)
counts-told call status.ReadFault text words o read write = absurd (no-read_fault words words.command call.left text o)
counts-told call status.WriteFault text words o read write = absurd (no-write_fault words words.command call.left text o)
counts-told call status.Memory text words o read write = (read, write)
counts-told call status.Usage text words o read write = (read, write)
counts-told call status.NotAStep text words o read write = (read, write)
counts-told call status.DiscFault text words o read write = (read, write)

-- a call whose output is written
pub ends-told : (call : CommandCall) (given result : Status) (text : List ℕ) (words : Words)
    → said call.does call.words ≡ Some words → OutputBy words.command words call.left given text
    → call.read_faults_then ≡ call.read_faults
    → EndsWriting given result text call.written call.written_then call.write_faults call.write_faults_then
    → EndsWith result call
ends-told call given result text words say o read (inl whole) =
    rw whole.0 (means-told call given text words say o whole.1.all, counts-told call given text words o read whole.1.count)
ends-told call given result text words say o read (inr cut) =
    let means : IsCutOff call = record {
      status = given;
      text = text;
      has = has-output call given text words say o;
      count = cut.1.taken;
      some = cut.1.some;
      begun = cut.1.begun;
    } in
    rw cut.0 (means, (read, cut.1.rose))

-- a call whose words say nothing
pub ends-usage : (call : CommandCall) (result : Status) (text : List ℕ) → said call.does call.words ≡ None → text ≡ usage_line
    → call.read_faults_then ≡ call.read_faults
    → EndsWriting status.Usage result text call.written call.written_then call.write_faults call.write_faults_then
    → EndsWith result call
ends-usage call result text none line read (inl whole) =
    rw whole.0 ((text, (none, line), whole.1.all), (read, whole.1.count))
ends-usage call result text none line read (inr cut) =
    let means : IsCutOff call = record {
      status = status.Usage;
      text = text;
      has = (none, line);
      count = cut.1.taken;
      some = cut.1.some;
      begun = cut.1.begun;
    } in
    rw cut.0 (means, (read, cut.1.rose))

-- what is there is kept where it is as it was
keeps-same : (before now : Option (List ℕ)) → now ≡ before → Keeps before now
keeps-same None now same = tt
keeps-same (Some had) now same = rw same refl

-- a call without memory for its words, by its answer
pub ends-memory : (call : CommandCall) (answer : ℕ) → answer ≡ status_number status.Memory → call.written_then ≡ call.written
    → call.read_faults_then ≡ call.read_faults → call.write_faults_then ≡ call.write_faults → Ends call answer
ends-memory call answer is same read write =
    (status.Memory, is, (keeps-same call.written call.written_then same, (read, write)))

-- a call with the words that are told, and with this answer
pub ends-same : (call : CommandCall) (words : List (List ℕ)) (answer result : ℕ) → words ≡ call.words → result ≡ answer → Ends (record call { words = words }) answer → Ends call result
ends-same call words answer result same is ends =
    subst (λ ws. Ends (record call { words = ws }) result) same (subst (Ends (record call { words = words })) (sym is) ends)
