-- What is asked of a deck, and the text that a status defines for its bytes.
use Rattle.std.specs.Prelude.{◌≡◌, ◌⊎◌, ℕ, ◌≤◌, List, Ok, Err, Result}
use Rattle.pathway.specs.Commands.{deck_ok, fault_line}
use Rattle.pathway.specs.declared.decks.DeckCommand.{DeckCommand}
use Rattle.pathway.specs.declared.decks.DeckCommand.TheVariants as asked
use Rattle.pathway.specs.declared.runs.RunCommand.{RunCommand}
use Rattle.pathway.specs.declared.runs.RunCommand.TheVariants as ask
use Rattle.pw_base.specs.declared.fault.Fault.{Fault}
use Rattle.pw_command_line.specs.CommandLine.{most_events}
use Rattle.pw_input_output.specs.declared.status.Status.{Status}
use Rattle.pw_input_output.specs.declared.status.Status.TheVariants as status
use Rattle.pw_deck.specs.Deck.{deck_of}
use Rattle.pw_deck.specs.declared.deck.ParsedDeck.{ParsedDeck}
use Rattle.pw_deck_runs.specs.Headline.{Reports}
use Rattle.pw_deck_runs.specs.Replays.{Verifies}
use Rattle.pw_deck_runs.specs.Trials.{Tries}
use Rattle.pw_deck_runs.specs.declared.verify.Verified.{Verified}
use Rattle.pw_deck_runs.specs.declared.verify.Verified.TheVariants as verified
use Rattle.pw_deck_runs.specs.disc.PairRuns.{IsPairRun, pair_deck_of}
use Rattle.pw_deck_runs.specs.declared.disc.ending.PairRan.TheVariants as pair
use Rattle.pw_deck_runs.specs.recovery.Headline.{Recovers}
use Rattle.pw_deck_runs.specs.declared.recovery.ending.Recovered.{Recovered}
use Rattle.pw_deck_runs.specs.declared.recovery.ending.Recovered.TheVariants as recovered
use Rattle.pw_workers.specs.declared.ending.LogEnding.TheVariants as ran
use Rattle.pw_status.specs.Status.{IsStatusOf}
use Rattle.pw_status.specs.declared.status.Counted.{Counted}
use Rattle.pw_status.specs.declared.status.Counted.TheVariants as counted

-- a run has at most 500,000 entries
abbrev pub IsRunInRange : RunCommand → Type 0
IsRunInRange (ask.Run events) = events ≤ most_events
IsRunInRange (ask.Disc events) = events ≤ most_events
IsRunInRange (ask.Trail events at) = events ≤ most_events

-- what is read has a first fault, and the text is the line of it
pub record HasFault {X : Type 0} (read : Result X Fault) (text : List ℕ) : Type 0 where
  pub fault : Fault
  pub first : read ≡ Err fault
  pub is : text ≡ fault_line fault

-- the text is the line of the deck's first fault
abbrev pub HasFirstFault : List ℕ → List ℕ → Type 0
HasFirstFault bytes text = HasFault (deck_of bytes) text

-- the deck has no fault, and the text says so
pub record HasNoFault (bytes text : List ℕ) : Type 0 where
  pub deck : ParsedDeck
  pub says : deck_of bytes ≡ Ok deck
  pub is : text ≡ deck_ok

-- a deck that is only read
abbrev pub Checks : Status → List ℕ → List ℕ → Type 0
Checks status.Finished bytes text = HasNoFault bytes text
Checks status.Refused bytes text = HasFirstFault bytes text
Checks _ bytes text = ⊥

-- a deck that is run for at most so many entries: the headline
abbrev pub RunsDeck : ℕ → Status → List ℕ → List ℕ → Type 0
RunsDeck events status.Finished bytes text = Reports bytes events ran.Regular text
RunsDeck events status.Irregular bytes text = Reports bytes events ran.Irregular text
RunsDeck events status.Limit bytes text = Reports bytes events ran.Full text
RunsDeck events status.Refused bytes text = HasFirstFault bytes text
RunsDeck events _ bytes text = ⊥

-- a deck whose log is replayed
abbrev pub ReplaysDeck : Status → List ℕ → List ℕ → Type 0
ReplaysDeck status.Finished bytes text = Verifies bytes verified.Run text
ReplaysDeck status.NotAStep bytes text = Verifies bytes verified.NotAStep text
ReplaysDeck status.Refused bytes text = HasFirstFault bytes text
ReplaysDeck _ bytes text = ⊥

-- a deck of whose log so many entries are counted
abbrev pub StatusCounts : ℕ → Status → List ℕ → List ℕ → Type 0
StatusCounts at status.Finished bytes text = IsStatusOf bytes at counted.Run text
StatusCounts at status.NotAStep bytes text = IsStatusOf bytes at counted.NotAStep text
StatusCounts at status.Refused bytes text = HasFirstFault bytes text
StatusCounts at _ bytes text = ⊥

-- the pair is lost, which a disc script without such lines never comes to; the text is empty
abbrev pub Loses : ℕ → List ℕ → List ℕ → Type 0
Loses events bytes text = (lost : _) × IsPairRun bytes events (pair.Lost lost) text

-- a deck that is run over a disc pair: as over any disc, whatever member fails, unless the pair is lost
abbrev pub PairRuns : ℕ → Status → List ℕ → List ℕ → Type 0
PairRuns events status.Finished bytes text = IsPairRun bytes events (pair.Ended ran.Regular) text
PairRuns events status.Irregular bytes text = IsPairRun bytes events (pair.Ended ran.Irregular) text
PairRuns events status.Limit bytes text = IsPairRun bytes events (pair.Ended ran.Full) text
PairRuns events status.Refused bytes text = HasFault (pair_deck_of bytes) text
PairRuns events status.DiscFault bytes text = Loses events bytes text
PairRuns events _ bytes text = ⊥

-- a deck that is run over a trail, which is crashed and recovered; a disk that stops ends the run too
abbrev pub TrailRuns : ℕ → ℕ → Status → List ℕ → List ℕ → Type 0
TrailRuns events at status.Finished bytes text =
    Recovers bytes events at recovered.Regular text ⊎ Recovers bytes events at recovered.Stopped text
TrailRuns events at status.Irregular bytes text = Recovers bytes events at recovered.Irregular text
TrailRuns events at status.Limit bytes text = Recovers bytes events at recovered.Full text
TrailRuns events at status.Refused bytes text = HasFirstFault bytes text
TrailRuns events at _ bytes text = ⊥

-- the deck of a seed that is run
abbrev pub Trials : ℕ → ℕ → Status → List ℕ → Type 0
Trials seed terms status.Finished text = Tries seed terms ran.Regular text
Trials seed terms status.Irregular text = Tries seed terms ran.Irregular text
Trials seed terms status.Limit text = Tries seed terms ran.Full text
Trials seed terms _ text = ⊥

-- what a status defines, by what is asked of a deck that is not run
abbrev pub DefinesBy : DeckCommand → Status → List ℕ → List ℕ → Type 0
DefinesBy asked.Check status bytes text = Checks status bytes text
DefinesBy asked.Verify status bytes text = ReplaysDeck status bytes text
DefinesBy (asked.Status at) status bytes text = StatusCounts at status bytes text

-- what a status defines, by what is asked of a deck that is run
abbrev pub RunsBy : RunCommand → Status → List ℕ → List ℕ → Type 0
RunsBy (ask.Run events) status bytes text = RunsDeck events status bytes text
RunsBy (ask.Disc events) status bytes text = PairRuns events status bytes text
RunsBy (ask.Trail events at) status bytes text = TrailRuns events at status bytes text

-- the status of a run over a trail that ended so
abbrev pub status_behind : Recovered → Status
status_behind recovered.Regular = status.Finished
status_behind recovered.Irregular = status.Irregular
status_behind recovered.Full = status.Limit
status_behind recovered.Stopped = status.Finished

-- the status of a replay that came to this
abbrev pub status_after : Verified → Status
status_after verified.Run = status.Finished
status_after verified.NotAStep = status.NotAStep

-- the status of a count that came to this
abbrev pub status_at : Counted → Status
status_at counted.Run = status.Finished
status_at counted.NotAStep = status.NotAStep
