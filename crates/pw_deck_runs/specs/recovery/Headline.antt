-- What the command `trail` promises of a deck.
use Rattle.std.specs.Prelude.{◌≡◌, ℕ, List, Ok}
use Rattle.pw_code.specs.declared.lock.LockRule.TheVariants.{ReadersShare}
use Rattle.pw_deck.specs.Deck.{deck_of}
use Rattle.pw_deck.specs.declared.deck.ParsedDeck.{ParsedDeck}
use Rattle.pw_laws.specs.serial.Promises.{KeepsPromises}
use Rattle.pw_deck_runs.specs.Meaning.{meaning, named}
use Rattle.pw_event.specs.declared.event.Event.{Event}
use Rattle.pw_report_text.specs.Meaning.{files_text}
use Rattle.pw_deck_runs.specs.recovery.Runs.{EndsRecoveredRun}
use Rattle.pw_deck_runs.specs.declared.recovery.ending.Recovered.{Recovered}

-- The deck of the bytes has no fault. A log that keeps what is promised of its logs ended so, as it can over a trail whose disk
-- fails from call number `at` on; and the text is the FILES part of the log's report.
pub record Recovers (bytes : List ℕ) (events at : ℕ) (recovered : Recovered) (text : List ℕ) : Type 0 where
  pub deck : ParsedDeck
  pub says : deck_of bytes ≡ Ok deck
  pub log : List Event
  pub promises : KeepsPromises (meaning ReadersShare deck) log
  pub ends : EndsRecoveredRun recovered at (named ReadersShare deck).files events (meaning ReadersShare deck) log
  pub is : text ≡ files_text (named ReadersShare deck) (meaning ReadersShare deck) log
