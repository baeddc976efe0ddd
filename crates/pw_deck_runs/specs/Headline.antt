-- The headline.
use Rattle.std.specs.Prelude.{◌≡◌, ℕ, List, Ok}
use Rattle.pw_code.specs.declared.lock.LockRule.{LockRule}
use Rattle.pw_code.specs.declared.lock.LockRule.TheVariants.{ReadersShare}
use Rattle.pw_deck.specs.Deck.{deck_of}
use Rattle.pw_deck.specs.declared.deck.ParsedDeck.{ParsedDeck}
use Rattle.pw_deck_runs.specs.Meaning.{meaning, named}
use Rattle.pw_event.specs.declared.event.Event.{Event}
use Rattle.pw_laws.specs.serial.Promises.{KeepsPromises}
use Rattle.pw_report_text.specs.Meaning.{report_text}
use Rattle.pw_workers.specs.Endings.{EndsAs}
use Rattle.pw_workers.specs.declared.ending.LogEnding.{LogEnding}
use Rattle.pw_read_back.specs.ReadFrom.{IsReadFrom}

-- The log keeps what is promised of logs of the deck; the text is its report; and it is the log that is read back from
-- the text.
pub record Prints (rule : LockRule) (deck : ParsedDeck) (log : List Event) (text : List ℕ) : Type 0 where
  pub promises : KeepsPromises (meaning rule deck) log
  pub is : text ≡ report_text (named rule deck) (meaning rule deck) log
  pub read : IsReadFrom (named rule deck) text log

-- the deck of the bytes has no fault, and the text is printed of a log of it that ended so
pub record Reports (bytes : List ℕ) (events : ℕ) (ran : LogEnding) (text : List ℕ) : Type 0 where
  pub deck : ParsedDeck
  pub says : deck_of bytes ≡ Ok deck
  pub log : List Event
  pub prints : Prints ReadersShare deck log text
  pub ended : EndsAs ran events (meaning ReadersShare deck) log
