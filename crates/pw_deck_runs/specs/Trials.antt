-- What the run of a generated deck comes to.
use Rattle.std.specs.Prelude.{◌≡◌, ℕ, List, Ok}
use Rattle.pw_code.specs.Limits.{most_log_lines}
use Rattle.pw_code.specs.declared.lock.LockRule.TheVariants.{ReadersShare}
use Rattle.pw_code.specs.declared.system.System.{System}
use Rattle.pw_deck.specs.Deck.{deck_of}
use Rattle.pw_deck.specs.declared.deck.ParsedDeck.{ParsedDeck}
use Rattle.pw_laws.specs.serial.Promises.{KeepsPromises}
use Rattle.pw_deck_runs.specs.Meaning.{meaning, named}
use Rattle.pw_event.specs.declared.event.Event.{Event}
use Rattle.pw_gen.specs.Generated.{generated}
use Rattle.pw_generated_runs.specs.Finished.{counted_text}
use Rattle.pw_report_text.specs.Meaning.{files_text}
use Rattle.pw_onecopy.specs.Behaviour.{Behaviour}
use Rattle.pw_paired.specs.Step.{IsRun}
use Rattle.pw_workers.specs.Endings.{EndsAs}
use Rattle.pw_workers.specs.declared.ending.LogEnding.{LogEnding}
use Rattle.pw_workers.specs.declared.ending.LogEnding.TheVariants.{Full, Irregular, Regular}

-- there is a run of at most 500,000 entries that ended so, and the text is the FILES part of its report
pub record TriesSystem (sys : Behaviour) (system : System) (ended : LogEnding) (text : List ℕ) : Type 0 where
  pub log : List Event
  pub run : IsRun sys log
  pub ends : EndsAs ended most_log_lines sys log
  pub is : text ≡ files_text system sys log

-- The text tells of each key how many entries have it, where the run is finished; and then all its terminals have ended
-- regularly.
abbrev pub TellsCounts : ℕ → ℕ → LogEnding → List ℕ → Type 0
TellsCounts seed terminals Regular text = text ≡ counted_text seed terminals
TellsCounts seed terminals Irregular text = ⊥
TellsCounts seed terminals Full text = Unit {0}

-- The generated deck has no fault, and the text is that of a run of it, which keeps what is promised; and of a finished run it
-- is always the same.
pub record Tries (seed terminals : ℕ) (ended : LogEnding) (text : List ℕ) : Type 0 where
  pub deck : ParsedDeck
  pub says : deck_of (generated seed terminals) ≡ Ok deck
  pub tries : TriesSystem (meaning ReadersShare deck) (named ReadersShare deck) ended text
  pub promises : KeepsPromises (meaning ReadersShare deck) tries.log
  pub counted : TellsCounts seed terminals ended text
