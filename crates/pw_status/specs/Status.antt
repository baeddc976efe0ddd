-- What `status` answers of a deck.
use Rattle.std.specs.Prelude.{◌≡◌, ℕ, List, Ok, take}
use Rattle.pw_code.specs.declared.system.System.{System}
use Rattle.pw_deck.specs.Deck.{deck_of}
use Rattle.pw_deck.specs.declared.deck.ParsedDeck.{ParsedDeck}
use Rattle.pw_event.specs.declared.event.Event.{Event}
use Rattle.pw_laws.specs.serial.Promises.{KeepsPromises}
use Rattle.pw_world_model.specs.Calls.{IsFirstNoStep}
use Rattle.pw_onecopy.specs.Behaviour.{Behaviour}
use Rattle.pw_paired.specs.Step.{IsRun}
use Rattle.pw_report.specs.NoStep.{no_step_line}
use Rattle.pw_log_lines.specs.Log.{rule_of}
use Rattle.pw_compiler_laws.specs.Systems.{system_of}
use Rattle.pw_tree_meaning.specs.OfDeck.{behaviour}
use Rattle.pw_status.specs.Text.{status_text}
use Rattle.pw_status.specs.declared.status.Counted.{Counted}
use Rattle.pw_status.specs.declared.status.Counted.TheVariants.{NotAStep, Run}
use Rattle.pw_compiled_deck.specs.Whole.{trees_of}

-- the text is the status text of the log, which is a run, or the line of its first entry that is no step
abbrev pub TellsStatus : Behaviour → System → List Event → Counted → List ℕ → Type 0
TellsStatus sys system log Run text = IsRun sys log × (text ≡ status_text system sys log)
TellsStatus sys system log NotAStep text = (n : ℕ) × (IsFirstNoStep sys log n × (text ≡ no_step_line n))

-- The deck of the bytes has no fault, and this is said of the first so many entries of its log, or of all where there
-- are fewer, under the rule of the log's version. Where each of them is a step they keep what is promised of logs.
pub record IsStatusOf (bytes : List ℕ) (at : ℕ) (counted : Counted) (text : List ℕ) : Type 0 where
  pub deck : ParsedDeck
  pub says : deck_of bytes ≡ Ok deck
  pub counts : TellsStatus (behaviour (rule_of deck.told.version) (trees_of deck))
      (system_of (rule_of deck.told.version) (trees_of deck)) (take at deck.told.log) counted text
  pub promises : counted ≡ Run
      → KeepsPromises (behaviour (rule_of deck.told.version) (trees_of deck)) (take at deck.told.log)
