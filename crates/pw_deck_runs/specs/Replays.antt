-- What the replay of a deck's log comes to.
use Rattle.std.specs.Prelude.{◌≡◌, ℕ, List, Ok}
use Rattle.pw_code.specs.declared.lock.LockRule.{LockRule}
use Rattle.pw_code.specs.declared.system.System.{System}
use Rattle.pw_deck.specs.Deck.{deck_of}
use Rattle.pw_deck.specs.declared.deck.ParsedDeck.{ParsedDeck}
use Rattle.pw_deck_runs.specs.Headline.{Prints}
use Rattle.pw_deck_runs.specs.Meaning.{meaning}
use Rattle.pw_deck_runs.specs.declared.verify.Verified.{Verified}
use Rattle.pw_deck_runs.specs.declared.verify.Verified.TheVariants.{NotAStep, Run}
use Rattle.pw_event.specs.declared.event.Event.{Event}
use Rattle.pw_report_text.specs.Meaning.{report_text}
use Rattle.pw_world_model.specs.Calls.{IsFirstNoStep}
use Rattle.pw_onecopy.specs.Behaviour.{Behaviour}
use Rattle.pw_paired.specs.Step.{IsRun}
use Rattle.pw_report.specs.NoStep.{no_step_line}
use Rattle.pw_log_lines.specs.Log.{rule_of}

-- the text is the line of the first entry that is no step
abbrev pub IsNoStepText : Behaviour → List Event → List ℕ → Type 0
IsNoStepText sys log text = (n : ℕ) × (IsFirstNoStep sys log n × (text ≡ no_step_line n))

-- the same, or the report of the log
abbrev pub Replays : Behaviour → System → List Event → Verified → List ℕ → Type 0
Replays sys system log Run text = IsRun sys log × (text ≡ report_text system sys log)
Replays sys system log NotAStep text = IsNoStepText sys log text

-- the log of the deck is printed, or has an entry that is no step
abbrev pub Answers : LockRule → ParsedDeck → Verified → List ℕ → Type 0
Answers rule deck Run text = Prints rule deck deck.told.log text
Answers rule deck NotAStep text = IsNoStepText (meaning rule deck) deck.told.log text

-- the deck of the bytes has no fault, and that of its log, under the rule of the log's version
pub record Verifies (bytes : List ℕ) (verified : Verified) (text : List ℕ) : Type 0 where
  pub deck : ParsedDeck
  pub says : deck_of bytes ≡ Ok deck
  pub answers : Answers (rule_of deck.told.version) deck verified text
