-- What a deck comes to over a disc pair.
use Rattle.std.specs.Prelude.{◌≡◌, ℕ, List, [], Result, Ok}
use Rattle.pw_base.specs.declared.fault.Fault.{Fault}
use Rattle.pw_code.specs.declared.lock.LockRule.TheVariants.{ReadersShare}
use Rattle.pw_deck.specs.Deck.{deck_of}
use Rattle.pw_deck.specs.declared.deck.ParsedDeck.{ParsedDeck}
use Rattle.pw_deck_runs.specs.Headline.{Reports}
use Rattle.pw_deck_runs.specs.Meaning.{meaning, named}
use Rattle.pw_disc.specs.Pair.{PairKept}
use Rattle.pw_disc.specs.Script.{script_of}
use Rattle.pw_disc.specs.declared.script.DiscLine.{DiscLine}
use Rattle.pw_deck_runs.specs.disc.Pairs.{HasLost}
use Rattle.pw_deck_runs.specs.declared.disc.ending.PairRan.{PairRan}
use Rattle.pw_deck_runs.specs.declared.disc.ending.PairRan.TheVariants.{Ended, Lost}
use Rattle.pw_sections.specs.Steps.{◌>>=◌}

-- the disc script of a deck; the first fault of the deck comes before that of the script
abbrev pub pair_deck_of : List ℕ → Result (List DiscLine) Fault
pair_deck_of bytes = deck_of bytes >>= (λ (deck : ParsedDeck). script_of bytes)

-- the deck has no fault, and a run of it has stopped at the loss of its pair
pub record LosesPair (bytes : List ℕ) (events : ℕ) (lines : List DiscLine) (pair : PairKept) : Type 0 where
  pub deck : ParsedDeck
  pub says : deck_of bytes ≡ Ok deck
  pub lost : HasLost (meaning ReadersShare deck) (named ReadersShare deck) events lines pair

-- the report of a run, as over any disc; or the pair was lost, and nothing is told
abbrev pub EndsPairRun : List ℕ → ℕ → List DiscLine → PairRan → List ℕ → Type 0
EndsPairRun bytes events lines (Ended ended) text = Reports bytes events ended text
EndsPairRun bytes events lines (Lost pair) text = LosesPair bytes events lines pair × (text ≡ [])

-- the deck has no fault and its disc script has none, and they come to that
pub record IsPairRun (bytes : List ℕ) (events : ℕ) (ran : PairRan) (text : List ℕ) : Type 0 where
  pub lines : List DiscLine
  pub says : pair_deck_of bytes ≡ Ok lines
  pub ends : EndsPairRun bytes events lines ran text
