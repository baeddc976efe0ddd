-- What a deck and its disc script come to.
use Rattle.std.proofs.Common.{◌≡◌, ◌≤◌, ℕ, List, Ok, ap, refl, subst}
use Rattle.pw_base.specs.First.{Refuses}
use Rattle.pw_base.specs.declared.fault.Refusal.{Refusal}
use Rattle.pw_base.specs.declared.fault.Refusal.TheVariants.{At, Memory}
use Rattle.pw_code.specs.Limits.{most_log_lines}
use Rattle.pw_code.specs.declared.lock.LockRule.TheVariants.{ReadersShare}
use Rattle.pw_deck.specs.Deck.{deck_of}
use Rattle.pw_deck.specs.declared.deck.ParsedDeck as trees
use Rattle.pw_compiled_deck.proofs.Decks.{IsOf}
use Rattle.pw_deck_runs.proofs.Lifts.{AreLawful, AreRead, reports}
use Rattle.pw_code.specs.declared.system.System.{System}
use Rattle.pw_deck_runs.specs.Meaning.{meaning, named}
use Rattle.pw_disc.specs.Pair.{PairKept}
use Rattle.pw_disc.specs.Script.{script_of}
use Rattle.pw_disc.specs.declared.script.DiscLine.{DiscLine}
use Rattle.pw_deck_runs.specs.disc.PairRuns.{IsPairRun, pair_deck_of}
use Rattle.pw_deck_runs.specs.disc.Pairs.{HasLost, RunsOver}
use Rattle.pw_deck_runs.specs.declared.disc.ending.PairRan.{PairRan}
use Rattle.pw_deck_runs.specs.declared.disc.ending.PairRan.TheVariants.{Ended, Lost}
use Rattle.pw_code_meaning.specs.OfSystem.{behaviour}
use Rattle.pw_onecopy.specs.Behaviour.{Behaviour}
use Rattle.pw_onecopy.specs.IsBehaviour.{IsBehaviour}
use Rattle.pw_compiled_deck.specs.Short.{IsSmall}
use Rattle.pw_compiled_deck.specs.declared.deck.Deck.{Deck}

-- the first fault of the deck is that of both
pub deck-refuses : (bytes : List ℕ) (refusal : Refusal) → Refuses refusal (deck_of bytes) → Refuses refusal (pair_deck_of bytes)
deck-refuses bytes Memory is = tt
deck-refuses bytes (At line code) is = rw is refl

-- neither has one
both-say : (bytes : List ℕ) (deck : trees.ParsedDeck) (lines : List DiscLine) → deck_of bytes ≡ Ok deck
    → script_of bytes ≡ Ok lines → pair_deck_of bytes ≡ Ok lines
both-say bytes deck lines says is = rw says is

-- what the run of a deck's system over a pair comes to is what the deck does
module _ (lawful : AreLawful) (read : AreRead) (bytes : List ℕ) (whole : Deck) (of : IsOf bytes whole)
    (small : IsSmall whole.system)
    (behaves : IsBehaviour (behaviour whole.script.lines whole.system))
    (same : behaviour whole.script.lines whole.system ≡ meaning ReadersShare of.deck)
    (lines : List DiscLine) (is : script_of bytes ≡ Ok lines) (events : ℕ) (few : events ≤ most_log_lines) where
  lost-pair : (pair : PairKept) → HasLost (behaviour whole.script.lines whole.system) whole.system events lines pair
      → HasLost (meaning ReadersShare of.deck) (named ReadersShare of.deck) events lines pair
  lost-pair pair lost =
      subst (λ (s : System). HasLost (meaning ReadersShare of.deck) s events lines pair) (ap (λ (w : Deck). w.system) of.is)
      (subst (λ (b : Behaviour). HasLost b whole.system events lines pair) same lost)

  pub comes : (ran : PairRan) (text : List ℕ) → RunsOver whole.system whole.script.lines events lines ran text
      → IsPairRun bytes events ran text
  comes (Ended ended) text runs = record {
    lines = lines;
    says = both-say bytes of.deck lines of.says is;
    ends = reports lawful read bytes whole of small (behaviour whole.script.lines whole.system) behaves same events few
        ended text runs;
  }
  comes (Lost pair) text runs = record {
    lines = lines;
    says = both-say bytes of.deck lines of.says is;
    ends = (record { deck = of.deck; says = of.says; lost = lost-pair pair runs.0 }, runs.1);
  }
