-- A run of a deck without a fault is read back from the text of its report.
use Rattle.std.proofs.Common.{◌≡◌, ◌≤◌, List, Ok, arith, length, refl, subst, sym, ℕ}
use Rattle.pw_code.specs.Limits.{most_log_lines}
use Rattle.pw_code.specs.declared.lock.LockRule.{LockRule}
use Rattle.pw_code.specs.declared.system.System.{System}
use Rattle.pw_deck.specs.Deck.{deck_of}
use Rattle.pw_deck.specs.declared.deck.ParsedDeck.{ParsedDeck}
use Rattle.pw_event.specs.declared.event.Event.{Event}
use Rattle.pw_event.specs.declared.script.FailLine.{FailLine}
use Rattle.pw_event.specs.declared.script.FailLine.TheVariants as line
use Rattle.pw_code_meaning.specs.OfSystem as code
use Rattle.pw_read_back.proofs.FailureLines.{lines-there}
use Rattle.pw_world_state.specs.May.{IsLineThere}
use Rattle.pw_report_text.specs.Meaning.{report_text}
use Rattle.pw_onecopy.specs.Behaviour.{Behaviour}
use Rattle.pw_onecopy.specs.IsBehaviour.{IsBehaviour}
use Rattle.pw_paired.specs.Step.{IsRun}
use Rattle.pw_compiler_laws.specs.Systems.{system_of}
use Rattle.pw_tree_meaning.specs.OfDeck as tree
use Rattle.pw_read_back.proofs.Reading.{run-read}
use Rattle.pw_read_back.specs.ReadFrom.{IsReadFrom}
use Rattle.pw_read_back.specs.Runs.{IsRunOf}
use Rattle.pw_compiled_deck.proofs.Rules.{ruled-behaves, ruled-same, ruled-valid}
use Rattle.pw_compiled_deck.proofs.Whole as whole
use Rattle.pw_compiled_deck.specs.Short.{IsSmall}
use Rattle.pw_compiled_deck.specs.Whole.{compiled, trees_of}

-- what is there in a system is there in one with the same pairs and classes
like : (system other : System) → system.tcps ≡ other.tcps → system.classes ≡ other.classes
    → (one : FailLine) → IsLineThere system one → IsLineThere other one
like system other pairs classes (line.Tcp p primary after) there = rw (sym pairs) there
like system other pairs classes (line.Server c i after) there = record {
  class = rw (sym classes) there.class;
  low = there.low;
  high = rw (sym classes) there.high;
}

module _ (rule : LockRule) (bytes : List ℕ) (deck : ParsedDeck) (says : deck_of bytes ≡ Ok deck)
    (small : IsSmall (compiled deck).system) (log : List Event)
    (run : IsRun (tree.behaviour rule (trees_of deck)) log) (short : length log ≤ most_log_lines) where
  abbrev system : System
  system = system_of rule (trees_of deck)

  abbrev script : List FailLine
  script = (trees_of deck).script

  same : code.behaviour script system ≡ tree.behaviour rule (trees_of deck)
  same = ruled-same rule bytes deck says small

  of-deck : IsRunOf system script log
  of-deck = record {
    valid = ruled-valid rule bytes deck says small;
    deck = subst IsBehaviour (sym same) (ruled-behaves rule bytes deck says);
    lines = λ i d within. like (compiled deck).system system refl refl _
        (lines-there (compiled deck).system script (whole.lines-there bytes deck says) i d within);
    few = let few = whole.lines-few bytes deck says in omega (arith, few);
    run = subst (λ (s : Behaviour). IsRun s log) (sym same) run;
    short = short;
  }

  pub deck-read : IsReadFrom system (report_text system (tree.behaviour rule (trees_of deck)) log) log
  deck-read =
      subst (λ (s : Behaviour). IsReadFrom system (report_text system s log) log) same
      (run-read system script log of-deck)
