-- The system of a deck without a fault under either rule of locking.
use Rattle.std.proofs.Common.{◌≡◌, ◌≤◌, List, ℕ, Ok, length}
use Rattle.std.proofs.lemmas.List.Elements.{All-weaker}
use Rattle.pw_code.specs.Limits.{most_log_lines}
use Rattle.pw_code.specs.Valid.{IsClass, IsTerminal, IsValid}
use Rattle.pw_code.specs.declared.lock.LockRule.{LockRule}
use Rattle.pw_code.specs.declared.system.ClassInfo.{ClassInfo}
use Rattle.pw_code.specs.declared.system.System.{System}
use Rattle.pw_code.specs.declared.system.TermInfo.{TermInfo}
use Rattle.pw_deck.specs.Deck.{deck_of}
use Rattle.pw_deck.specs.Sound as decks
use Rattle.pw_deck.specs.declared.deck.ParsedDeck.{ParsedDeck}
use Rattle.pw_code_meaning.specs.OfSystem as code
use Rattle.pw_onecopy.specs.IsBehaviour.{IsBehaviour}
use Rattle.pw_compiler_laws.specs.Premises.{HasTables}
use Rattle.pw_compiler_laws.specs.Systems.{system_of}
use Rattle.pw_compiler_laws.proofs.Serves.{behaves-same}
use Rattle.pw_compiler_laws.proofs.Valid.{valid-is}
use Rattle.pw_tree_meaning.proofs.Behaviours.{sound-behaviour}
use Rattle.pw_tree_meaning.specs.OfDeck as tree
use Rattle.pw_compiled_deck.specs.Short.{IsSmall}
use Rattle.pw_compiled_deck.specs.Whole.{compiled, trees_of}
use Rattle.pw_compiled_deck.proofs.Whole.{deck-fits, deck-reads, deck-sound, known, tables}

module _ (rule : LockRule) (bytes : List ℕ) (deck : ParsedDeck) (is : deck_of bytes ≡ Ok deck) where
  -- the system under the rule
  abbrev ruled : System
  ruled = system_of rule (trees_of deck)

  -- the tables are the same under each rule
  has-tables : IsSmall (compiled deck).system → HasTables ruled
  has-tables small =
      let told = tables bytes deck is ruled.screens small.screens in
      let old : System = decks.with_code deck ruled.programs ruled.servers ruled.screens in
      record {
        terminals = All-weaker (IsTerminal old) (IsTerminal ruled)
            (λ (one : TermInfo) there. record {
              pair = there.pair;
              program = there.program;
              restarts = there.restarts;
              few = there.few;
              keys = there.keys;
            }) ruled.terminals told.terminals;
        classes = All-weaker (IsClass old) (IsClass ruled)
            (λ (one : ClassInfo) there. record { server = there.server; some = there.some; few = there.few })
            ruled.classes told.classes;
        names = record {
          tcps = told.names.tcps;
          terminals = told.names.terminals;
          classes = told.names.classes;
          files = told.names.files;
        };
        few = record {
          programs = told.few.programs;
          servers = told.few.servers;
          screens = told.few.screens;
          classes = told.few.classes;
          files = told.few.files;
          tcps = told.few.tcps;
          terminals = told.few.terminals;
        };
      }

  pub ruled-valid : IsSmall (compiled deck).system → IsValid ruled
  ruled-valid small =
      valid-is rule (trees_of deck) (deck-sound bytes deck is) (deck-fits bytes deck is) (deck-reads bytes deck is small)
      (has-tables small)

  pub ruled-same : IsSmall (compiled deck).system
      → code.behaviour (trees_of deck).script ruled ≡ tree.behaviour rule (trees_of deck)
  ruled-same small =
      behaves-same rule (trees_of deck) (deck-sound bytes deck is) (deck-fits bytes deck is) (ruled-valid small)

  pub ruled-behaves : IsBehaviour (tree.behaviour rule (trees_of deck))
  ruled-behaves = sound-behaviour rule (trees_of deck) (deck-sound bytes deck is)

  pub log-few : length deck.told.log ≤ most_log_lines
  log-few = (known bytes deck is).log
