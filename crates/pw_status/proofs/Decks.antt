-- The system of a deck that was read, under the rule of its log.
use Rattle.std.proofs.Common.{◌≡◌, ◌∙◌, ℕ, zero, suc, ◌≤◌, List, [], ◌∷◌, ap, arith, length, subst, sym, take}
use Rattle.pw_code.specs.Limits.{most_log_lines}
use Rattle.pw_code.specs.Valid.{IsValid}
use Rattle.pw_code.specs.declared.lock.LockRule.{LockRule}
use Rattle.pw_code.specs.declared.system.System.{System}
use Rattle.pw_event.specs.declared.event.Event.{Event}
use Rattle.pw_code_meaning.specs.OfSystem as code
use Rattle.pw_onecopy.specs.Behaviour.{Behaviour}
use Rattle.pw_onecopy.specs.IsBehaviour.{IsBehaviour}
use Rattle.pw_laws.specs.serial.Promises.{KeepsPromises}
use Rattle.pw_log_lines.specs.Log.{rule_of}
use Rattle.pw_paired.specs.Step.{IsRun}
use Rattle.pw_tree_meaning.specs.OfDeck as tree
use Rattle.pw_status.specs.Status.{TellsStatus, IsStatusOf}
use Rattle.pw_status.specs.declared.status.Counted.{Counted}
use Rattle.pw_status.specs.declared.status.Counted.TheVariants.{NotAStep, Run}
use Rattle.pw_compiled_deck.proofs.Decks.{IsOf}
use Rattle.pw_compiled_deck.proofs.Rules.{log-few, ruled-behaves, ruled-same, ruled-valid}
use Rattle.pw_compiled_deck.specs.Short.{IsSmall}
use Rattle.pw_compiled_deck.specs.Whole.{compiled, trees_of}
use Rattle.pw_compiled_deck.specs.declared.deck.Deck.{Deck}

small-tree : (bytes : List ℕ) (whole : Deck) (of : IsOf bytes whole) → IsSmall whole.system → IsSmall (compiled of.deck).system
small-tree bytes whole of small = subst (λ (w : Deck). IsSmall w.system) of.is small

-- a log that is counted to its end is a run
counted-run : (sys : Behaviour) (system : System) (log : List Event) (counted : Counted) (text : List ℕ)
    → TellsStatus sys system log counted text → counted ≡ Run → IsRun sys log
counted-run sys system log Run text counts is = counts.0
counted-run sys system log NotAStep text counts is = absurd cc

module _ (bytes : List ℕ) (whole : Deck) (of : IsOf bytes whole) (small : IsSmall whole.system) where
  abbrev tree-rule : LockRule
  tree-rule = rule_of of.deck.told.version

  abbrev ruled : LockRule → System
  ruled rule = record whole.system { rule = rule }

  pub whole-valid : (rule : LockRule) → rule ≡ rule_of whole.version → IsValid (ruled rule)
  whole-valid rule is =
      subst (λ (r : LockRule). IsValid (ruled r)) (sym is)
      (subst (λ (w : Deck). IsValid (record w.system { rule = rule_of w.version })) (sym of.is)
      (ruled-valid tree-rule bytes of.deck of.says (small-tree bytes whole of small)))

  whole-same : (rule : LockRule) → rule ≡ rule_of whole.version → code.behaviour whole.script.lines (ruled rule) ≡ tree.behaviour tree-rule (trees_of of.deck)
  whole-same rule is =
      ap (λ (r : LockRule). code.behaviour whole.script.lines (ruled r)) is
      ∙ (ap (λ (w : Deck). code.behaviour w.script.lines (record w.system { rule = rule_of w.version })) of.is
      ∙ ruled-same tree-rule bytes of.deck of.says (small-tree bytes whole of small))

  pub whole-behaves : (rule : LockRule) → rule ≡ rule_of whole.version → IsBehaviour (code.behaviour whole.script.lines (ruled rule))
  whole-behaves rule is = subst IsBehaviour (sym (whole-same rule is)) (ruled-behaves tree-rule bytes of.deck of.says)

  pub whole-log : length whole.log ≤ most_log_lines
  whole-log = subst (λ (w : Deck). length w.log ≤ most_log_lines) (sym of.is) (log-few tree-rule bytes of.deck of.says)

  -- what is said of the first entries is said of the deck
  pub status-of : ((sys : Behaviour) → IsBehaviour sys → (log : List Event) → IsRun sys log → KeepsPromises sys log)
      → (rule : LockRule) → rule ≡ rule_of whole.version → (at : ℕ) (log : List Event) → log ≡ take at whole.log → (counted : Counted) (text : List ℕ)
      → TellsStatus (code.behaviour whole.script.lines (ruled rule)) (ruled rule) log counted text → IsStatusOf bytes at counted text
  status-of lawful rule is at log same counted text counts =
      let by-trees : TellsStatus (tree.behaviour tree-rule (trees_of of.deck)) (ruled rule) log counted text =
      subst (λ (b : Behaviour). TellsStatus b (ruled rule) log counted text) (whole-same rule is) counts in
      let by-rule : TellsStatus (tree.behaviour tree-rule (trees_of of.deck)) (record whole.system { rule = rule_of whole.version }) log counted text =
      subst (λ (r : LockRule). TellsStatus (tree.behaviour tree-rule (trees_of of.deck)) (ruled r) log counted text) is by-trees in
      let by-log : TellsStatus (tree.behaviour tree-rule (trees_of of.deck)) (record whole.system { rule = rule_of whole.version }) (take at whole.log) counted text =
      subst (λ (l : List Event). TellsStatus (tree.behaviour tree-rule (trees_of of.deck)) (record whole.system { rule = rule_of whole.version }) l counted text) same by-rule in
      let by-deck : TellsStatus (tree.behaviour tree-rule (trees_of of.deck)) (record (compiled of.deck).system { rule = rule_of (compiled of.deck).version }) (take at (compiled of.deck).log) counted text =
      subst (λ (w : Deck). TellsStatus (tree.behaviour tree-rule (trees_of of.deck)) (record w.system { rule = rule_of w.version }) (take at w.log) counted text) of.is by-log in
      record {
        deck = of.deck;
        says = of.says;
        counts = by-deck;
        promises = λ run. lawful (tree.behaviour tree-rule (trees_of of.deck)) (ruled-behaves tree-rule bytes of.deck of.says) (take at of.deck.told.log)
            (counted-run (tree.behaviour tree-rule (trees_of of.deck)) (record (compiled of.deck).system { rule = rule_of (compiled of.deck).version }) (take at of.deck.told.log) counted text by-deck run);
      }

-- the first of a list are no more than all
pub few-taken : {A : Type 0} (n : ℕ) (xs : List A) → length (take n xs) ≤ length xs
few-taken zero xs = omega arith
few-taken (suc n) [] = omega arith
few-taken (suc n) (x ∷ xs) = let rest = few-taken n xs in omega (arith, rest)
