-- The same of a deck that was read and compiled.
use Rattle.std.proofs.Common.{◌≡◌, ℕ, ◌≤◌, List, length, All, Ok, sym, ap, ◌∙◌, subst}
use Rattle.pw_base.proofs.Plain.{same-ok}
use Rattle.pw_code.specs.Limits.{most_fail_lines}
use Rattle.pw_code.specs.Valid.{IsValid}
use Rattle.pw_code.specs.declared.lock.LockRule.TheVariants.{ReadersShare}
use Rattle.pw_deck.specs.Deck.{deck_of}
use Rattle.pw_deck.specs.declared.deck.ParsedDeck as trees
use Rattle.pw_code_meaning.specs.OfSystem.{behaviour}
use Rattle.pw_onecopy.specs.IsBehaviour.{IsBehaviour}
use Rattle.pw_tree_meaning.specs.OfDeck as tree
use Rattle.pw_compiled_deck.specs.Named.{IsFailNamed}
use Rattle.pw_compiled_deck.specs.Short.{IsSmall}
use Rattle.pw_compiled_deck.specs.Whole.{compiled, trees_of}
use Rattle.pw_compiled_deck.specs.declared.deck.Deck.{Deck}
use Rattle.pw_compiled_deck.proofs.Whole.{system-valid, system-behaves, system-same, lines-few, lines-there}

module _ (bytes : List ℕ) (deck : trees.ParsedDeck) where
  pub read-valid : (whole : Deck) → deck_of bytes ≡ Ok deck → whole ≡ compiled deck → IsSmall whole.system → IsValid whole.system
  read-valid whole is made small =
      subst (λ (w : Deck). IsValid w.system) (sym made) (system-valid bytes deck is (subst (λ (w : Deck). IsSmall w.system) made small))

  pub read-behaves : (whole : Deck) → deck_of bytes ≡ Ok deck → whole ≡ compiled deck → IsSmall whole.system → IsBehaviour (behaviour whole.script.lines whole.system)
  read-behaves whole is made small =
      subst (λ (w : Deck). IsBehaviour (behaviour w.script.lines w.system)) (sym made) (system-behaves bytes deck is (subst (λ (w : Deck). IsSmall w.system) made small))

  pub read-same : (other : trees.ParsedDeck) (whole : Deck) → deck_of bytes ≡ Ok deck → deck_of bytes ≡ Ok other → whole ≡ compiled deck → IsSmall whole.system
      → behaviour whole.script.lines whole.system ≡ tree.behaviour ReadersShare (trees_of other)
  read-same other whole is also made small =
      ap (λ (w : Deck). behaviour w.script.lines w.system) made ∙ system-same bytes deck is (subst (λ (w : Deck). IsSmall w.system) made small)
      ∙ ap (λ (d : trees.ParsedDeck). tree.behaviour ReadersShare (trees_of d)) (same-ok (deck_of bytes) deck other is also)

  pub read-few : (whole : Deck) → deck_of bytes ≡ Ok deck → whole ≡ compiled deck → length whole.script.lines ≤ most_fail_lines
  read-few whole is made = subst (λ (w : Deck). length w.script.lines ≤ most_fail_lines) (sym made) (lines-few bytes deck is)

  pub read-lines : (whole : Deck) → deck_of bytes ≡ Ok deck → whole ≡ compiled deck → All (IsFailNamed whole.system) whole.script.lines
  read-lines whole is made = subst (λ (w : Deck). All (IsFailNamed w.system) w.script.lines) (sym made) (lines-there bytes deck is)
