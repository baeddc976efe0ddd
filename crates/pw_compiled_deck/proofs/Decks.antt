-- A whole deck that was read is that of its trees, and is refused as they are.
use Rattle.std.proofs.Common.{◌≡◌, List, ℕ, Result, Ok, Err, refl, sym}
use Rattle.pw_base.specs.First.{Refuses}
use Rattle.pw_base.specs.declared.fault.Fault.{Fault}
use Rattle.pw_base.specs.declared.fault.Refusal.{Refusal}
use Rattle.pw_base.specs.declared.fault.Refusal.TheVariants.{At, Memory}
use Rattle.pw_deck.specs.Deck.{deck_of}
use Rattle.pw_deck.specs.declared.deck.ParsedDeck as trees
use Rattle.pw_sections.specs.Steps.{◌>>=◌}
use Rattle.pw_compiled_deck.specs.Whole.{compiled, whole_of}
use Rattle.pw_compiled_deck.specs.declared.deck.Deck.{Deck}

pub record IsOf (bytes : List ℕ) (whole : Deck) : Type 0 where
  pub deck : trees.ParsedDeck
  pub says : deck_of bytes ≡ Ok deck
  pub is : whole ≡ compiled deck

pub whole-is : (bytes : List ℕ) (whole : Deck) → whole_of bytes ≡ Ok whole → IsOf bytes whole
whole-is bytes whole is = by (deck_of bytes) refl is
  where
    by : (read : Result trees.ParsedDeck Fault) → deck_of bytes ≡ read
        → (read >>= (λ (deck : trees.ParsedDeck). Ok (compiled deck))) ≡ Ok whole → IsOf bytes whole
    by (Ok deck) says is = let same : compiled deck ≡ whole = cc in record { deck = deck; says = says; is = sym same }
    by (Err fault) says is = absurd (cc is)

-- a whole deck is refused as its trees are
pub refuses : (bytes : List ℕ) (refusal : Refusal) → Refuses refusal (whole_of bytes) → Refuses refusal (deck_of bytes)
refuses bytes Memory is = tt
refuses bytes (At line code) is = by (deck_of bytes) refl is
  where
    by : (read : Result trees.ParsedDeck Fault) → deck_of bytes ≡ read
        → (read >>= (λ (deck : trees.ParsedDeck). Ok (compiled deck))) ≡ Err (record { line = line; code = code })
        → deck_of bytes ≡ Err (record { line = line; code = code })
    by (Ok deck) says is = absurd (cc is)
    by (Err fault) says is = let same : fault ≡ record { line = line; code = code } = cc in rw (says, same) refl
