-- The requests of each unit of ORDERS balance.
use Rattle.std.proofs.Common.{◌≡◌, ℕ, zero, suc, ◌<◌, Bool, List, length, refl, sym, ap, subst, arith}
use Rattle.pw_code.specs.declared.field.ScreenTable.{ScreenTable}
use Rattle.pw_code.specs.declared.lock.LockRule.{LockRule}
use Rattle.pw_invariants.specs.Requests.{UnitsBalance}
use Rattle.pw_onecopy.specs.IsBehaviour.{IsBehaviour}
use Rattle.pw_order_laws.proofs.Clerk.{clerk-meets}
use Rattle.pw_order_laws.proofs.ClerkItems.{clerk_sizes}
use Rattle.pw_order_laws.proofs.ClerkTrees.{clerk_program}
use Rattle.pw_order_laws.proofs.Read.{clerk-is}
use Rattle.pw_order_laws.proofs.Requests.{Balance}
use Rattle.pw_order_laws.specs.Clerk.{clerk, clerk_deck}
use Rattle.pw_order_laws.specs.Servers.{OrderChoices}
use Rattle.pw_order_laws.specs.Stock.{supply_behind}
use Rattle.pw_program_laws.specs.Texts.{HaveSizes, texts_in}
use Rattle.pw_program_laws.proofs.requests.Units.{deck-requests}
use Rattle.pw_program_laws.specs.Requests.{ProgramMeets}
use Rattle.pw_tree_meaning.specs.OfDeck.{behaviour}
use Rattle.pw_tree_meaning.specs.Program.{DeckModel, Program, program_at}
use Rattle.pw_tree_meaning.specs.Sound.{IsSoundDeck}
use Rattle.pw_tree_meaning.specs.Store.{initial_store}

-- ORDERS by its text and as it is read
clerk-read : (screens : List ScreenTable) → clerk screens ≡ clerk_program screens
clerk-read screens = ap (λ (program : Program). record program { screens = screens }) clerk-is

clerk-sized : (screens : List ScreenTable) → HaveSizes clerk_sizes (texts_in (initial_store (clerk_program screens)))
clerk-sized screens =
    (refl, (refl, (refl, (refl, (refl, (refl, (refl, (refl, (refl, (refl, (refl, (refl, (refl, (refl, (refl, (refl, (refl, (refl, (refl, (refl, (refl, (refl, (refl, (refl, tt))))))))))))))))))))))))

module _ (items : List ℕ → Bool) (screens : List ScreenTable) (choices : OrderChoices) where
  abbrev deck : DeckModel
  deck = clerk_deck screens choices

  met : (q : ℕ) → q < length deck.programs → HaveSizes clerk_sizes (texts_in (initial_store (program_at deck.programs q))) × ProgramMeets deck (program_at deck.programs q) clerk_sizes (Balance items)
  met zero known =
      let Sized : Program → Type 0 = λ program. HaveSizes clerk_sizes (texts_in (initial_store program)) in
      let Met : Program → Type 0 = λ program. ProgramMeets deck program clerk_sizes (Balance items) in
      (subst Sized (sym (clerk-read screens)) (clerk-sized screens), subst Met (sym (clerk-read screens)) (clerk-meets items screens deck choices.stock_processes choices.order_processes))
  met (suc q) known = absurd (omega (arith, known))

  pub units-balance : (rule : LockRule) → IsSoundDeck deck → IsBehaviour (behaviour rule deck) → UnitsBalance (behaviour rule deck) (λ records. Unit {0}) (supply_behind items)
  units-balance rule sound b unit records left alone holds value = deck-requests rule deck sound b (Balance items) (λ q. clerk_sizes) met unit records left alone value
