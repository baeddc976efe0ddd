-- The requests of each unit of TELLER balance.
use Rattle.std.proofs.Common.{◌≡◌, ℕ, zero, suc, ◌<◌, List, length, false, refl, sym, ap, ◌∙◌, subst, arith}
use Rattle.pw_bank_laws.proofs.Amounts.{Balance}
use Rattle.pw_bank_laws.proofs.Read.{teller-items, teller-paragraphs}
use Rattle.pw_bank_laws.proofs.Teller.{teller-meets, teller_sizes}
use Rattle.pw_bank_laws.proofs.Tellers.{teller_program}
use Rattle.pw_bank_laws.specs.Balances.{posted}
use Rattle.pw_bank_laws.specs.Servers.{BankChoices}
use Rattle.pw_bank_laws.specs.Teller.{teller, teller_bank, teller_text}
use Rattle.pw_code.specs.declared.field.ScreenTable.{ScreenTable}
use Rattle.pw_code.specs.declared.lock.LockRule.{LockRule}
use Rattle.pw_data.specs.Layouts.{Laid}
use Rattle.pw_forms.specs.Procedures.{procedure_of}
use Rattle.pw_forms.specs.declared.statement.Paragraph.{Paragraph}
use Rattle.pw_invariants.specs.Requests.{UnitsBalance}
use Rattle.pw_onecopy.specs.IsBehaviour.{IsBehaviour}
use Rattle.pw_program_laws.specs.Texts.{HaveSizes, texts_in}
use Rattle.pw_program_laws.proofs.requests.Units.{deck-requests}
use Rattle.pw_program_laws.specs.Requests.{ProgramMeets}
use Rattle.pw_tree_meaning.specs.OfDeck.{behaviour}
use Rattle.pw_tree_meaning.specs.Program.{DeckModel, Program, program_at}
use Rattle.pw_tree_meaning.specs.Samples.{paragraphs_by, tokens_of_text}
use Rattle.pw_tree_meaning.specs.Sound.{IsSoundDeck}
use Rattle.pw_tree_meaning.specs.Store.{initial_store}

-- TELLER by its text and as it is read
teller-is : (screens : List ScreenTable) → teller screens ≡ teller_program screens
teller-is screens =
    ap (λ (layout : Laid). record (teller_program screens) { layout = layout; paragraphs = paragraphs_by (procedure_of false teller_text (tokens_of_text teller_text)) }) teller-items
    ∙ ap (λ (paragraphs : List Paragraph). record (teller_program screens) { paragraphs = paragraphs }) teller-paragraphs

teller-sized : (screens : List ScreenTable) → HaveSizes teller_sizes (texts_in (initial_store (teller_program screens)))
teller-sized screens = (refl, (refl, (refl, (refl, (refl, (refl, (refl, (refl, (refl, (refl, (refl, (refl, (refl, (refl, (refl, (refl, (refl, (refl, tt))))))))))))))))))

module _ (screens : List ScreenTable) (bank : BankChoices) where
  abbrev deck : DeckModel
  deck = teller_bank screens bank

  met : (q : ℕ) → q < length deck.programs → HaveSizes teller_sizes (texts_in (initial_store (program_at deck.programs q))) × ProgramMeets deck (program_at deck.programs q) teller_sizes Balance
  met zero known =
      let Sized : Program → Type 0 = λ program. HaveSizes teller_sizes (texts_in (initial_store program)) in
      let Met : Program → Type 0 = λ program. ProgramMeets deck program teller_sizes Balance in
      (subst Sized (sym (teller-is screens)) (teller-sized screens), subst Met (sym (teller-is screens)) (teller-meets screens bank))
  met (suc q) known = absurd (omega (arith, known))

  pub units-balance : (rule : LockRule) → IsSoundDeck deck → IsBehaviour (behaviour rule deck) → UnitsBalance (behaviour rule deck) (λ records. Unit {0}) posted
  units-balance rule sound b unit records left alone holds value = deck-requests rule deck sound b Balance (λ q. teller_sizes) met unit records left alone value
