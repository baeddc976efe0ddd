-- Why a deck is not run over a store.
use Rattle.std.proofs.Common.{◌≡◌, ◌∙◌, ℕ, List, Result, Ok, Err, IfErr, IfOk, ap, subst, sym}
use Rattle.pw_base.specs.First.{Refuses}
use Rattle.pw_base.specs.declared.fault.Refusal.{Refusal}
use Rattle.pw_base.specs.declared.fault.Refusal.TheVariants.{At, Memory}
use Rattle.pw_code.specs.declared.file.FileInfo.{FileInfo}
use Rattle.pw_compiled_deck.proofs.Decks.{IsOf}
use Rattle.pw_compiled_deck.specs.declared.deck.Deck.{Deck}
use Rattle.pw_deck.specs.Deck.{deck_of}
use Rattle.pw_records.specs.Records.{AreAlike}
use Rattle.pw_store_runs.specs.Refusals.{RefusesTrail}
use Rattle.pw_store_runs.specs.Stores.{AreFilesOf, RefusesStore, deck_refused}
use Rattle.pw_store_runs.specs.declared.ending.StoreFault.{StoreFault}
use Rattle.pw_store_runs.specs.declared.ending.StoreFault.TheVariants as fault
use Rattle.pw_trail.specs.Format.{units_in}

-- in both answers
pub if-ok : {A E : Type 0} {P Q : A → Type 0} (answer : Result A E) → IfOk answer P → ((x : A) → P x → Q x) → IfOk answer Q
if-ok (Ok x) h on = on x h
if-ok (Err e) h on = tt

pub if-err : {A E : Type 0} {P Q : E → Type 0} (answer : Result A E) → IfErr answer P → ((x : E) → P x → Q x) → IfErr answer Q
if-err (Ok x) h on = tt
if-err (Err e) h on = on e h

module _ {S : Type 0} (faulted : S → ℕ) (first trail : List ℕ) (least : ℕ) (bytes : List ℕ) where
  -- the deck's first fault
  pub deck-refuses : (refusal : Refusal) → Refuses refusal (deck_of bytes) → RefusesStore faulted first trail least bytes (deck_refused refusal)
  deck-refuses (At line code) is = is
  deck-refuses Memory is = tt

  module _ (files : List FileInfo) (own : AreFilesOf first files) where
    -- the trail's
    pub trail-refuses : (why : StoreFault S) → RefusesTrail faulted least files trail why → RefusesStore faulted first trail least bytes why
    trail-refuses (fault.Refused found) h = absurd h
    trail-refuses fault.NoStore h = absurd h
    trail-refuses fault.OtherFiles h = absurd h
    trail-refuses (fault.Failed disk) h = h
    trail-refuses fault.Memory h = tt
    trail-refuses (fault.Damaged at) h = (own.deck, own.says, ap (λ (fs : List FileInfo). units_in fs trail) (sym own.are) ∙ h)

    -- the files are not the deck's
    pub unlike : (whole : Deck) (of : IsOf bytes whole) (mine theirs : List FileInfo) → mine ≡ files → theirs ≡ whole.system.files
        → (AreAlike mine theirs → ⊥) → RefusesStore faulted first trail least bytes fault.OtherFiles
    unlike whole of mine theirs same same_too not =
        let mine_is : mine ≡ own.deck.told.system.files = same ∙ own.are in
        let theirs_is : theirs ≡ of.deck.told.system.files = same_too ∙ ap (λ (w : Deck). w.system.files) of.is in (
          own.deck,
          of.deck,
          own.says,
          of.says,
          λ alike.
              not (subst (λ (fs : List FileInfo). AreAlike fs theirs) (sym mine_is)
              (subst (λ (fs : List FileInfo). AreAlike own.deck.told.system.files fs) (sym theirs_is) alike)),
        )
