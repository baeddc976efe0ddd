-- What is said of a system that was read is said of its deck.
use Rattle.std.proofs.Common.{◌≡◌, ℕ, List, ap, subst}
use Rattle.pw_code.specs.declared.lock.LockRule.TheVariants.{ReadersShare}
use Rattle.pw_code.specs.declared.system.System.{System}
use Rattle.pw_compiled_deck.proofs.Decks.{IsOf}
use Rattle.pw_deck_runs.proofs.Lifts.{AreLawful}
use Rattle.pw_deck_runs.specs.Meaning.{meaning, named}
use Rattle.pw_onecopy.specs.Behaviour.{Behaviour}
use Rattle.pw_onecopy.specs.IsBehaviour.{IsBehaviour}
use Rattle.pw_deck_runs.specs.recovery.Headline.{Recovers}
use Rattle.pw_deck_runs.specs.recovery.Runs.{RecoversTo}
use Rattle.pw_deck_runs.specs.declared.recovery.ending.Recovered.{Recovered}
use Rattle.pw_compiled_deck.specs.declared.deck.Deck.{Deck}

pub recovers : AreLawful → (bytes : List ℕ) (whole : Deck) (of : IsOf bytes whole) (sys : Behaviour)
    → IsBehaviour sys → sys ≡ meaning ReadersShare of.deck → (events at : ℕ) (recovered : Recovered) (text : List ℕ)
    → RecoversTo sys whole.system events at recovered text → Recovers bytes events at recovered text
recovers lawful bytes whole of sys behaves same events at recovered text runs =
    let system : whole.system ≡ named ReadersShare of.deck = ap (λ (w : Deck). w.system) of.is in
    let to : RecoversTo (meaning ReadersShare of.deck) (named ReadersShare of.deck) events at recovered text =
    subst (λ (s : System). RecoversTo (meaning ReadersShare of.deck) s events at recovered text) system
    (subst (λ (b : Behaviour). RecoversTo b whole.system events at recovered text) same runs) in
    let meant : IsBehaviour (meaning ReadersShare of.deck) = subst IsBehaviour same behaves in
    record {
      deck = of.deck;
      says = of.says;
      log = to.log;
      promises = lawful (meaning ReadersShare of.deck) meant to.log to.run;
      ends = to.ends;
      is = to.is;
    }
