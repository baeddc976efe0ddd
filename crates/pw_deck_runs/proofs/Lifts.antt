-- What is said of a system that was read is said of its deck.
use Rattle.std.proofs.Common.{◌≡◌, ◌∙◌, ◌≤◌, ℕ, List, Ok, ap, arith, length, refl, subst, sym}
use Rattle.pw_code.specs.Limits.{most_log_lines}
use Rattle.pw_code.specs.Valid.{IsValid}
use Rattle.pw_code.specs.declared.lock.LockRule.{LockRule}
use Rattle.pw_code.specs.declared.lock.LockRule.TheVariants.{ReadersShare}
use Rattle.pw_code.specs.declared.system.System.{System}
use Rattle.pw_deck.specs.Deck.{deck_of}
use Rattle.pw_deck.specs.declared.deck.ParsedDeck as trees
use Rattle.pw_compiled_deck.proofs.Decks.{IsOf}
use Rattle.pw_deck_runs.specs.Headline.{Prints, Reports}
use Rattle.pw_deck_runs.specs.Meaning.{meaning, named}
use Rattle.pw_deck_runs.specs.Replays.{Answers, Replays, Verifies}
use Rattle.pw_deck_runs.specs.declared.verify.Verified.{Verified}
use Rattle.pw_deck_runs.specs.declared.verify.Verified.TheVariants.{NotAStep, Run}
use Rattle.pw_event.specs.declared.event.Event.{Event}
use Rattle.pw_code_meaning.specs.OfSystem as code
use Rattle.pw_onecopy.specs.Behaviour.{Behaviour}
use Rattle.pw_onecopy.specs.IsBehaviour.{IsBehaviour}
use Rattle.pw_paired.specs.Step.{IsRun}
use Rattle.pw_laws.specs.serial.Promises.{KeepsPromises}
use Rattle.pw_report_text.specs.Meaning.{report_text}
use Rattle.pw_workers.specs.Endings.{IsReportOfRun}
use Rattle.pw_workers.specs.declared.ending.LogEnding.{LogEnding}
use Rattle.pw_log_lines.specs.Log.{rule_of}
use Rattle.pw_read_back.specs.ReadFrom.{IsReadFrom}
use Rattle.pw_compiled_deck.specs.Short.{IsSmall}
use Rattle.pw_compiled_deck.specs.Whole.{compiled}
use Rattle.pw_compiled_deck.specs.declared.deck.Deck.{Deck}
use Rattle.pw_compiled_deck.proofs.Rules.{log-few, ruled-behaves, ruled-same, ruled-valid}

-- every run keeps what is promised
abbrev pub AreLawful : Type 0
AreLawful = (sys : Behaviour) → IsBehaviour sys → (log : List Event) → IsRun sys log → KeepsPromises sys log

-- the report of a run of so many entries is read back as it
abbrev pub AreRead : Type 0
AreRead = (rule : LockRule) (bytes : List ℕ) (deck : trees.ParsedDeck) → deck_of bytes ≡ Ok deck
    → IsSmall (compiled deck).system → (log : List Event) → IsRun (meaning rule deck) log → length log ≤ most_log_lines
    → IsReadFrom (named rule deck) (report_text (named rule deck) (meaning rule deck) log) log

-- what was read is as small as what it is compiled from
small-tree : (bytes : List ℕ) (whole : Deck) (of : IsOf bytes whole) → IsSmall whole.system
    → IsSmall (compiled of.deck).system
small-tree bytes whole of small = subst (λ (w : Deck). IsSmall w.system) of.is small

-- a run is printed
prints : AreLawful → AreRead → (rule : LockRule) (bytes : List ℕ) (deck : trees.ParsedDeck) → deck_of bytes ≡ Ok deck
    → IsSmall (compiled deck).system → IsBehaviour (meaning rule deck) → (log : List Event) → IsRun (meaning rule deck) log
    → length log ≤ most_log_lines → (text : List ℕ) → text ≡ report_text (named rule deck) (meaning rule deck) log
    → Prints rule deck log text
prints lawful read rule bytes deck says small behaves log run few text is = record {
  promises = lawful (meaning rule deck) behaves log run;
  is = is;
  read = subst (λ (t : List ℕ). IsReadFrom (named rule deck) t log) (sym is) (read rule bytes deck says small log run few);
}

-- a run of a system
pub reports : AreLawful → AreRead → (bytes : List ℕ) (whole : Deck) (of : IsOf bytes whole)
    → IsSmall whole.system → (sys : Behaviour) → IsBehaviour sys → sys ≡ meaning ReadersShare of.deck
    → (events : ℕ) → events ≤ most_log_lines → (ran : LogEnding) (text : List ℕ)
    → IsReportOfRun sys whole.system events ran text → Reports bytes events ran text
reports lawful read bytes whole of small sys behaves same events few ran text runs =
    let system : whole.system ≡ named ReadersShare of.deck = ap (λ (w : Deck). w.system) of.is in
    let to : IsReportOfRun (meaning ReadersShare of.deck) (named ReadersShare of.deck) events ran text =
    subst (λ (s : System). IsReportOfRun (meaning ReadersShare of.deck) s events ran text) system
    (subst (λ (b : Behaviour). IsReportOfRun b whole.system events ran text) same runs) in
    record {
      deck = of.deck;
      says = of.says;
      log = to.log;
      prints = prints lawful read ReadersShare bytes of.deck of.says (small-tree bytes whole of small)
          (subst IsBehaviour same behaves) to.log to.run (omega (arith, to.ends.room, few)) text to.is;
      ended = to.ends;
    }

-- the replay of a log
answers : AreLawful → AreRead → (rule : LockRule) (bytes : List ℕ) (deck : trees.ParsedDeck) → deck_of bytes ≡ Ok deck
    → IsSmall (compiled deck).system → IsBehaviour (meaning rule deck) → length deck.told.log ≤ most_log_lines
    → (verified : Verified) (text : List ℕ) → Replays (meaning rule deck) (named rule deck) deck.told.log verified text
    → Answers rule deck verified text
answers lawful read rule bytes deck says small behaves few Run text to =
    prints lawful read rule bytes deck says small behaves deck.told.log to.0 few text to.1
answers lawful read rule bytes deck says small behaves few NotAStep text to = to

-- the system of a deck that was read, under the rule of its log
abbrev pub ruled : Deck → System
ruled whole = record whole.system { rule = rule_of whole.version }

pub verifies : AreLawful → AreRead → (bytes : List ℕ) (whole : Deck) (of : IsOf bytes whole)
    → IsSmall whole.system → (sys : Behaviour) → IsBehaviour (meaning (rule_of of.deck.told.version) of.deck)
    → sys ≡ meaning (rule_of of.deck.told.version) of.deck → (verified : Verified) (text : List ℕ)
    → Replays sys (ruled whole) whole.log verified text → Verifies bytes verified text
verifies lawful read bytes whole of small sys behaves same verified text replays =
    let deck : trees.ParsedDeck = of.deck in
    let rule : LockRule = rule_of deck.told.version in
    let meant : Replays (meaning rule deck) (ruled whole) whole.log verified text =
    subst (λ (b : Behaviour). Replays b (ruled whole) whole.log verified text) same replays in
    let to : Replays (meaning rule deck) (named rule deck) deck.told.log verified text =
    subst (λ (w : Deck). Replays (meaning rule deck) (ruled w) w.log verified text) of.is meant in
    record {
      deck = deck;
      says = of.says;
      answers = answers lawful read rule bytes deck of.says (small-tree bytes whole of small) behaves
          (log-few rule bytes deck of.says) verified text to;
    }

-- ---- the system of a deck that was read, under the rule of its log

module _ (bytes : List ℕ) (whole : Deck) (of : IsOf bytes whole) (small : IsSmall whole.system) where
  abbrev tree-rule : LockRule
  tree-rule = rule_of of.deck.told.version

  pub whole-valid : (rule : LockRule) → rule ≡ rule_of whole.version → IsValid (record whole.system { rule = rule })
  whole-valid rule is =
      subst (λ (r : LockRule). IsValid (record whole.system { rule = r })) (sym is)
      (subst (λ (w : Deck). IsValid (ruled w)) (sym of.is)
      (ruled-valid tree-rule bytes of.deck of.says (small-tree bytes whole of small)))

  pub whole-same : (rule : LockRule) → rule ≡ rule_of whole.version
      → code.behaviour whole.script.lines (record whole.system { rule = rule }) ≡ meaning tree-rule of.deck
  whole-same rule is =
      ap (λ (r : LockRule). code.behaviour whole.script.lines (record whole.system { rule = r })) is
      ∙ (ap (λ (w : Deck). code.behaviour w.script.lines (ruled w)) of.is
      ∙ ruled-same tree-rule bytes of.deck of.says (small-tree bytes whole of small))

  pub whole-behaves : (rule : LockRule) → rule ≡ rule_of whole.version
      → IsBehaviour (code.behaviour whole.script.lines (record whole.system { rule = rule }))
  whole-behaves rule is = subst IsBehaviour (sym (whole-same rule is)) (ruled-behaves tree-rule bytes of.deck of.says)

  pub whole-log : length whole.log ≤ most_log_lines
  whole-log = subst (λ (w : Deck). length w.log ≤ most_log_lines) (sym of.is) (log-few tree-rule bytes of.deck of.says)

  pub verifies-from : AreLawful → AreRead → (rule : LockRule) → rule ≡ rule_of whole.version
      → (log : List Event) → log ≡ whole.log → (verified : Verified) (text : List ℕ)
      → Replays (code.behaviour whole.script.lines (record whole.system { rule = rule })) (record whole.system { rule = rule })
      log verified text
      → Verifies bytes verified text
  verifies-from lawful read rule is log same verified text replays =
      let at-rule : Replays (code.behaviour whole.script.lines (ruled whole)) (ruled whole) log verified text =
      subst (λ (r : LockRule). Replays (code.behaviour whole.script.lines (record whole.system { rule = r }))
      (record whole.system { rule = r }) log verified text) is replays in
      let at-log : Replays (code.behaviour whole.script.lines (ruled whole)) (ruled whole) whole.log verified text =
      subst (λ (l : List Event). Replays (code.behaviour whole.script.lines (ruled whole)) (ruled whole) l verified text)
      same at-rule in
      verifies lawful read bytes whole of small (code.behaviour whole.script.lines (ruled whole))
      (ruled-behaves tree-rule bytes of.deck of.says) (whole-same (rule_of whole.version) refl) verified text at-log
