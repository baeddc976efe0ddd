-- A world that has run to its end is a run of its system.
use Rattle.std.proofs.Common.{◌≡◌, ◌∙◌, ◌&&◌, ℕ, Bool, true, List, [], ◌∷◌, ◌++◌, Result, Ok, Err, append_assoc, ap, refl, subst, sym}
use Rattle.std.specs.Prelude.{IfOk}
use Rattle.std.proofs.lemmas.Bool.{true≢false}
use Rattle.pw_base.specs.First.{Refuses}
use Rattle.pw_base.specs.declared.fault_code.FaultCode.{FaultCode}
use Rattle.pw_base.specs.declared.fault.Refusal.{Refusal}
use Rattle.pw_base.specs.declared.fault.Refusal.TheVariants.{At}
use Rattle.pw_code.specs.Limits.{most_log_lines}
use Rattle.pw_code.specs.declared.lock.LockRule.{LockRule}
use Rattle.pw_code.specs.declared.lock.LockRule.TheVariants.{ReadersShare}
use Rattle.pw_code.specs.declared.system.System.{System}
use Rattle.pw_deck.specs.Deck.{deck_of}
use Rattle.pw_deck.specs.declared.deck.ParsedDeck.{ParsedDeck}
use Rattle.pw_compiled_deck.proofs.Decks.{IsOf, refuses}
use Rattle.pw_deck_runs.proofs.Lifts.{AreLawful}
use Rattle.pw_deck_runs.specs.Meaning.{meaning, named}
use Rattle.pw_deck_runs.specs.Trials.{TellsCounts, Tries, TriesSystem}
use Rattle.pw_event.specs.declared.event.Ending.{Ending}
use Rattle.pw_event.specs.declared.event.Ending.TheVariants.{NoEntries}
use Rattle.pw_event.specs.declared.event.Event.{Event}
use Rattle.pw_event.specs.declared.event.Event.TheVariants.{End}
use Rattle.pw_event.specs.declared.script.FailLine.{FailLine}
use Rattle.pw_code_meaning.specs.OfSystem.{behaviour}
use Rattle.pw_gen.specs.Generated.{generated}
use Rattle.pw_gen.specs.Faultless.{IsFaultless}
use Rattle.pw_generated_runs.specs.Finished.{counted_text}
use Rattle.pw_report_text.specs.Meaning.{files_text, report_text}
use Rattle.pw_onecopy.specs.Behaviour.{Behaviour}
use Rattle.pw_onecopy.specs.IsBehaviour.{IsBehaviour}
use Rattle.pw_paired.specs.Step.{IsRun, after, is_finished}
use Rattle.pw_tree_meaning.specs.OfDeck as tree
use Rattle.pw_workers.specs.Endings.{EndsAs, IsReportOfRun, all_regular, is_regular, is_regular_ending}
use Rattle.pw_workers.specs.declared.ending.LogEnding.{LogEnding}
use Rattle.pw_workers.specs.declared.ending.LogEnding.TheVariants.{Full, Irregular, Regular}
use Rattle.pw_compiler_laws.specs.Systems.{system_of}
use Rattle.pw_compiled_deck.specs.Whole.{trees_of, whole_of}
use Rattle.pw_compiled_deck.specs.declared.deck.Deck.{Deck}

-- its report is one of this system and script
pub runs-to : (system own : System) (script lines : List FailLine) (events : ℕ) (log : List Event) (ended : LogEnding)
    (text : List ℕ) → own ≡ system → lines ≡ script → IsRun (behaviour lines own) log
    → EndsAs ended events (behaviour script system) log → text ≡ report_text own (behaviour lines own) log
    → IsReportOfRun (behaviour script system) system events ended text
runs-to system own script lines events log ended text same written run ends is = record {
  log = log;
  run = subst (λ ls. IsRun (behaviour ls system) log) written
      (subst (λ (s : System). IsRun (behaviour lines s) log) same run);
  ends = ends;
  is = is ∙ (ap (λ (s : System). report_text s (behaviour lines s) log) same
      ∙ ap (λ ls. report_text system (behaviour ls system) log) written);
}

-- and so are its files
pub tries-to : (system own : System) (script lines : List FailLine) (log : List Event) (ended : LogEnding)
    (text : List ℕ) → own ≡ system → lines ≡ script → IsRun (behaviour lines own) log
    → EndsAs ended most_log_lines (behaviour script system) log → text ≡ files_text own (behaviour lines own) log
    → TriesSystem (behaviour script system) system ended text
tries-to system own script lines log ended text same written run ends is = record {
  log = log;
  run = subst (λ ls. IsRun (behaviour ls system) log) written
      (subst (λ (s : System). IsRun (behaviour lines s) log) same run);
  ends = ends;
  is = is ∙ (ap (λ (s : System). files_text s (behaviour lines s) log) same
      ∙ ap (λ ls. files_text system (behaviour ls system) log) written);
}

-- what is said of the runs of a generated deck
pub record AreCounted (seed terminals : ℕ) : Type 0 where
  pub ends : (deck : ParsedDeck) → deck_of (generated seed terminals) ≡ Ok deck → (rule : LockRule) → (log : List Event) → IsRun (tree.behaviour rule (trees_of deck)) log
      → (before behind : List Event) (t : ℕ) (ending : Ending) → log ≡ before ++ End t ending ∷ behind → ending ≡ NoEntries
  pub prints : (deck : ParsedDeck) → deck_of (generated seed terminals) ≡ Ok deck → (rule : LockRule) → (log : List Event) → IsRun (tree.behaviour rule (trees_of deck)) log
      → is_finished (tree.behaviour rule (trees_of deck)) (after (tree.behaviour rule (trees_of deck)) log) ≡ true
      → files_text (system_of rule (trees_of deck)) (tree.behaviour rule (trees_of deck)) log ≡ counted_text seed terminals

-- where each END entry is NOENTRIES all endings are regular
regular-from : (before rest : List Event) → ((first behind : List Event) (t : ℕ) (ending : Ending) → before ++ rest ≡ first ++ End t ending ∷ behind → ending ≡ NoEntries)
    → all_regular rest ≡ true
regular-from before [] ends = refl
regular-from before (entry ∷ rest) ends =
    ap (λ (b : Bool). b && all_regular rest) (own entry (λ t ending is. ends before rest t ending (ap (λ (e : Event). before ++ e ∷ rest) is)))
    ∙ regular-from (before ++ entry ∷ []) rest (λ first behind t ending is. ends first behind t ending (sym (append_assoc before (entry ∷ []) rest) ∙ is))
  where
    own : (e : Event) → ((t : ℕ) (ending : Ending) → e ≡ End t ending → ending ≡ NoEntries) → is_regular e ≡ true
    own (End t ending) is = ap is_regular_ending (is t ending refl)
    own e is = refl

-- so the text of a finished run tells the counts
counted : (seed terminals : ℕ) → AreCounted seed terminals → (deck : ParsedDeck) → deck_of (generated seed terminals) ≡ Ok deck → (ended : LogEnding) (text : List ℕ)
    → TriesSystem (meaning ReadersShare deck) (named ReadersShare deck) ended text → TellsCounts seed terminals ended text
counted seed terminals are deck says Regular text to = to.is ∙ are.prints deck says ReadersShare to.log to.run to.ends.has.0
counted seed terminals are deck says Irregular text to = absurd (true≢false (sym (regular-from [] to.log (are.ends deck says ReadersShare to.log to.run)) ∙ to.ends.has.1))
counted seed terminals are deck says Full text to = tt

-- what is said of the system of a generated deck is said of the deck
pub tries : AreLawful → (seed terminals : ℕ) → AreCounted seed terminals → (bytes : List ℕ) → bytes ≡ generated seed terminals → (whole : Deck)
    (of : IsOf bytes whole) (sys : Behaviour) → IsBehaviour sys → sys ≡ meaning ReadersShare of.deck
    → (ended : LogEnding) (text : List ℕ) → TriesSystem sys whole.system ended text → Tries seed terminals ended text
tries lawful seed terminals counts bytes are whole of sys behaves same ended text to =
    let system : whole.system ≡ named ReadersShare of.deck = ap (λ (w : Deck). w.system) of.is in
    let meant : TriesSystem (meaning ReadersShare of.deck) (named ReadersShare of.deck) ended text =
    subst (λ (s : System). TriesSystem (meaning ReadersShare of.deck) s ended text) system
    (subst (λ (b : Behaviour). TriesSystem b whole.system ended text) same to) in
    record {
      deck = of.deck;
      says = ap deck_of (sym are) ∙ of.says;
      tries = meant;
      promises = lawful (meaning ReadersShare of.deck) (subst IsBehaviour same behaves) meant.log meant.run;
      counted = counted seed terminals counts of.deck (ap deck_of (sym are) ∙ of.says) ended text meant;
    }

pub tried : {E : Type 0} → AreLawful → (seed terminals : ℕ) → AreCounted seed terminals → (bytes : List ℕ) → bytes ≡ generated seed terminals
    → (whole : Deck) (of : IsOf bytes whole) (sys : Behaviour) → IsBehaviour sys → sys ≡ meaning ReadersShare of.deck
    → (result : Result (LogEnding × List ℕ) E) → IfOk result (λ output. TriesSystem sys whole.system output.0 output.1)
    → IfOk result (λ output. Tries seed terminals output.0 output.1)
tried lawful seed terminals counts bytes are whole of sys behaves same (Ok output) to =
    tries lawful seed terminals counts bytes are whole of sys behaves same output.0 output.1 to
tried lawful seed terminals counts bytes are whole of sys behaves same (Err fault) to = tt

-- a deck without a fault is not refused
pub not-refused : (bytes : List ℕ) (line : ℕ) (code : FaultCode) (refusal : Refusal) → refusal ≡ At line code
    → Refuses refusal (whole_of bytes) → IsFaultless bytes → ⊥
not-refused bytes line code refusal is said faultless =
    let fault : deck_of bytes ≡ Err (record { line = line; code = code }) =
    refuses bytes (At line code) (subst (λ (r : Refusal). Refuses r (whole_of bytes)) is said) in
    let deck : deck_of bytes ≡ Ok faultless.0 = faultless.1 in
    cc (fault, deck)
