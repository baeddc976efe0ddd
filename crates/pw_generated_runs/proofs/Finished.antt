-- Finished runs: of a deck that counts its entries, and of a generated one.
use Rattle.std.proofs.Common.{◌≡◌, ◌≢◌, ℕ, zero, suc, ◌+◌, ◌-◌, ◌*◌, ◌<◌, ◌≤◌, true, false, List, [], ◌∷◌, ◌++◌, length, Option, Some, None, refl, ap, sym, subst, arith, ◌∙◌}
use Rattle.std.specs.Prelude.{codes, is_none, slice_get}
use Rattle.std.proofs.lemmas.Bool.{not-true, true≢false}
use Rattle.pw_code.specs.declared.lock.LockRule.{LockRule}
use Rattle.pw_code.specs.declared.system.TermInfo.{TermInfo}
use Rattle.pw_compiled_deck.specs.Whole.{trees_of}
use Rattle.pw_compiler_laws.specs.Systems.{system_of}
use Rattle.pw_deck.specs.declared.deck.ParsedDeck.{ParsedDeck}
use Rattle.pw_event.specs.declared.event.Cause.{Cause}
use Rattle.pw_event.specs.declared.event.Ending.{Ending}
use Rattle.pw_event.specs.declared.event.Ending.TheVariants as ending
use Rattle.pw_event.specs.declared.event.Event.{Event}
use Rattle.pw_event.specs.declared.event.Event.TheVariants as event
use Rattle.pw_event.specs.declared.script.FailLine.{FailLine}
use Rattle.pw_gen.specs.Generated.{digit_of, next_number, number_after}
use Rattle.pw_generated_runs.proofs.Failing.{ends-so, guarded, has-end}
use Rattle.pw_generated_runs.proofs.Generated.{IsGenerated}
use Rattle.pw_generated_runs.proofs.Machines.{endings-may, records-counted}
use Rattle.pw_generated_runs.proofs.Redo.{never-redoes}
use Rattle.pw_generated_runs.specs.Counts.{asked_for, entry_total, stock_with}
use Rattle.pw_generated_runs.specs.Finished.{LeavesCounts, counted_text, one_failure}
use Rattle.pw_generated_runs.specs.Keys.{key_digits, terminal_digits}
use Rattle.pw_generated_runs.specs.Rounds.{CountsEntries, MayHaveEnded}
use Rattle.pw_generated_runs.specs.Trees.{CountingParts, HaveEntries, counting_deck}
use Rattle.pw_laws.proofs.RunSteps.{IsRunFrom-append, run-parts}
use Rattle.pw_laws.proofs.guarded.Staying.{guarded-terminals}
use Rattle.pw_laws.proofs.induction.Runs.{after-more, kept}
use Rattle.pw_laws.proofs.terms.KeepsPairs.{any_below-false}
use Rattle.pw_onecopy.specs.Behaviour.{Behaviour}
use Rattle.pw_onecopy.specs.IsBehaviour.{IsBehaviour, IsPath}
use Rattle.pw_onecopy.specs.OneCopy.{one_copy}
use Rattle.pw_paired.specs.Headline.{IsSerializable}
use Rattle.pw_paired.specs.End.{LegalEnd}
use Rattle.pw_paired.specs.Serial.{blocks}
use Rattle.pw_paired.specs.State.{OpenUnit, State, starting}
use Rattle.pw_paired.specs.Step.{IsRun, after, is_finished, is_going_on}
use Rattle.pw_report_text.specs.Lines.{line, record_lines}
use Rattle.pw_report_text.specs.Listing.{files_part}
use Rattle.pw_report_text.specs.Meaning.{files_text}
use Rattle.pw_tree_meaning.specs.OfDeck.{behaviour, number_by}
use Rattle.pw_tree_meaning.specs.Program.{DeckModel}
use Rattle.pw_code.specs.declared.verb.Verb.TheVariants as verb

-- a terminal that ends is started
end-known : (sys : Behaviour) (s : State) (t : ℕ) (e : Ending) → LegalEnd sys s t e → ((u : OpenUnit) → s.units t ≡ Some u → t < sys.terminals) → t < sys.terminals
end-known sys s t ending.Stopped l open_known = l.can.live.known
end-known sys s t ending.NoEntries l open_known = l.can.live.known
end-known sys s t (ending.Fault x) l open_known = l.can.live.known
end-known sys s t (ending.Suspended cause) l open_known = open_known l.unit l.caused.is_open
end-known sys s t ending.Lost l open_known = l.live.known

-- no terminal is suspended where each may restart often enough and none asks to restart
abbrev pub NeverSuspends : Behaviour → Type 0
NeverSuspends sys = (before behind : List Event) (t : ℕ) (cause : Cause) → ¬ IsRun sys (before ++ event.End t (ending.Suspended cause) ∷ behind)

module _ (sys : Behaviour) (digits : ℕ → List ℕ) (deck : CountsEntries sys digits) (script : sys.script ≡ one_failure) (few : sys.terminals ≤ 64) (never : NeverSuspends sys) where
  -- a terminal of a finished run has an ending
  some-ending : (log : List Event) → is_finished sys (after sys log) ≡ true → (t : ℕ) → t < sys.terminals → (e : Ending) × (((after sys log).terms t).ending ≡ Some e)
  some-ending log over t lt = some ((after sys log).terms t).ending refl (any_below-false sys.terminals (is_going_on (after sys log)) (not-true _ over) t lt)
    where
      some : (o : Option Ending) → ((after sys log).terms t).ending ≡ o → is_none ((after sys log).terms t).ending ≡ false → (e : Ending) × (((after sys log).terms t).ending ≡ Some e)
      some (Some e) is there = (e, is)
      some None is there = absurd (true≢false (sym (ap is_none is) ∙ there))

  -- and it has taken all its entries
  all-taken : (log : List Event) → IsRun sys log → (t : ℕ) (e : Ending) → ((after sys log).terms t).ending ≡ Some e → MayHaveEnded (Some e) → e ≡ ending.NoEntries
  all-taken log run t ending.NoEntries ended may = refl
  all-taken log run t ending.Stopped ended may = absurd may
  all-taken log run t (ending.Fault x) ended may = absurd may
  all-taken log run t (ending.Suspended cause) ended may =
      let own = has-end sys log run t (ending.Suspended cause) ended in
      absurd (never own.before own.behind t cause (subst (IsRun sys) own.is run))
  all-taken log run t ending.Lost ended may =
      let own = has-end sys log run t ending.Lost ended in
      absurd (guarded-terminals sys log run (guarded sys script few log run) own.before own.behind t own.is)

  -- so has each terminal at its END entry
  pub end-taken : IsBehaviour sys → (log before behind : List Event) (t : ℕ) (e : Ending) → IsRun sys log → log ≡ before ++ event.End t e ∷ behind
      → ((longer : List Event) → IsRun sys longer → IsSerializable sys longer) → e ≡ ending.NoEntries
  end-taken b log before behind t e run is serial =
      let parts = run-parts sys log before (event.End t e ∷ behind) run is in
      let longer : List Event = before ++ event.End t e ∷ [] in
      let run_longer : IsRun sys longer = IsRunFrom-append sys (starting sys) before (event.End t e ∷ []) parts.0 (parts.1.0, tt) in
      let ended : ((after sys longer).terms t).ending ≡ Some e =
      ap (λ (s : State). (s.terms t).ending) (after-more sys before (event.End t e)) ∙ ends-so sys (after sys before) t e in
      all-taken longer run_longer t e ended (subst MayHaveEnded ended (endings-may sys digits deck longer (serial longer run_longer) t (end-known sys (after sys before) t e parts.1.0.fits (λ u is. (kept sys b before parts.0).known t u is))))

  pub leaves-counts : (log : List Event) → IsRun sys log → IsSerializable sys log → is_finished sys (after sys log) ≡ true → LeavesCounts sys digits log
  leaves-counts log run serial over =
      let endings : (t : ℕ) → t < sys.terminals → ((after sys log).terms t).ending ≡ Some ending.NoEntries =
      λ t lt.
      let some = some-ending log over t lt in
      some.1 ∙ ap (λ (e : Ending). Some e) (all-taken log run t some.0 some.1 (subst MayHaveEnded some.1 (endings-may sys digits deck log serial t lt))) in
      let records = records-counted sys digits deck log serial endings in
      record { endings = endings; committed = records; reported = sym (serial.records 0) ∙ records }

-- ---- a generated deck

key-digits-are : (count x k d : ℕ) → slice_get (key_digits count x) k ≡ Some d → d < 10
key-digits-are zero x k d has = absurd cc
key-digits-are (suc count) x zero d has =
    let same : digit_of (next_number x) ≡ d = cc has in
    let few : digit_of (next_number x) < 10 = omega arith in
    omega (arith, same, few)
key-digits-are (suc count) x (suc k) d has = key-digits-are count (next_number x) k d has

key-digits-counted : (count x : ℕ) → length (key_digits count x) ≡ count
key-digits-counted zero x = refl
key-digits-counted (suc count) x = ap suc (key-digits-counted count (next_number x))

total-is : (n seed : ℕ) → entry_total n (terminal_digits seed) ≡ 8 * n
total-is zero seed = refl
total-is (suc n) seed = omega (arith, total-is n seed, key-digits-counted 8 (number_after (8 * n) seed))

restarts-are : (terminals : List TermInfo) → ((t : ℕ) (terminal : TermInfo) → slice_get terminals t ≡ Some terminal → terminal.max_restarts ≡ 64)
    → (t : ℕ) → t < length terminals → number_by (λ (terminal : TermInfo). terminal.max_restarts) (slice_get terminals t) ≡ 64
restarts-are [] all t lt = absurd (omega (arith, lt))
restarts-are (first ∷ rest) all zero lt = all 0 first refl
restarts-are (first ∷ rest) all (suc t) lt = restarts-are rest (λ k terminal has. all (suc k) terminal has) t (omega (arith, lt))

-- what is asked of laws elsewhere
pub record Laws : Type 0 where
  pub counts : (rule : LockRule) (parts : CountingParts) (digits : ℕ → List ℕ) → HaveEntries parts digits → ((t k d : ℕ) → slice_get (digits t) k ≡ Some d → d < 10)
      → entry_total (length parts.terminals) digits < 10000 → CountsEntries (behaviour rule (counting_deck parts)) digits
  pub serializable : (sys : Behaviour) → IsBehaviour sys → (log : List Event) → IsRun sys log → IsSerializable sys log
  pub suspends : (sys : Behaviour) → IsBehaviour sys → ((t : ℕ) → t < sys.terminals → sys.terminals - 1 + length sys.script ≤ sys.max_restarts t)
      → ((t : ℕ) (path : _) → IsPath sys t path → sys.ask t path ≢ verb.Redo) → NeverSuspends sys

-- 64 restarts are enough
never-suspends : Laws → (sys : Behaviour) → IsBehaviour sys → (digits : ℕ → List ℕ) → CountsEntries sys digits → sys.script ≡ one_failure → sys.terminals ≤ 64
    → ((t : ℕ) → t < sys.terminals → sys.max_restarts t ≡ 64) → NeverSuspends sys
never-suspends laws sys b digits deck script few restarts =
    let one : length sys.script ≡ 1 = ap (λ (lines : List FailLine). length lines) script in
    laws.suspends sys b (λ t lt. omega (arith, restarts t lt, one, few, lt))
    (λ t path is_path. never-redoes sys b t (digits t) (deck.terminals t is_path.known) path is_path)

-- a finished run of a deck that counts its entries, where a failure line is as that of a generated deck
pub finished-counts : Laws → (sys : Behaviour) → IsBehaviour sys → (digits : ℕ → List ℕ) → CountsEntries sys digits → sys.script ≡ one_failure → sys.terminals ≤ 64
    → ((t : ℕ) → t < sys.terminals → sys.max_restarts t ≡ 64) → (log : List Event) → IsRun sys log → is_finished sys (after sys log) ≡ true → LeavesCounts sys digits log
finished-counts laws sys b digits deck script few restarts log run over =
    leaves-counts sys digits deck script few (never-suspends laws sys b digits deck script few restarts) log run (laws.serializable sys b log run) over

-- nor does a terminal of it end otherwise
entry-ends : Laws → (sys : Behaviour) → IsBehaviour sys → (digits : ℕ → List ℕ) → CountsEntries sys digits → sys.script ≡ one_failure → sys.terminals ≤ 64
    → ((t : ℕ) → t < sys.terminals → sys.max_restarts t ≡ 64) → (log : List Event) → IsRun sys log
    → (before behind : List Event) (t : ℕ) (e : Ending) → log ≡ before ++ event.End t e ∷ behind → e ≡ ending.NoEntries
entry-ends laws sys b digits deck script few restarts log run before behind t e is =
    end-taken sys digits deck script few (never-suspends laws sys b digits deck script few restarts) b log before behind t e run is (λ longer run. laws.serializable sys b longer run)

-- a generated deck counts its entries
pub generated-counts : Laws → (seed terminals : ℕ) → terminals ≤ 64 → (deck : ParsedDeck) → IsGenerated seed terminals deck → (rule : LockRule)
    → CountsEntries (behaviour rule (trees_of deck)) (terminal_digits seed)
generated-counts laws seed terminals few deck is rule =
    subst (λ (trees : DeckModel). CountsEntries (behaviour rule trees) (terminal_digits seed)) (sym is.trees)
    (laws.counts rule is.parts (terminal_digits seed) is.entries (λ t. key-digits-are 8 (number_after (8 * t) seed))
    (omega (arith, total-is (length is.parts.terminals) seed, is.count, few)))

-- the tables of a deck of so many terminals
pub record HasTables (terminals : ℕ) (sys : Behaviour) : Type 0 where
  pub script : sys.script ≡ one_failure
  pub count : sys.terminals ≡ terminals
  pub restarts : (t : ℕ) → t < sys.terminals → sys.max_restarts t ≡ 64

generated-tables : (seed terminals : ℕ) (deck : ParsedDeck) → IsGenerated seed terminals deck → (rule : LockRule) → HasTables terminals (behaviour rule (trees_of deck))
generated-tables seed terminals deck is rule =
    subst (λ (trees : DeckModel). HasTables terminals (behaviour rule trees)) (sym is.trees)
    (record { script = is.script; count = is.count; restarts = restarts-are is.parts.terminals is.restarts })

-- and its finished runs leave the counts
pub generated-leaves : Laws → (seed terminals : ℕ) → terminals ≤ 64 → (deck : ParsedDeck) → IsGenerated seed terminals deck → (rule : LockRule) → IsBehaviour (behaviour rule (trees_of deck))
    → (log : List Event) → IsRun (behaviour rule (trees_of deck)) log → is_finished (behaviour rule (trees_of deck)) (after (behaviour rule (trees_of deck)) log) ≡ true
    → LeavesCounts (behaviour rule (trees_of deck)) (terminal_digits seed) log
generated-leaves laws seed terminals few deck is rule b log run over =
    let own : Behaviour = behaviour rule (trees_of deck) in
    let tables : HasTables terminals own = generated-tables seed terminals deck is rule in
    finished-counts laws own b (terminal_digits seed) (generated-counts laws seed terminals few deck is rule) tables.script (omega (arith, tables.count, few)) tables.restarts log run over

-- none of its terminals ends otherwise, in any run
pub generated-ends : Laws → (seed terminals : ℕ) → terminals ≤ 64 → (deck : ParsedDeck) → IsGenerated seed terminals deck → (rule : LockRule) → IsBehaviour (behaviour rule (trees_of deck))
    → (log : List Event) → IsRun (behaviour rule (trees_of deck)) log → (before behind : List Event) (t : ℕ) (e : Ending) → log ≡ before ++ event.End t e ∷ behind → e ≡ ending.NoEntries
generated-ends laws seed terminals few deck is rule b log run =
    let own : Behaviour = behaviour rule (trees_of deck) in
    let tables : HasTables terminals own = generated-tables seed terminals deck is rule in
    entry-ends laws own b (terminal_digits seed) (generated-counts laws seed terminals few deck is rule) tables.script (omega (arith, tables.count, few)) tables.restarts log run

-- what is printed of one file
one-printed : (rule : LockRule) (seed terminals : ℕ) (parts : CountingParts) (files : ℕ → List (List ℕ)) → files 0 ≡ stock_with (asked_for terminals (terminal_digits seed))
    → files_part (system_of rule (counting_deck parts)) files ≡ counted_text seed terminals
one-printed rule seed terminals parts files own = ap (λ (content : List (List ℕ)). line (codes "FILES") ++ (line (codes "FILE STOCK") ++ record_lines content)) own

pub generated-prints : Laws → (seed terminals : ℕ) → terminals ≤ 64 → (deck : ParsedDeck) → IsGenerated seed terminals deck → (rule : LockRule) → IsBehaviour (behaviour rule (trees_of deck))
    → (log : List Event) → IsRun (behaviour rule (trees_of deck)) log → is_finished (behaviour rule (trees_of deck)) (after (behaviour rule (trees_of deck)) log) ≡ true
    → files_text (system_of rule (trees_of deck)) (behaviour rule (trees_of deck)) log ≡ counted_text seed terminals
generated-prints laws seed terminals few deck is rule b log run over =
    let leaves = generated-leaves laws seed terminals few deck is rule b log run over in
    let files : ℕ → List (List ℕ) = (one_copy (behaviour rule (trees_of deck)) (blocks (behaviour rule (trees_of deck)) log)).files in
    let own : files 0 ≡ stock_with (asked_for terminals (terminal_digits seed)) =
    leaves.reported ∙ ap (λ (n : ℕ). stock_with (asked_for n (terminal_digits seed))) (generated-tables seed terminals deck is rule).count in
    ap (λ (trees : DeckModel). files_part (system_of rule trees) files) is.trees ∙ one-printed rule seed terminals is.parts files own
