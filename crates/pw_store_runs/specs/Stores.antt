-- What the run of a deck over a store comes to.
use Rattle.std.specs.Prelude.{◌≡◌, ℕ, List, All, Ok, Err}
use Rattle.pw_base.specs.Outside.{Rose}
use Rattle.pw_base.specs.declared.fault.Fault.{Fault}
use Rattle.pw_base.specs.declared.fault.Refusal.{Refusal}
use Rattle.pw_base.specs.declared.fault.Refusal.TheVariants.{At}
use Rattle.pw_base.specs.declared.fault.Refusal.TheVariants as refusal
use Rattle.pw_code.specs.Valid.{IsDeckFile}
use Rattle.pw_code.specs.declared.file.FileInfo.{FileInfo}
use Rattle.pw_code.specs.declared.lock.LockRule.TheVariants.{ReadersShare}
use Rattle.pw_code.specs.declared.system.System.{System}
use Rattle.pw_deck.specs.Deck.{deck_of}
use Rattle.pw_deck.specs.declared.deck.ParsedDeck.{ParsedDeck}
use Rattle.pw_deck_runs.specs.Meaning.{meaning, named}
use Rattle.pw_event.specs.declared.event.Event.{Event}
use Rattle.pw_group_commit.specs.declared.follower.UnitName.{UnitName}
use Rattle.pw_laws.specs.serial.Promises.{KeepsPromises}
use Rattle.pw_onecopy.specs.Behaviour.{Behaviour}
use Rattle.pw_read_back.specs.ReadFrom.{IsReadFrom}
use Rattle.pw_records.specs.Records.{AreAlike, over_records, with_records}
use Rattle.pw_report_text.specs.Meaning.{report_text}
use Rattle.pw_store_runs.specs.Left.{HasCommitted, HasSettled}
use Rattle.pw_store_runs.specs.declared.ending.StoreFault.{StoreFault}
use Rattle.pw_store_runs.specs.declared.ending.StoreFault.TheVariants as fault
use Rattle.pw_store_runs.specs.declared.ending.Stored.{Stored}
use Rattle.pw_store_runs.specs.declared.ending.Stored.TheVariants.{Ended, Failed}
use Rattle.pw_trail.specs.Files.{files_after}
use Rattle.pw_trail.specs.Format.{units_in}
use Rattle.pw_trail.specs.declared.changes.UnitChanges.{UnitChanges}
use Rattle.pw_workers.specs.Endings.{EndsAs}
use Rattle.pw_workers.specs.declared.ending.LogEnding.{LogEnding}

-- what the terminals of a deck ask and show and its servers do, over these records
abbrev pub meaning_over : ParsedDeck → (ℕ → List (List ℕ)) → Behaviour
meaning_over deck records = over_records (meaning ReadersShare deck) records

-- its system with these records
abbrev pub named_over : ParsedDeck → (ℕ → List (List ℕ)) → System
named_over deck records = with_records (named ReadersShare deck) records

-- The log keeps what is promised of logs of the deck over these records; the text is its report; and it is the log that is
-- read back from the text.
pub record PrintsOver (deck : ParsedDeck) (records : ℕ → List (List ℕ)) (log : List Event) (text : List ℕ) : Type 0 where
  pub promises : KeepsPromises (meaning_over deck records) log
  pub is : text ≡ report_text (named_over deck records) (meaning_over deck records) log
  pub read : IsReadFrom (named_over deck records) text log

-- a store: the deck with which it began, and the units of its trail, whose files are that deck's
pub record IsStore (first trail : List ℕ) (base : ParsedDeck) (units : List UnitChanges) : Type 0 where
  pub began : deck_of first ≡ Ok base
  pub has : units_in base.told.system.files trail ≡ Ok units

-- The deck has run over the records of the store, and has ended so with this report; and the store has its commits.
pub record ReportsOver (files : List FileInfo) (units : List UnitChanges) (deck : ParsedDeck) (events : ℕ) (ended : LogEnding)
    (text : List ℕ) (images : List ℕ → Type 0) (told : List UnitName → Type 0) : Type 0 where
  pub log : List Event
  pub prints : PrintsOver deck (files_after files units) log text
  pub ends : EndsAs ended events (meaning_over deck (files_after files units)) log
  pub left : HasCommitted files units (meaning_over deck (files_after files units)) log images told

-- the disk has failed in such a run, as its count of faults tells, and the store has those of its commits that are settled
pub record StopsInStore (files : List FileInfo) (units : List UnitChanges) (deck : ParsedDeck) (images : List ℕ → Type 0)
    (told : List UnitName → Type 0) (least faults : ℕ) : Type 0 where
  pub log : List Event
  pub promises : KeepsPromises (meaning_over deck (files_after files units)) log
  pub left : HasSettled files units (meaning_over deck (files_after files units)) log images told
  pub rose : Rose least faults

-- one or the other
abbrev pub EndsInStore : {S F : Type 0} → (S → List ℕ → Type 0) → (S → ℕ) → (F → List UnitName → Type 0) → List FileInfo
    → List UnitChanges → ℕ → ParsedDeck → ℕ → Stored S F → Type 0
EndsInStore images faulted was_told files units least deck events (Ended ended text disk follower) =
    ReportsOver files units deck events ended text (images disk) (was_told follower)
EndsInStore images faulted was_told files units least deck events (Failed disk follower) =
    StopsInStore files units deck (images disk) (was_told follower) least (faulted disk)

-- The bytes are a deck whose files have the names and keys of the store's; it has run over the store's records, which are
-- those of the first deck after the changes of the units.
pub record StoreRuns {S F : Type 0} (images : S → List ℕ → Type 0) (faulted : S → ℕ) (was_told : F → List UnitName → Type 0)
    (first trail : List ℕ) (least : ℕ) (bytes : List ℕ) (events : ℕ) (stored : Stored S F) : Type 0 where
  pub base : ParsedDeck
  pub units : List UnitChanges
  pub store : IsStore first trail base units
  pub deck : ParsedDeck
  pub says : deck_of bytes ≡ Ok deck
  pub alike : AreAlike base.told.system.files deck.told.system.files
  pub ends : EndsInStore images faulted was_told base.told.system.files units least deck events stored

-- ---- refusals

-- the files are those of the deck of the bytes, which may be a system's
pub record AreFilesOf (bytes : List ℕ) (files : List FileInfo) : Type 0 where
  pub deck : ParsedDeck
  pub says : deck_of bytes ≡ Ok deck
  pub are : files ≡ deck.told.system.files
  pub each : All IsDeckFile files

-- the fault where the deck is refused, and where the store's first deck is
abbrev pub deck_refused : {S : Type 0} → Refusal → StoreFault S
deck_refused (At line code) = fault.Refused (record { line = line; code = code })
deck_refused refusal.Memory = fault.Memory

abbrev pub first_refused : {S : Type 0} → Refusal → StoreFault S
first_refused (At line code) = fault.NoStore
first_refused refusal.Memory = fault.Memory

-- the deck has this first fault, or the store's first deck has one; their files differ; the trail is damaged at a
-- place; or the disk's count of faults rose
abbrev pub RefusesStore : {S : Type 0} → (S → ℕ) → List ℕ → List ℕ → ℕ → List ℕ → StoreFault S → Type 0
RefusesStore faulted first trail least bytes (fault.Refused own) = deck_of bytes ≡ Err own
RefusesStore faulted first trail least bytes fault.NoStore = (own : Fault) × (deck_of first ≡ Err own)
RefusesStore faulted first trail least bytes fault.OtherFiles =
    (base : ParsedDeck) × (deck : ParsedDeck) × (deck_of first ≡ Ok base) × (deck_of bytes ≡ Ok deck)
    × (AreAlike base.told.system.files deck.told.system.files → ⊥)
RefusesStore faulted first trail least bytes (fault.Damaged at) =
    (base : ParsedDeck) × (deck_of first ≡ Ok base) × (units_in base.told.system.files trail ≡ Err at)
RefusesStore faulted first trail least bytes (fault.Failed disk) = Rose least (faulted disk)
RefusesStore faulted first trail least bytes fault.Memory = Unit {0}
