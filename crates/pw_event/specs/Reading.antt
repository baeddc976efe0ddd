-- What it is to read a line of the log.
use Rattle.std.specs.Prelude.{◌≡◌, ℕ, List, map, true, Result, Ok, Err}
use Rattle.std.specs.List.{AllByRecursion}
use Rattle.pw_code.specs.Valid.{HasNames, HasFew}
use Rattle.pw_code.specs.declared.lock.LockRule.{LockRule}
use Rattle.pw_code.specs.declared.system.System.{System}
use Rattle.pw_event.specs.declared.event.Event.{Event}
use Rattle.pw_event.specs.declared.fault.EventFault.{EventFault}
use Rattle.pw_event.specs.declared.fault.EventFault.TheVariants.{Bad, Unknown, Memory}
use Rattle.pw_code.specs.Names.{may_name}
use Rattle.pw_event.specs.Line.{NamesByNumber, spelling, sentence, event_words, event_text, HasLine, IsInRange, IsNamed}

-- the names may stand in a line
pub record AreFormed (names : NamesByNumber) : Type 0 where
  pub terminal : (t : ℕ) → may_name (names.terminal t) ≡ true
  pub pair : (p : ℕ) → may_name (names.pair p) ≡ true
  pub class : (c : ℕ) → may_name (names.class c) ≡ true
  pub file : (f : ℕ) → may_name (names.file f) ≡ true

-- A line of the grammar: under some names it is the spelling of some entry.
pub record IsLine (rule : LockRule) (line : List ℕ) : Type 0 where
  pub names : NamesByNumber
  pub event : Event
  pub formed : AreFormed names
  pub told : HasLine rule event
  pub numbers : AllByRecursion IsInRange (event_words rule event)
  pub spelled : line ≡ sentence (map (spelling names) (event_words rule event))

-- The line is the spelling of this entry of the system.
pub record IsLineOf (system : System) (line : List ℕ) (event : Event) : Type 0 where
  pub named : IsNamed system event
  pub numbers : AllByRecursion IsInRange (event_words system.rule event)
  pub spelled : line ≡ event_text system event

-- What reading a line answers: the entry of the system that it spells; Bad where it is no line of the grammar; Unknown
-- where it is one that spells no entry of the system.
abbrev pub ReadsEventLine : System → List ℕ → Result Event EventFault → Type 0
ReadsEventLine system line (Ok event) = IsLineOf system line event
ReadsEventLine system line (Err Bad) = ¬ (IsLine system.rule line)
ReadsEventLine system line (Err Unknown) = IsLine system.rule line × ((event : Event) → ¬ (IsLineOf system line event))
ReadsEventLine system line (Err Memory) = Unit {0}

-- These are the names of the terminals, pairs, classes and files of the system, in their orders; and names are names.
pub record AreNamesOf (system : System) (terminals pairs classes files : List (List ℕ)) : Type 0 where
  pub names : HasNames system
  pub few : HasFew system
  pub terminals_are : terminals ≡ map (λ terminal. terminal.name) system.terminals
  pub pairs_are : pairs ≡ system.tcps
  pub classes_are : classes ≡ map (λ class. class.name) system.classes
  pub files_are : files ≡ map (λ file. file.name) system.files
