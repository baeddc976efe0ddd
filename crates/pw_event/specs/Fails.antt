-- The failure lines of a deck, and what it is to read one.
use Rattle.std.specs.Prelude.{◌≡◌, ℕ, ◌≤◌, ◌<◌, List, [], ◌∷◌, map, length, codes, slice_index_or, Result, Ok, Err}
use Rattle.std.specs.Str.{str_to_ascii_uppercase}
use Rattle.pw_code.specs.Limits.{most_processes, most_after}
use Rattle.pw_code.specs.declared.system.System.{System}
use Rattle.pw_event.specs.declared.script.FailLine.{FailLine}
use Rattle.pw_event.specs.declared.script.FailLine.TheVariants.{Tcp, Server}
use Rattle.pw_event.specs.declared.fault.EventFault.{EventFault}
use Rattle.pw_event.specs.declared.fault.EventFault.TheVariants.{Bad, Unknown, Memory}
use Rattle.pw_event.specs.Line.{NamesByNumber, LineWord, Plain, PairName, ClassName, Process, Number, spelling, sentence, member_text, pair_name, class_name, no_class}
use Rattle.pw_event.specs.Reading.{AreFormed}

-- the words of a failure line
abbrev pub fail_words : FailLine → List LineWord
fail_words (Tcp p primary after) = Plain (codes "TCP") ∷ PairName p ∷ Plain (member_text primary) ∷ Plain (codes "AFTER") ∷ Number after ∷ []
fail_words (Server c i after) = Plain (codes "SERVER") ∷ ClassName c ∷ Process c i ∷ Plain (codes "AFTER") ∷ Number after ∷ []

-- the numbers of a failure line are those of the grammar
abbrev pub IsFailInRange : FailLine → Type 0
IsFailInRange (Tcp p primary after) = after ≤ most_after
IsFailInRange (Server c i after) = (1 ≤ i) × (i ≤ most_processes) × (after ≤ most_after)

-- A line of the grammar: under some names it is the spelling of some failure line.
pub record IsFailLine (line : List ℕ) : Type 0 where
  pub names : NamesByNumber
  pub fail : FailLine
  pub formed : AreFormed names
  pub numbers : IsFailInRange fail
  pub spelled : line ≡ sentence (map (spelling names) (fail_words fail))

-- what a failure line names is the system's
abbrev pub IsFailThere : System → FailLine → Type 0
IsFailThere system (Tcp p primary after) = p < length system.tcps
IsFailThere system (Server c i after) = (c < length system.classes) × (i ≤ (slice_index_or system.classes c no_class).processes)

-- the name that a failure line has is the system's, in either case
abbrev pub IsNameOf : System → NamesByNumber → FailLine → Type 0
IsNameOf system names (Tcp p primary after) = str_to_ascii_uppercase (names.pair p) ≡ pair_name system p
IsNameOf system names (Server c i after) = str_to_ascii_uppercase (names.class c) ≡ class_name system c

-- The line is a spelling of this failure line of the system, whose name may stand in either case.
pub record IsFailLineOf (system : System) (line : List ℕ) (fail : FailLine) : Type 0 where
  pub there : IsFailThere system fail
  pub numbers : IsFailInRange fail
  pub names : NamesByNumber
  pub same : IsNameOf system names fail
  pub spelled : line ≡ sentence (map (spelling names) (fail_words fail))

-- What reading a failure line answers: that of the system which it spells; Bad where it is no line of the grammar;
-- Unknown where it is one that spells no failure line of the system.
abbrev pub ReadsFail : System → List ℕ → Result FailLine EventFault → Type 0
ReadsFail system line (Ok fail) = IsFailLineOf system line fail
ReadsFail system line (Err Bad) = ¬ (IsFailLine line)
ReadsFail system line (Err Unknown) = IsFailLine line × ((fail : FailLine) → ¬ (IsFailLineOf system line fail))
ReadsFail system line (Err Memory) = Unit {0}
