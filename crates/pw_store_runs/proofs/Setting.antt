-- The system with the records of a store may be run.
use Rattle.std.proofs.Common.{◌≡◌, ℕ, List, All, sym, subst}
use Rattle.std.proofs.lemmas.List.Elements.{All-weaker}
use Rattle.pw_code.specs.Valid.{IsValid}
use Rattle.pw_code.specs.declared.system.System.{System}
use Rattle.pw_code_meaning.specs.OfSystem.{behaviour}
use Rattle.pw_compiled_deck.specs.Named.{IsFailNamed}
use Rattle.pw_event.specs.declared.script.FailLine.{FailLine}
use Rattle.pw_event.specs.declared.script.FailLine.TheVariants.{Tcp, Server}
use Rattle.pw_onecopy.specs.IsBehaviour.{IsBehaviour}
use Rattle.pw_records.specs.Records.{AreRecordsOf, over_records, with_records}

-- what the laws of records say
abbrev pub KeepsValid : Type 0
KeepsValid = (system : System) (records : ℕ → List (List ℕ)) → IsValid system → AreRecordsOf system records
    → IsValid (with_records system records)

abbrev pub IsSameOver : Type 0
IsSameOver = (script : List FailLine) (system : System) (records : ℕ → List (List ℕ)) → AreRecordsOf system records
    → behaviour script (with_records system records) ≡ over_records (behaviour script system) records

abbrev pub BehavesOver : Type 0
BehavesOver = (script : List FailLine) (system : System) (records : ℕ → List (List ℕ)) → AreRecordsOf system records
    → IsBehaviour (behaviour script system) → IsBehaviour (over_records (behaviour script system) records)

named-on : (system : System) (records : ℕ → List (List ℕ)) (line : FailLine) → IsFailNamed system line → IsFailNamed (with_records system records) line
named-on system records (Tcp p primary after) h = h
named-on system records (Server c i after) h = h

pub lines-on : (system : System) (records : ℕ → List (List ℕ)) (lines : List FailLine) → All (IsFailNamed system) lines
    → All (IsFailNamed (with_records system records)) lines
lines-on system records lines all =
    All-weaker (IsFailNamed system) (IsFailNamed (with_records system records)) (named-on system records) lines all

pub behaves-on : IsSameOver → BehavesOver → (script : List FailLine) (system : System) (records : ℕ → List (List ℕ))
    → AreRecordsOf system records → IsBehaviour (behaviour script system) → IsBehaviour (behaviour script (with_records system records))
behaves-on same over script system records are behaves =
    subst IsBehaviour (sym (same script system records are)) (over script system records are behaves)
