-- The first fault, by line and then by code.
use Rattle.std.specs.Prelude.{◌≡◌, ◌⊎◌, List, [], ◌∷◌, Bool, false, ◌&&◌, ◌||◌, nat_lt, ◌==◌, Option, Some, None, Result, Ok, Err, if◌then◌else◌}
use Rattle.pw_base.specs.declared.fault.Fault.{Fault}
use Rattle.pw_base.specs.FaultCodes.{number}
use Rattle.pw_base.specs.declared.fault.Refusal.{Refusal}
use Rattle.pw_base.specs.declared.fault.Refusal.TheVariants.{At, Memory}

-- a stands on an earlier line than b, or on the same line with a code of a smaller number
abbrev pub is_before : Fault → Fault → Bool
is_before a b = nat_lt a.line b.line || (a.line == b.line && nat_lt (number a.code) (number b.code))

-- the first of a fault and of the one that is known, if any
abbrev pub better : Option Fault → Fault → Option Fault
better None fault = Some fault
better (Some known) fault = if is_before fault known then Some fault else Some known

-- the one that is known, and a fault where there is one
abbrev pub fault_noted : Option Fault → Bool → Fault → Option Fault
fault_noted known is_fault fault = if is_fault then better known fault else known

-- the first of the faults and of the one that is known, if any
abbrev pub least : Option Fault → List Fault → Option Fault
least known [] = known
least known (fault ∷ faults) = least (better known fault) faults

-- the fault is one of the list
abbrev pub IsAmong : Fault → List Fault → Type 0
IsAmong fault [] = ⊥
IsAmong fault (x ∷ xs) = (fault ≡ x) ⊎ IsAmong fault xs

-- no fault of the list is before this one
abbrev pub NoneBefore : Fault → List Fault → Type 0
NoneBefore fault [] = Unit {0}
NoneBefore fault (x ∷ xs) = (is_before x fault ≡ false) × NoneBefore fault xs

-- the value, unless there is a fault
abbrev pub unless : {A : Type 0} → Option Fault → A → Result A Fault
unless None value = Ok value
unless (Some fault) value = Err fault

-- the refusal of a text for a fault
abbrev pub refusal_of : Fault → Refusal
refusal_of fault = At fault.line fault.code

-- a refusal is the fault that is defined, unless memory ran out
abbrev pub Refuses : {Y : Type 0} → Refusal → Result Y Fault → Type 0
Refuses Memory defined = Unit {0}
Refuses (At line code) defined = defined ≡ Err (record { line = line; code = code })

-- an outcome, seen by view, is what is defined, unless memory ran out
abbrev pub Gives : {X Y : Type 0} → (X → Y) → Result X Refusal → Result Y Fault → Type 0
Gives view (Ok x) defined = defined ≡ Ok (view x)
Gives view (Err refusal) defined = Refuses refusal defined
