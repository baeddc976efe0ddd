-- The first fault: the codes are looked for in their order, and each by line.
use Rattle.std.specs.Prelude.{◌≡◌, false, ℕ, List, [], ◌∷◌, map, Bool, ◌&&◌, ◌||◌, nat_lt, ◌==◌, Option, Some, None, if◌then◌else◌}
use Rattle.pw_base.specs.declared.fault.Fault.{Fault}
use Rattle.pw_base.specs.declared.fault_code.FaultCode.{FaultCode}
use Rattle.pw_base.specs.declared.fault_code.FaultCode.TheVariants.{UnknownParagraph, UnknownName, UnknownItem, WrongLength, WrongKind}

-- the turn in which a code is looked for
abbrev pub turn_of : FaultCode → ℕ
turn_of UnknownParagraph = 0
turn_of UnknownName = 1
turn_of UnknownItem = 2
turn_of WrongLength = 3
turn_of WrongKind = 4
turn_of _ = 5

-- a has an earlier turn than b, or the same turn and an earlier line
abbrev pub comes_before : Fault → Fault → Bool
comes_before a b =
    nat_lt (turn_of a.code) (turn_of b.code)
    || (turn_of a.code == turn_of b.code && nat_lt a.line b.line)

-- the first of a fault and of the one that is known, if any
abbrev pub earlier : Option Fault → Fault → Option Fault
earlier None fault = Some fault
earlier (Some known) fault = if comes_before fault known then Some fault else Some known

-- the first of the faults and of the one that is known, if any
abbrev pub first : Option Fault → List Fault → Option Fault
first known [] = known
first known (fault ∷ faults) = first (earlier known fault) faults

-- no fault of the list comes before this one
abbrev pub NoneComesBefore : Fault → List Fault → Type 0
NoneComesBefore fault [] = Unit {0}
NoneComesBefore fault (x ∷ xs) = (comes_before x fault ≡ false) × NoneComesBefore fault xs

-- the faults of these codes at a line
abbrev pub at_line : ℕ → List FaultCode → List Fault
at_line line codes = map (λ code. record { line = line; code = code }) codes

-- the first of a fault that is known and of those of these codes at a line
abbrev pub noted : Option Fault → ℕ → List FaultCode → Option Fault
noted known line codes = first known (at_line line codes)
