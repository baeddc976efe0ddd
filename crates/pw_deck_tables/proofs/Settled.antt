-- What was read, or its fault.
use Rattle.std.proofs.Common.{◌≡◌, Result, Ok, Err, IfOk, sym, subst}
use Rattle.pw_base.specs.declared.fault.Fault.{Fault}
use Rattle.pw_base.specs.declared.fault.Refusal.{Refusal}
use Rattle.pw_base.specs.declared.memory.Memory.{Memory}
use Rattle.pw_base.specs.First.{Gives}
use Rattle.pw_deck_tables.specs.Unknown.{refusing}

is_defined : {A : Type 0} (settled defined : Result A Fault) → Gives (λ (a : A). a) (refusing settled) defined → settled ≡ defined
is_defined (Ok a) defined gives = sym gives
is_defined (Err fault) defined gives = sym gives

-- it is what is defined
pub settled_is : {A : Type 0} (read : Result A Refusal) (defined : Result A Fault) (outcome : Result (Result A Fault) Memory) → IfOk outcome (λ settled. read ≡ refusing settled)
    → Gives (λ (a : A). a) read defined → IfOk outcome (λ settled. settled ≡ defined)
settled_is {A} read defined (Ok settled) is gives =
    let P : Result A Refusal → Type 0 = λ r. Gives (λ (a : A). a) r defined in
    is_defined settled defined (subst P is gives)
settled_is read defined (Err memory) is gives = tt
