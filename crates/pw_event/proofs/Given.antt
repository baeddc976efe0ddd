-- Answers that are what is defined.
use Rattle.std.proofs.Common.{◌≡◌, Result, Ok, Err, sym, subst}
use Rattle.pw_event.specs.declared.fault.EventFault.{EventFault}
use Rattle.pw_event.specs.declared.fault.EventFault.TheVariants.{Bad, Unknown, Memory}
use Rattle.pw_event.specs.Parsing.{GivesUnlessMemory}

-- an answer that is what is defined gives it
pub given : {A : Type 0} (answer defined : Result A EventFault) → answer ≡ defined → GivesUnlessMemory answer defined
given (Ok value) defined is = sym is
given (Err Bad) defined is = sym is
given (Err Unknown) defined is = sym is
given (Err Memory) defined is = tt

-- what is given by one spelling is given by the other
pub given_by : {A : Type 0} (answer one other : Result A EventFault) → one ≡ other → GivesUnlessMemory answer one → GivesUnlessMemory answer other
given_by {A} answer one other same gives = let P : Result A EventFault → Type 0 = λ r. GivesUnlessMemory answer r in subst P same gives
