-- One step of reading after the other.
use Rattle.std.proofs.Common.{Result, Ok, Err}
use Rattle.pw_event.specs.declared.fault.EventFault.{EventFault}
use Rattle.pw_event.specs.declared.fault.EventFault.TheVariants.{Bad, Unknown, Memory}
use Rattle.pw_event.specs.Parsing.{◌>>=◌}

-- what holds of a value that is read, and of an unknown one
abbrev pub Outcome : {A : Type 0} → (A → Type 0) → Type 0 → Result A EventFault → Type 0
Outcome P U (Ok value) = P value
Outcome P U (Err Unknown) = U
Outcome P U (Err Bad) = Unit {0}
Outcome P U (Err Memory) = Unit {0}

-- the next step
pub and_then : {A B : Type 0} (P : A → Type 0) (Q : B → Type 0) (U : Type 0) (r : Result A EventFault) (next : A → Result B EventFault)
    → Outcome P U r → ((value : A) → P value → Outcome Q U (next value)) → Outcome Q U (r >>= next)
and_then P Q U (Ok value) next is further = further value is
and_then P Q U (Err Unknown) next is further = is
and_then P Q U (Err Bad) next is further = tt
and_then P Q U (Err Memory) next is further = tt

-- what follows of what holds
pub weaker : {A : Type 0} (P Q : A → Type 0) (U : Type 0) (r : Result A EventFault) → ((value : A) → P value → Q value) → Outcome P U r → Outcome Q U r
weaker P Q U (Ok value) follows is = follows value is
weaker P Q U (Err Bad) follows is = tt
weaker P Q U (Err Unknown) follows is = is
weaker P Q U (Err Memory) follows is = tt

-- no fault of the grammar
abbrev pub InGrammar : {A : Type 0} → Result A EventFault → Type 0
InGrammar (Ok value) = Unit {0}
InGrammar (Err Unknown) = Unit {0}
InGrammar (Err Bad) = ⊥
InGrammar (Err Memory) = Unit {0}

-- the next step
pub in_grammar : {A B : Type 0} (r : Result A EventFault) (next : A → Result B EventFault) → InGrammar r → ((value : A) → InGrammar (next value)) → InGrammar (r >>= next)
in_grammar (Ok value) next is further = further value
in_grammar (Err Unknown) next is further = tt
in_grammar (Err Bad) next is further = is
in_grammar (Err Memory) next is further = tt
