-- Steps of a reading.
use Rattle.std.proofs.Common.{◌≡◌, Bool, true, false, List, ◌++◌, Option, Result, refl, ap, ◌∙◌}
use Rattle.pw_base.specs.declared.fault.Fault.{Fault}
use Rattle.pw_base.specs.declared.fault.Refusal.{Refusal}
use Rattle.pw_base.specs.declared.fault.Refusal.TheVariants.{At, Memory}
use Rattle.pw_base.specs.First.{Refuses, least, fault_noted}
use Rattle.pw_base.proofs.FirstFault.{least-append}
use Rattle.pw_sections.specs.Steps.{◌>>=◌, only_if}

-- where a step is refused, all that it begins is
pub refuses_on : {A B : Type 0} (refusal : Refusal) (step : Result A Fault) (next : A → Result B Fault) → Refuses refusal step → Refuses refusal (step >>= next)
refuses_on Memory step next h = tt
refuses_on (At line code) step next h = ap (λ s. s >>= next) h

least-only_if : (is_fault : Bool) (fault : Fault) (known : Option Fault) → least known (only_if is_fault fault) ≡ fault_noted known is_fault fault
least-only_if true fault known = refl
least-only_if false fault known = refl

-- one more that may be a fault is noted
pub noted_more : (known : Option Fault) (is_fault : Bool) (fault : Fault) (more : List Fault)
    → least known (only_if is_fault fault ++ more) ≡ least (fault_noted known is_fault fault) more
noted_more known is_fault fault more = least-append known (only_if is_fault fault) more ∙ ap (λ k. least k more) (least-only_if is_fault fault known)
