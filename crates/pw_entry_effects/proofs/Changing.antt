-- Calls that change what is kept, said in other words.
use Rattle.std.proofs.Common.{◌≡◌, ℕ, List, ◌∙◌, refl, sym, ap, subst}
use Rattle.pw_code.specs.declared.system.System.{System}
use Rattle.pw_event.specs.declared.event.Event.{Event}
use Rattle.pw_world_store.specs.Keeps.{IsChanged, IsRefused, KeepState, kept_in}
use Rattle.pw_world_state.specs.Entered.{entered}
use Rattle.pw_world_state.specs.Kept.{Kept}
use Rattle.pw_tmf.specs.Told.{Told}
use Rattle.pw_tmf.specs.declared.answer.DiscFault.TheVariants as fault

-- two changes that do the same to what was kept
pub changed-alike : {D : Type 0} (told : D → Told) (f g : Kept → Kept) (old new : KeepState D)
    → f (kept_in told old) ≡ g (kept_in told old) → IsChanged told f old new → IsChanged told g old new
changed-alike told f g old new same is = record { system = is.system; kept = is.kept ∙ same }

-- a want of memory that leaves all
pub refused-same : {D : Type 0} (told : D → Told) (old new : KeepState D) → new ≡ old → IsRefused told fault.Memory old new
refused-same {D} told old new e =
    subst (λ (k : KeepState D). IsRefused told fault.Memory old k) (sym e)
    (record { system = refl; leaves = refl; rest = refl })

-- an entry that was done as one of its kind
pub acted : {D : Type 0} (told : D → Told) (change : Kept → Kept) (system : System) (members : ℕ → List ℕ) (entry shown : Event)
    (old new : KeepState D) → entry ≡ shown
    → change (kept_in told old) ≡ entered system members shown (kept_in told old)
    → IsChanged told change old new → IsChanged told (entered system members entry) old new
acted told change system members entry shown old new is same done =
    changed-alike told change (entered system members entry) old new
    (same ∙ ap (λ (e : Event). entered system members e (kept_in told old)) (sym is)) done
