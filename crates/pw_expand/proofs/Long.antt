-- An input over the limit.
use Rattle.std.proofs.Common.{◌≡◌, ℕ, ◌<◌, List, length, Option, None, Some, true, refl, sym, ap, ◌∙◌, arith, length-append}
use Rattle.std.specs.Prelude.{nat_lt}
use Rattle.std.specs.Io.KnownBytes.{Consumes}
use Rattle.std.proofs.lemmas.Bool.Decides.{nat_tests}
use Rattle.pw_base.specs.Limits.{longest_input}
use Rattle.pw_expand.specs.Answers.{IsAnswered}
use Rattle.pw_expand.specs.Printed.{schedule_answered, expanded, fault_line}
use Rattle.pw_expand.specs.declared.expand.ScheduleEnding.TheVariants.{Refused}

long-answer : (bytes : List ℕ) → longest_input < length bytes → schedule_answered (expanded bytes) ≡ (Refused, fault_line 0)
long-answer bytes long =
    let test : nat_lt longest_input (length bytes) ≡ true = grind (arith, nat_tests) in
    rw test refl

-- more bytes were taken than the longest input has, so that more were left
pub too-long : (left now : Option (List ℕ)) (taken text : List ℕ) → Consumes left now taken → longest_input < length taken → text ≡ fault_line 0 → IsAnswered left Refused text
too-long None now taken text gone long is =
    record { bytes = taken; read = tt; is = ap (λ t. (Refused, t)) is ∙ sym (long-answer taken long) }
too-long (Some had) None taken text gone long is = absurd gone
too-long (Some had) (Some rest) taken text gone long is =
    let longer : longest_input < length had = omega (arith, ap length gone, length-append taken rest) in
    record { bytes = had; read = refl; is = ap (λ t. (Refused, t)) is ∙ sym (long-answer had longer) }
