-- An input that is longer than the longest.
use Rattle.std.proofs.Common.{◌≡◌, ℕ, ◌<◌, List, length, Option, None, Some, true, refl, arith, ap, length-append}
use Rattle.std.specs.Prelude.{nat_lt}
use Rattle.std.specs.Io.KnownBytes.{Consumes}
use Rattle.std.proofs.lemmas.Bool.Decides.{nat_tests}
use Rattle.pw_base.specs.Limits.{longest_input}
use Rattle.pw_input_output.specs.Inputs.{IsInput, input_of}

-- bytes that are more than the longest input has are no input
no-input : (bytes : List ℕ) → longest_input < length bytes → None ≡ input_of bytes
no-input bytes long =
    let test : nat_lt longest_input (length bytes) ≡ true = grind (arith, nat_tests) in
    rw test refl

-- more bytes were taken than the longest input has, so that more were left
pub too-long : (left now : Option (List ℕ)) (taken : List ℕ) → Consumes left now taken → longest_input < length taken
    → IsInput left None
too-long None now taken gone long = record { bytes = taken; read = tt; is = no-input taken long }
too-long (Some had) None taken gone long = absurd gone
too-long (Some had) (Some rest) taken gone long =
    record { bytes = had; read = refl; is = no-input had (omega (arith, ap length gone, length-append taken rest)) }
