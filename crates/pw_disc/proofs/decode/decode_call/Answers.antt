-- What is read is the call whose message it is, and no message is refused.
use Rattle.std.proofs.Common.{◌≡◌, Some, None, sym, ◌∙◌, arith}
use Rattle.std.specs.Prelude.{Result, Ok, Err, List, ℕ, IfOk}
use Rattle.pw_image.specs.Values.{AreBytes}
use Rattle.pw_disc.specs.declared.call.DiscCall.{DiscCall}
use Rattle.pw_image.specs.declared.fault.BytesFault.{BytesFault}
use Rattle.pw_image.specs.declared.fault.BytesFault.TheVariants.{Bad, Memory}
use Rattle.pw_disc.specs.Format.{IsMessageOf}
use Rattle.pw_image.specs.Reading.{GivesPart}
use Rattle.pw_disc.specs.Reading.{call_in}
use Rattle.pw_disc.proofs.CallForms.{is_message, read_again}
use Rattle.pw_disc.proofs.decode.decode_call.Goals as goal

found : (bytes : List ℕ) (r : Result DiscCall BytesFault) → AreBytes bytes → GivesPart (λ call. call) r (call_in bytes) → IfOk r (IsMessageOf bytes)
found bytes (Ok call) values e = is_message bytes call values e
found bytes (Err fault) values e = tt

only : (bytes : List ℕ) (r : Result DiscCall BytesFault) → GivesPart (λ call. call) r (call_in bytes)
    → IfOk r (λ own. (call : DiscCall) → IsMessageOf bytes call → call ≡ own)
only bytes (Ok own) e = λ call is. let two : Some call ≡ Some own = sym (read_again bytes call is) ∙ e in cc
only bytes (Err fault) e = tt

refused : (bytes : List ℕ) (r : Result DiscCall BytesFault) → GivesPart (λ call. call) r (call_in bytes) → r ≡ Err Bad → (call : DiscCall) → ¬ IsMessageOf bytes call
refused bytes (Ok own) e bad call is = absurd cc
refused bytes (Err Bad) e bad call is =
    let two : None ≡ Some call = sym e ∙ read_again bytes call is in cc two
refused bytes (Err Memory) e bad call is = absurd cc

pub returns-clause-message : goal.returns-clause-message
returns-clause-message c = found c.args.bytes.now c.read_message.result (λ i. omega (arith, c.type_inv.bytes i)) c.read_message.ensures

pub returns-clause-only : goal.returns-clause-only
returns-clause-only c = only c.args.bytes.now c.read_message.result c.read_message.ensures

pub returns-clause-bad : goal.returns-clause-bad
returns-clause-bad c = refused c.args.bytes.now c.read_message.result c.read_message.ensures
