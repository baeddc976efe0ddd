-- What is read is the image, and no image is refused.
use Rattle.std.proofs.Common.{◌≡◌, Some, None, sym, ap, ◌∙◌, arith}
use Rattle.std.specs.Prelude.{Result, Ok, Err, List, ℕ, IfOk, Option}
use Rattle.pw_code.specs.declared.context.Context.{Context}
use Rattle.pw_image.specs.Format.{IsImageOf}
use Rattle.pw_image.specs.Reading.{context_in}
use Rattle.pw_image.specs.Values.{AreBytes}
use Rattle.pw_image.specs.declared.fault.BytesFault.{BytesFault}
use Rattle.pw_image.proofs.ImageForms.{is-image, read-again}
use Rattle.pw_image.proofs.decode.decode.Goals as goal

found : (bytes : List ℕ) (r : Result Context BytesFault) → AreBytes bytes → IfOk r (λ context. context_in bytes ≡ Some context) → IfOk r (IsImageOf bytes)
found bytes (Ok context) fits e = is-image bytes context fits e
found bytes (Err fault) fits e = tt

refused : (bytes : List ℕ) (context : Context) → context_in bytes ≡ None → ¬ IsImageOf bytes context
refused bytes context e h =
    let again : context_in bytes ≡ Some context = ap context_in h.is ∙ read-again context h.has_image h.has_values in
    let e2 : None ≡ Some context = sym e ∙ again in
    cc e2

pub returns-clause-image : goal.returns-clause-image
returns-clause-image c = found c.args.bytes.now c.read_image.result (λ i. omega (arith, c.type_inv.bytes i)) c.read_image.ensures.context

pub returns-clause-bad : goal.returns-clause-bad
returns-clause-bad c = λ bad context. refused c.args.bytes.now context (c.read_image.ensures.bad bad)
