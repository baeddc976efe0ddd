-- The instruction at which a program stands, once it was read.
use Rattle.std.proofs.Common.{◌≡◌, Option, Some, None, Bor, sym}
use Rattle.std.specs.Prelude.{IfSome, slice_get}
use Rattle.std.specs.Option.{option_copied}
use Rattle.pw_code.specs.Valid.{IsValid}
use Rattle.pw_code.specs.declared.context.Frame.{Frame}
use Rattle.pw_code.specs.declared.instr.Instr.{Instr}
use Rattle.pw_code.specs.declared.system.System.{System}
use Rattle.pw_code_meaning.specs.Config.{code_at}
use Rattle.pw_code_meaning.specs.Sound.{IsFrame}
use Rattle.pw_machine.specs.Stack.{CanDoInstr}
use Rattle.pw_machine.proofs.RangeLemmas.{can_do}

pub found_at : (found : Option (Bor Instr)) (there : Option Instr) → option_copied found ≡ there → IfSome found (λ instr. there ≡ Some instr.now)
found_at None there e = tt
found_at (Some instr) there e = sym e

pub found_can : (system : System) (frame : Frame) (found : Option (Bor Instr)) → IsValid system → IsFrame system frame
    → option_copied found ≡ slice_get (code_at system frame.program).instrs frame.at → IfSome found (λ instr. CanDoInstr system frame instr.now)
found_can system frame None valid is e = tt
found_can system frame (Some instr) valid is e = can_do system frame instr.now valid is (sym e)
