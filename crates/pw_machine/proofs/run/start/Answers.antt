-- The storage of the program is that of its code.
use Rattle.std.proofs.Common.{◌≤◌, ℕ, length, ap, arith}
use Rattle.pw_code.specs.declared.code.Code.{Code}
use Rattle.pw_code_meaning.specs.Config.{code_at}
use Rattle.pw_machine.proofs.CodeLemmas.{program_read}
use Rattle.pw_machine.proofs.TopLemmas.{fresh_sound}
use Rattle.pw_machine.proofs.run.start.Goals as goal

pub returns-clause-sound : goal.returns-clause-sound
returns-clause-sound c =
    let code = program_read c.args.system.now c.as_slice.result.now c.args.program c.index-as_slice-program.result c.as_slice.ensures c.index-as_slice-program.is c.requires.known in
    let storage : length (code_at c.args.system.now c.args.program).storage ≤ length c.in_ok-copy.field-0 =
    omega (arith, ap (λ (x : Code). length x.storage) code, ap (length {A = ℕ}) c.in_ok-copy.ensures) in
    fresh_sound c.args.system.now c.args.program c.in_ok-copy.field-0 c.fresh.result (record { known = omega (arith, c.requires.known); storage = storage }) c.fresh.ensures
