-- The storage of the server is that of its code, with the message behind it.
use Rattle.std.proofs.Common.{◌≡◌, ◌+◌, ◌≤◌, ℕ, length, length-append, ap, ◌∙◌, arith}
use Rattle.pw_code.specs.declared.code.Code.{Code}
use Rattle.pw_code_meaning.specs.Config.{code_at}
use Rattle.pw_machine.proofs.CodeLemmas.{server_read}
use Rattle.pw_machine.proofs.TopLemmas.{fresh_sound}
use Rattle.pw_machine.proofs.run.start_server.Goals as goal

pub returns-clause-sound : goal.returns-clause-sound
returns-clause-sound c =
    let program : ℕ = c.len.result + c.args.server in
    let code = server_read c.args.system.now c.as_slice.result.now c.args.server c.index-as_slice-server.result c.as_slice.ensures c.index-as_slice-server.is c.requires.known in
    let number : c.len.result + c.args.server ≡ length c.args.system.now.programs + c.args.server = ap (λ n. n + c.args.server) c.len.ensures in
    let all : length c.extend.new.self ≡ length c.in_ok-storage.storage + length c.args.message.now =
    ap (length {A = ℕ}) c.in_ok-extend.ensures.ok ∙ length-append c.in_ok-storage.storage c.args.message.now in
    let storage : length (code_at c.args.system.now program).storage ≤ length c.extend.new.self =
    omega (arith, ap (λ n. length (code_at c.args.system.now n).storage) number, ap (λ (x : Code). length x.storage) code, ap (length {A = ℕ}) c.in_ok-storage.ensures, all) in
    fresh_sound c.args.system.now program c.extend.new.self c.fresh.result (record { known = omega (arith, c.requires.known, number); storage = storage }) c.fresh.ensures
