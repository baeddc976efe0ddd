-- The code that was read at a number.
use Rattle.std.proofs.Common.{◌≡◌, ℕ, ◌+◌, ◌-◌, ◌<◌, false, List, length, get_or, sym, ap, ◌∙◌, arith}
use Rattle.std.specs.Prelude.{nat_lt, slice_index_or, if◌then◌else◌}
use Rattle.std.proofs.lemmas.Bool.Decides.{nat_tests}
use Rattle.std.proofs.lemmas.List.{get_or_default}
use Rattle.pw_code.specs.Instrs.{no_code, program_at}
use Rattle.pw_code.specs.declared.code.Code.{Code}
use Rattle.pw_code.specs.declared.system.System.{System}
use Rattle.pw_code_meaning.specs.Config.{code_at}
use Rattle.pw_code_meaning.proofs.Sizes.{code-is}

pub program_read : (system : System) (codes : List Code) (program : ℕ) (code : Code) → codes ≡ system.programs → code ≡ get_or codes program code → program < length system.programs
    → code ≡ code_at system program
program_read system codes program code same is known =
    is ∙ ap (λ (l : List Code). get_or l program code) same ∙ get_or_default system.programs program code no_code known ∙ sym (code-is system program known)

pub server_read : (system : System) (codes : List Code) (server : ℕ) (code : Code) → codes ≡ system.servers → code ≡ get_or codes server code → server < length system.servers
    → code ≡ code_at system (length system.programs + server)
server_read system codes server code same is known =
    let n : ℕ = length system.programs + server in
    let behind : nat_lt n (length system.programs) ≡ false = grind (arith, nat_tests) in
    let place : server ≡ n - length system.programs = omega arith in
    is ∙ ap (λ (l : List Code). get_or l server code) same ∙ get_or_default system.servers server code no_code known
    ∙ ap (λ k. get_or system.servers k no_code) place
    ∙ sym (ap (λ b. if b then program_at system n else slice_index_or system.servers (n - length system.programs) no_code) behind)
