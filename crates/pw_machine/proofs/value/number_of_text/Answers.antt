-- At most 18 characters are read.
use Rattle.std.proofs.Common.{◌^◌, ◌<◌, false, length, unsigned_abs, sym, subst, arith}
use Rattle.pw_number.specs.Number.{Number}
use Rattle.pw_machine.proofs.Shorts.{read_of-short}
use Rattle.pw_machine.proofs.value.number_of_text.Goals as goal

pub returns-else-is_empty-clause-short : goal.returns-else-is_empty-clause-short
returns-else-is_empty-clause-short c =
    let last = c.split_at.result.1.now in
    subst (λ (n : Number). unsigned_abs n.units < 10 ^ 18) (sym c.digits_in.ensures)
    (read_of-short (length last) 0 false last (omega arith) (omega arith))
