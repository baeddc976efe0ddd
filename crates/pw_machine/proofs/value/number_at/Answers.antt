-- A Number item has at most 18 digits.
use Rattle.std.proofs.Common.{◌^◌, ◌<◌, unsigned_abs, sym, subst}
use Rattle.pw_number.specs.Number.{Number}
use Rattle.pw_machine.proofs.Shorts.{kind-short}
use Rattle.pw_machine.proofs.value.number_at.Goals as goal

pub returns-in-Number-clause-short : goal.returns-in-Number-clause-short
returns-in-Number-clause-short c =
    subst (λ (n : Number). unsigned_abs n.units < 10 ^ 18) (sym c.read_number.ensures)
    (kind-short c.args.spot.kind c.args.spot.size c.in-Number.digits c.in-Number.places c.in-Number.signed c.chars_at-chars.result.now c.in-Number.is c.requires.picture c.chars_at-chars.ensures.size)
