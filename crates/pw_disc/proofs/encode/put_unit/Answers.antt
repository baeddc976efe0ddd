-- The three numbers one behind the other.
use Rattle.std.proofs.Common.{ap, ◌++◌, ◌∙◌}
use Rattle.std.specs.Int.{to_be_bytes, w32, w64}
use Rattle.pw_image.proofs.Appending.{three}
use Rattle.pw_disc.proofs.encode.put_unit.Goals as goal

pub returns-clause-bytes : goal.returns-clause-bytes
returns-clause-bytes c =
    let unit = c.args.unit.now in
    three c.args.message.now c.extend.new.self c.extend-2.new.self c.extend-3.new.self
    (to_be_bytes w32 unit.terminal) (to_be_bytes w32 unit.number) (to_be_bytes w64 unit.birth)
    (c.in_ok-extend.ensures.ok ∙ ap (λ l. c.args.message.now ++ l) c.to_be_bytes.ensures)
    (c.in_ok-extend-2.ensures.ok ∙ ap (λ l. c.extend.new.self ++ l) c.to_be_bytes-2.ensures)
    (c.in_ok-extend-3.ensures.ok ∙ ap (λ l. c.extend-2.new.self ++ l) c.to_be_bytes-3.ensures)
