-- The seven numbers one behind the other.
use Rattle.std.proofs.Common.{ap, ◌++◌, ◌∙◌}
use Rattle.std.specs.Int.{to_be_bytes, w16, w32}
use Rattle.pw_image.proofs.Appending.{seven}
use Rattle.pw_image.proofs.encode.put_counts.Goals as goal

pub returns-clause-bytes : goal.returns-clause-bytes
returns-clause-bytes c =
    let context = c.args.context.now in
    seven c.args.image.now c.extend.new.self c.extend-2.new.self c.extend-3.new.self c.extend-4.new.self c.extend-5.new.self c.extend-6.new.self c.extend-7.new.self
    (to_be_bytes w16 context.termination) (to_be_bytes w32 context.restarts) (to_be_bytes w32 context.phase) (to_be_bytes w32 context.attempt)
    (to_be_bytes w32 context.shown) (to_be_bytes w32 context.entries) (to_be_bytes w32 context.units)
    (c.in_ok-extend.ensures.ok ∙ ap (λ l. c.args.image.now ++ l) c.to_be_bytes.ensures)
    (c.in_ok-extend-2.ensures.ok ∙ ap (λ l. c.extend.new.self ++ l) c.to_be_bytes-2.ensures)
    (c.in_ok-extend-3.ensures.ok ∙ ap (λ l. c.extend-2.new.self ++ l) c.to_be_bytes-3.ensures)
    (c.in_ok-extend-4.ensures.ok ∙ ap (λ l. c.extend-3.new.self ++ l) c.to_be_bytes-4.ensures)
    (c.in_ok-extend-5.ensures.ok ∙ ap (λ l. c.extend-4.new.self ++ l) c.to_be_bytes-5.ensures)
    (c.in_ok-extend-6.ensures.ok ∙ ap (λ l. c.extend-5.new.self ++ l) c.to_be_bytes-6.ensures)
    (c.in_ok-extend-7.ensures.ok ∙ ap (λ l. c.extend-6.new.self ++ l) c.to_be_bytes-7.ensures)
