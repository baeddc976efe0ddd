-- An image that is held is never bad.
use Rattle.std.proofs.Common.{ap, ◌∙◌}
use Rattle.std.specs.Prelude.{Err}
use Rattle.pw_pair.proofs.Images.{never-bad}
use Rattle.pw_pair.proofs.backup.resume.Goals as goal

pub unreachable-requires : goal.unreachable-requires
unreachable-requires c =
    never-bad c.args.held.now c.args.last c.resumed_image.result.now c.requires c.resumed_image.ensures
    (c.decode.ensures.none (c.in-Err-Bad.is ∙ ap (λ fault. Err fault) c.in-Err-Bad.field-0-is))
