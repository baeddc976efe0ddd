use Rattle.std.proofs.Common.{take, ap, ◌∙◌}
use Rattle.pw_text.specs.Bytes.{is_picture_byte}
use Rattle.pw_text.proofs.Runs.{take-run}
use Rattle.pw_text.proofs.bytes.picture_at.Goals as goal

pub returns : goal.returns
returns c = c.split_at.ensures.front ∙ ap (λ n. take n c.args.bytes.now) c.picture_size.ensures.value ∙ take-run is_picture_byte c.args.bytes.now
