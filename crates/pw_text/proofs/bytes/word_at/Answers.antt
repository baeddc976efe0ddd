use Rattle.std.proofs.Common.{take, ap, ◌∙◌}
use Rattle.pw_text.specs.Bytes.{is_word_byte}
use Rattle.pw_text.proofs.Runs.{take-run}
use Rattle.pw_text.proofs.bytes.word_at.Goals as goal

pub returns : goal.returns
returns c = c.split_at.ensures.front ∙ ap (λ n. take n c.args.bytes.now) c.word_size.ensures.value ∙ take-run is_word_byte c.args.bytes.now
