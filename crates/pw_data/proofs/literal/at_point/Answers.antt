use Rattle.std.proofs.Common.{take, drop, not, ap, ◌∙◌}
use Rattle.std.specs.Prelude.{◌==◌}
use Rattle.std.proofs.lemmas.List.Folds.{length-prefix_len}
use Rattle.pw_data.proofs.literal.at_point.Goals as goal

pub returns-clause-front : goal.returns-clause-front
returns-clause-front c =
    c.split_at.ensures.front ∙ ap (λ n. take n c.args.bytes.now) (c.point_at.ensures.value ∙ length-prefix_len (λ byte. not (byte == 46)) c.args.bytes.now)

pub returns-clause-behind : goal.returns-clause-behind
returns-clause-behind c = c.behind_first.ensures ∙ ap (drop 1) (c.split_at.ensures.back ∙ ap (λ n. drop n c.args.bytes.now) c.point_at.ensures.value)
