use Rattle.std.proofs.Common.{ap, ◌∙◌}
use Rattle.pw_data.specs.Laid.{initial_by}
use Rattle.pw_data.specs.Entries.{picture_at}
use Rattle.pw_data.proofs.Kept.{initial-kept}
use Rattle.pw_data.proofs.storage.initial.Goals as goal

pub returns : goal.returns
returns c =
    c.in_ok-initial_by.ensures ∙ initial-kept c.args.text.now c.args.entry c.in_ok-value.value c.requires
    ∙ ap (λ value. initial_by value (picture_at c.args.text.now c.args.entry.clauses.picture)) c.in_ok-value.ensures
