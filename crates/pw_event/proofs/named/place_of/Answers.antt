use Rattle.std.proofs.Common.{◌∙◌}
use Rattle.pw_event.proofs.Keyed.{place_of_key}
use Rattle.pw_event.proofs.named.place_of.Goals as goal

pub returns-clause-place : goal.returns-clause-place
returns-clause-place c = c.get_index_of.ensures.index ∙ place_of_key c.args.names.now.keys c.args.name.now
