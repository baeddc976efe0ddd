use Rattle.std.proofs.Common.{ap, ◌∙◌}
use Rattle.pw_words.specs.Names.{has_name as has_name_as_written}
use Rattle.pw_divisions.proofs.names.has_name.Goals as goal

pub returns : goal.returns
returns c = c.has.ensures ∙ ap (has_name_as_written c.args.names.now) c.deref.ensures.value ∙ ap (has_name_as_written c.args.names.now) c.in_ok-key.ensures
