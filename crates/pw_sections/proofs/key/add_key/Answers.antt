use Rattle.std.proofs.Common.{not, ap, ◌∙◌}
use Rattle.pw_sections.proofs.Seen.{seen_in, put_in}
use Rattle.pw_sections.proofs.key.add_key.Goals as goal

pub returns-clause-new : goal.returns-clause-new
returns-clause-new c = c.in_ok-is_new.ensures.added ∙ ap not (seen_in c.args.keys.now.keys c.args.key)

pub returns-clause-keys : goal.returns-clause-keys
returns-clause-keys c = put_in c.args.keys.now.keys c.insert.new.self.keys c.args.key c.in_ok-is_new.ensures.keys
