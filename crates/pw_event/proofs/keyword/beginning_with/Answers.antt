use Rattle.std.proofs.Common.{rules}
use Rattle.pw_event.proofs.Initials.{no_keyword}
use Rattle.pw_event.proofs.keyword.beginning_with.Goals as goal

pub returns-in_default : goal.returns-in_default
returns-in_default c =
    no_keyword c.args.first (search rules) (search rules) (search rules) (search rules) (search rules) (search rules) (search rules) (search rules)
    (search rules) (search rules) (search rules) (search rules) (search rules) (search rules) (search rules) (search rules)
