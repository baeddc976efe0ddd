use Rattle.std.proofs.Common.{get_or, refl, ap, ◌∙◌}
use Rattle.std.specs.Prelude.{find}
use Rattle.std.specs.Str.{bytes_eq}
use Rattle.pw_event.specs.Keywords.{keyword_text}
use Rattle.pw_event.proofs.Initials.{keyword-found}
use Rattle.pw_event.proofs.keyword.keyword_of.Goals as goal

pub returns-in-len1-up : goal.returns-in-len1-up
returns-in-len1-up c =
    c.among.ensures ∙ ap (find (λ keyword. bytes_eq (keyword_text keyword) c.args.word.now)) c.beginning_with.ensures
    ∙ keyword-found (get_or c.args.word.now 0 0) c.args.word.now refl
