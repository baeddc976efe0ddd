-- What `strip_suffix` leaves is the line without a CR at its end.
use Rattle.std.proofs.Common.{[], ◌∷◌, ap, ◌∙◌}
use Rattle.std.proofs.lemmas.Bool.Decides.{Decides-eqb}
use Rattle.std.proofs.lemmas.Slice.Eq.{strip_suffix_is}
use Rattle.pw_sections.proofs.Cut.{stripped}
use Rattle.pw_sections.proofs.line.without_return.Goals as goal

pub returns : goal.returns
returns c = ap (λ line. line.now) c.unwrap_or.ensures ∙ stripped c.args.line c.strip_suffix.result (strip_suffix_is Decides-eqb c.args.line.now (13 ∷ []) c.strip_suffix.result c.strip_suffix.ensures.cases)
