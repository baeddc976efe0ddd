-- What `strip_suffix` leaves is the bytes without a period at their end.
use Rattle.std.proofs.Common.{[], ◌∷◌, ap, ◌∙◌}
use Rattle.std.proofs.lemmas.Bool.Decides.{Decides-eqb}
use Rattle.std.proofs.lemmas.Slice.Eq.{strip_suffix_is}
use Rattle.pw_text.proofs.Endings.{stripped}
use Rattle.pw_text.proofs.items.without_period.Goals as goal

pub returns-clause-value : goal.returns-clause-value
returns-clause-value c = ap (λ bytes. bytes.now) c.unwrap_or.ensures ∙ stripped c.args.bytes c.strip_suffix.result (strip_suffix_is Decides-eqb c.args.bytes.now (46 ∷ []) c.strip_suffix.result c.strip_suffix.ensures.cases)
