use Rattle.std.proofs.Common.{sym, ap, ◌∙◌}
use Rattle.std.specs.Prelude.{not, is_some}
use Rattle.std.specs.List.{list_any}
use Rattle.pw_forms.specs.declared.branch.Open.{Open}
use Rattle.pw_forms.proofs.Nested.{any-branches}
use Rattle.pw_forms.proofs.branch.OpenParagraph.can_turn.Goals as goal

pub returns : goal.returns
returns c = c.any_lacks_else.ensures ∙ ap (list_any (λ (branch : Open). not (is_some branch.first))) c.as_slice.ensures.value ∙ sym (any-branches c.args.self.now.open.items)
