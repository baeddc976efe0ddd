use Rattle.std.proofs.Common.{length, sym, ap, ◌∙◌}
use Rattle.std.specs.Prelude.{◌==◌}
use Rattle.pw_forms.proofs.Nested.{length-branches}
use Rattle.pw_forms.proofs.branch.OpenParagraph.is_closed.Goals as goal

pub returns : goal.returns
returns c = c.is_empty.ensures ∙ ap (λ n. n == 0) (ap length c.as_slice.ensures.value ∙ sym (length-branches c.args.self.now.open.items))
