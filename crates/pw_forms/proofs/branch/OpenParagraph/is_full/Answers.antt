use Rattle.std.proofs.Common.{length, sym, ap, ◌∙◌}
use Rattle.std.specs.Prelude.{nat_le}
use Rattle.pw_forms.proofs.Nested.{length-branches}
use Rattle.pw_forms.proofs.branch.OpenParagraph.is_full.Goals as goal

pub returns : goal.returns
returns c = ap (nat_le 64) (ap length c.as_slice.ensures.value ∙ sym (length-branches c.args.self.now.open.items))
