use Rattle.std.proofs.Common.{[], drop, sym, ap, ◌∙◌}
use Rattle.pw_forms.specs.Tree.{AtEndIf, prepend}
use Rattle.pw_forms.specs.Blocks.{nested}
use Rattle.pw_forms.proofs.Nested.{branches-push, closes, closes-end}
use Rattle.pw_forms.proofs.branch.OpenParagraph.end.Goals as goal

pub returns-clause-branches : goal.returns-clause-branches
returns-clause-branches c = sym (ap (drop 1) (branches-push c.pop.new.self.items c.args.self.now.open.items c.in-Some.top c.in-Some.ensures.items))

pub returns-clause-stands : goal.returns-clause-stands
returns-clause-stands c = λ fit x.
    closes c.pop.new.self.items c.args.self.now.open.items c.in-Some.top c.in_ok-self.field-0 c.replace-last.result (AtEndIf [] x) x
    c.in-Some.ensures.items c.in_ok-self.ensures (closes-end _ _ _ x)
    ∙ ap (λ b. nested c.args.self.now.open.items (prepend b (AtEndIf [] x))) c.replace-last.ensures.value
