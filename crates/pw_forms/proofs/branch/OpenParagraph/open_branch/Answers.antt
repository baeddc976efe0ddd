use Rattle.std.proofs.Common.{sym, ap, ◌∙◌}
use Rattle.pw_forms.specs.Tree.{opened, prepend}
use Rattle.pw_forms.specs.Blocks.{nested}
use Rattle.pw_forms.proofs.Nested.{branches-push, opens}
use Rattle.pw_forms.proofs.branch.OpenParagraph.open_branch.Goals as goal

pub returns-clause-branches : goal.returns-clause-branches
returns-clause-branches c =
    rw (sym c.is_full.ensures ∙ c.if-is_full.false) (branches-push c.args.self.now.open.items c.push.new.self.items _ c.in_ok-push.ensures.items)

pub returns-clause-stands : goal.returns-clause-stands
returns-clause-stands c = λ fit x.
    opens c.args.self.now.open.items c.push.new.self.items _ c.replace-before.new.dest x c.in_ok-push.ensures.items (c.replace-before.ensures.after ∙ c.new.ensures)
    ∙ ap (λ b. nested c.args.self.now.open.items (prepend b (opened c.args.head x))) c.replace-before.ensures.value
