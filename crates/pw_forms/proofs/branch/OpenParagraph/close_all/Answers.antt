use Rattle.std.proofs.Common.{◌≡◌, [], sym, ap, ◌∙◌, arith}
use Rattle.std.proofs.lemmas.List.{nil_from_length, append-nil}
use Rattle.pw_forms.specs.Tree.{Closed, prepend}
use Rattle.pw_forms.specs.Blocks.{nested}
use Rattle.pw_forms.proofs.Nested.{closes, closes-closed, nested-nil}
use Rattle.pw_forms.proofs.branch.OpenParagraph.close_all.Goals as goal

pub loop-top-preserved : goal.loop-top-preserved
loop-top-preserved c = λ behind.
    closes c.pop.new.self.items c.loop-top.self.open.items c.in-Some.top c.in_ok-self.field-0 c.replace-last.result (Closed [] behind) (Closed [] behind)
    c.in-Some.ensures.items c.in_ok-self.ensures (closes-closed _ _ _ behind)
    ∙ ap (λ b. nested c.loop-top.self.open.items (prepend b (Closed [] behind))) c.replace-last.ensures.value
    ∙ c.loop-top.invariant behind

pub returns-clause-open : goal.returns-clause-open
returns-clause-open c = nil_from_length _ (omega (arith, c.in_default.ensures.cases))

pub returns-clause-stands : goal.returns-clause-stands
returns-clause-stands c = λ behind.
    let none : c.loop-top.self.open.items ≡ [] = nil_from_length _ (omega (arith, c.in_default.ensures.cases)) in
    ap (λ b. Closed b behind) (sym (append-nil c.loop-top.self.current)) ∙ sym (nested-nil c.loop-top.self.open.items (prepend c.loop-top.self.current (Closed [] behind)) none)
    ∙ c.loop-top.invariant behind
