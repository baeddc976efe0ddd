use Rattle.std.proofs.Common.{◌≡◌, [], true, false, not, refl, sym, ap, ◌∙◌}
use Rattle.std.specs.Prelude.{is_some}
use Rattle.pw_forms.specs.Tree.{AtElse, prepend}
use Rattle.pw_forms.specs.Blocks.{nested}
use Rattle.pw_forms.proofs.Nested.{turned-branches, passed-turned, passed-can_turn, turns, closes, closes-else}
use Rattle.pw_forms.proofs.branch.OpenParagraph.turn.Goals as goal

pub returns-then-is_none-clause-branches : goal.returns-then-is_none-clause-branches
returns-then-is_none-clause-branches c =
    let none : is_some c.in-Some.top.first ≡ false = c.is_none.ensures ∙ ap not c.if-is_none.true in
    rw (sym c.can_turn.ensures ∙ c.if-not-can_turn.false)
    (turned-branches c.pop.new.self.items c.loop-top.self.open.items c.push.new.self.items c.in-Some.top _ c.in-Some.ensures.items c.in_ok-push.ensures.items none refl
    ∙ c.loop-top.invariant.branches)

pub returns-then-is_none-clause-stands : goal.returns-then-is_none-clause-stands
returns-then-is_none-clause-stands c = λ fit x.
    let none : is_some c.in-Some.top.first ≡ false = c.is_none.ensures ∙ ap not c.if-is_none.true in
    turns c.pop.new.self.items c.loop-top.self.open.items c.push.new.self.items c.in-Some.top _ c.replace-last.result c.replace-last.new.dest x
    c.in-Some.ensures.items c.in_ok-push.ensures.items (c.replace-last.ensures.after ∙ c.new.ensures) none refl
    ∙ ap (λ b. nested c.loop-top.self.open.items (prepend b (AtElse [] x))) c.replace-last.ensures.value
    ∙ c.loop-top.invariant.stands x

pub loop-top-preserved : goal.loop-top-preserved
loop-top-preserved c =
    let some : is_some c.in-Some.top.first ≡ true = c.is_none.ensures ∙ ap not c.if-is_none.false in
    record {
      can = passed-can_turn c.pop.new.self.items c.loop-top.self.open.items c.in-Some.top c.in-Some.ensures.items some ∙ c.loop-top.invariant.can;
      branches = passed-turned c.pop.new.self.items c.loop-top.self.open.items c.in-Some.top c.in-Some.ensures.items some ∙ c.loop-top.invariant.branches;
      stands = λ x.
          closes c.pop.new.self.items c.loop-top.self.open.items c.in-Some.top c.in_ok-self.field-0 c.replace-last.result (AtElse [] x) (AtElse [] x)
          c.in-Some.ensures.items c.in_ok-self.ensures (closes-else _ _ _ x some)
          ∙ ap (λ b. nested c.loop-top.self.open.items (prepend b (AtElse [] x))) c.replace-last.ensures.value
          ∙ c.loop-top.invariant.stands x;
    }
