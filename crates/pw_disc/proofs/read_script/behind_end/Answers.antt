use Rattle.std.proofs.Common.{sym, ◌∙◌}
use Rattle.pw_sections.proofs.Folds.{no_lines}
use Rattle.pw_disc.proofs.ScriptLemmas.{end_found, goes_on, none_left}
use Rattle.pw_disc.proofs.read_script.behind_end.Goals as goal

pub returns-then-branch : goal.returns-then-branch
returns-then-branch c =
    end_found c.loop-line.number c.in_ok-number.number _ _ c.in-Some.line.now _ c.in-Some.ensures.cases c.in_ok-number.ensures
    (sym c.if-branch.true ∙ c.in_ok-ends_deck.ensures) c.loop-line.invariant

pub loop-line-preserved : goal.loop-line-preserved
loop-line-preserved c =
    goes_on c.loop-line.number c.in_ok-number.number _ _ c.in-Some.line.now _ c.in-Some.ensures.cases c.in_ok-number.ensures
    (sym c.if-branch.false ∙ c.in_ok-ends_deck.ensures) c.loop-line.invariant

pub returns : goal.returns
returns c = none_left c.loop-line.number _ _ (no_lines _ c.in_default.ensures.cases) c.loop-line.invariant
