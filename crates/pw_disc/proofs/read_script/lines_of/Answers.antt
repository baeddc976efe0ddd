use Rattle.std.proofs.Common.{◌≡◌, ℕ, [], rules, sym, subst, ◌∙◌}
use Rattle.pw_base.specs.First.{Refuses}
use Rattle.pw_sections.proofs.Folds.{no_lines, none_taken, one_taken, one_refused}
use Rattle.pw_sections.specs.Lines.{lines}
use Rattle.pw_sections.specs.Steps.{each_line}
use Rattle.pw_disc.specs.Script.{disc_line_read}
use Rattle.pw_disc.proofs.read_script.lines_of.Goals as goal

pub returns-in_err-read_line : goal.returns-in_err-read_line
returns-in_err-read_line c =
    let refused : Refuses c.in_err-read_line.field-0.0 (each_line disc_line_read c.args.first_line [] (lines c.args.text.now)) =
    one_refused _ disc_line_read c.loop-line.number c.loop-line.own _ _ _ _ c.in-Some.ensures.cases c.in_err-read_line.ensures c.loop-line.invariant in
    search rules

pub returns : goal.returns
returns c = sym c.loop-line.invariant ∙ none_taken disc_line_read c.loop-line.number c.loop-line.own _ (no_lines _ c.in_default.ensures.cases)

pub loop-line-preserved : goal.loop-line-preserved
loop-line-preserved c =
    let more =
    one_taken disc_line_read c.loop-line.number c.loop-line.own c.read_line.new.lines _ _ _ _ c.in-Some.ensures.cases c.in_ok-read_line.ensures c.loop-line.invariant in
    subst (λ (n : ℕ). each_line disc_line_read n c.read_line.new.lines (lines c.in-Some.behind.now) ≡ each_line disc_line_read c.args.first_line [] (lines c.args.text.now))
    (sym c.in_ok-number.ensures) more
