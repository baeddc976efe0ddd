use Rattle.std.proofs.Common.{◌≡◌, length, sym, ap, ◌∙◌}
use Rattle.std.proofs.lemmas.Bool.{eqb-true}
use Rattle.pw_data.specs.Names.{has_name}
use Rattle.pw_divisions.specs.Divisions.{with_parameters}
use Rattle.pw_divisions.proofs.Cuts.{no-entries}
use Rattle.pw_divisions.proofs.using.parameters.Goals as goal

pub returns : goal.returns
returns c =
    let left = c.loop-cursor.cursor in
    let none : length left.tokens ≡ 0 = eqb-true (length left.tokens) 0 (sym c.loop-cursor-test.ensures) in
    sym (ap (with_parameters c.args.text.now (has_name c.loop-cursor.names)) (no-entries left.tokens none)) ∙ c.loop-cursor.invariant.so_far
