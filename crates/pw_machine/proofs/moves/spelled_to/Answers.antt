-- One character more is written.
use Rattle.std.proofs.Common.{◌≡◌, ◌<◌, length, [], sym, ◌∙◌, arith}
use Rattle.pw_picture.specs.Text.{fitted}
use Rattle.pw_terminal.proofs.Written.{length-fitted}
use Rattle.pw_code_meaning.specs.Reading.{value_in}
use Rattle.pw_tree_meaning.specs.Values.{operand_text}
use Rattle.pw_machine.specs.Views.{taken_by}
use Rattle.pw_machine.proofs.BesideLemmas.{get_or-fitted}
use Rattle.pw_machine.proofs.MoveLemmas.{written-more}
use Rattle.pw_machine.proofs.moves.spelled_to.Goals as goal

pub loop-place-preserved : goal.loop-place-preserved
loop-place-preserved c =
    let text = operand_text (value_in [] (taken_by c.args.operand.now c.args.found)) in
    let size = c.args.to.size in
    let place = c.loop-place.place in
    let long : length (fitted size text) ≡ size = length-fitted size text in
    let within : place < size = c.loop-place-test.true in
    written-more c.args.storage.now c.loop-place.storage (fitted size text) c.args.to.at place c.text_char.result c.loop-place.invariant
    (omega (arith, long, within)) (omega (arith, long, c.requires.to.inside)) (c.text_char.ensures ∙ sym (get_or-fitted size text place 0 within))
