-- The characters up to the place are written.
use Rattle.std.proofs.Common.{◌≡◌, take, []}
use Rattle.pw_picture.specs.Text.{fitted}
use Rattle.pw_terminal.specs.Shown.{written}
use Rattle.pw_code_meaning.specs.Reading.{value_in}
use Rattle.pw_tree_meaning.specs.Values.{operand_text}
use Rattle.pw_machine.specs.Views.{taken_by}
use Rattle.pw_machine.proofs.moves.spelled_to.Given as goal

abbrev pub invariant-loop-place : goal.invariant-loop-place
invariant-loop-place l =
    l.storage ≡ written l.to.at (take l.place (fitted l.to.size (operand_text (value_in [] (taken_by l.operand l.found))))) l.fn.storage
