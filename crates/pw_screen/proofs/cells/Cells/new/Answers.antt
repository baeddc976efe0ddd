use Rattle.std.proofs.Common.{ap, ◌∙◌}
use Rattle.pw_screen.specs.Cells.{is_marked}
use Rattle.pw_screen.proofs.Marks.{none-marked}
use Rattle.pw_screen.proofs.cells.Cells.new.Goals as goal

pub returns : goal.returns
returns c = λ place. ap (λ marks. is_marked marks place) (c.in_ok-from_elem.ensures.items_if_clones_equal (λ y is. is)) ∙ none-marked 1840 place
