-- No seat waits where the count is 0.
use Rattle.std.proofs.Common.{find, sym, ap, ◌∙◌}
use Rattle.pw_pair.specs.Seats.{is_waiting}
use Rattle.pw_pair.proofs.At.{none-found}
use Rattle.pw_pair.proofs.seats.Seats.first_waiting.Goals as goal

pub returns-then-self-eq0 : goal.returns-then-self-eq0
returns-then-self-eq0 c =
    sym (ap (find is_waiting) (sym c.self.view_is) ∙ none-found is_waiting c.self.inside.seats.items (sym c.self.invariant.waits ∙ c.if-self-eq0.true))
