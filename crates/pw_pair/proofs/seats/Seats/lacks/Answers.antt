-- Some seat is lacking where the count is above 0.
use Rattle.std.proofs.Common.{nat_lt, sym, ap, ◌∙◌}
use Rattle.std.specs.List.{list_any}
use Rattle.pw_pair.specs.Seats.{is_lacking}
use Rattle.pw_pair.proofs.At.{any-count}
use Rattle.pw_pair.proofs.seats.Seats.lacks.Goals as goal

pub returns : goal.returns
returns c =
    ap (λ n. nat_lt 0 n) c.self.invariant.lacks ∙ any-count is_lacking c.self.inside.seats.items
    ∙ ap (λ l. list_any is_lacking l) c.self.view_is
