use Rattle.std.proofs.Common.{◌∙◌, ap, sym}
use Rattle.std.specs.Prelude.{find}
use Rattle.pw_actor_queue.specs.Line.{behind_first, waits_at}
use Rattle.pw_actor_queue.proofs.roster.first_in_line.Goals as goal

pub returns-clause-found : goal.returns-clause-found
returns-clause-found c =
    let empty = c.leave.ensures.none c.in_default.is in
    sym (ap (find (waits_at c.args.notes.now)) empty) ∙ c.loop-place.invariant.found

pub returns-clause-line : goal.returns-clause-line
returns-clause-line c =
    let empty = c.leave.ensures.none c.in_default.is in
    (sym c.in_default.ensures.line ∙ empty)
    ∙ (sym (ap (behind_first (waits_at c.args.notes.now)) empty) ∙ c.loop-place.invariant.left)
