-- A start is noted exactly where the open unit runs.
use Rattle.std.proofs.Common.{sym, ◌∙◌}
use Rattle.pw_world_store.specs.Keeps.{kept_in}
use Rattle.pw_entry_tests.proofs.Opened.{run-else, run-then}
use Rattle.pw_entry_tests.proofs.causes.running.Goals as goal

pub returns-then-is_some : goal.returns-then-is_some
returns-then-is_some g c =
    let kept = kept_in g.D.Disc.told c.args.keep.now in
    c.seat-seat.ensures.unit
    ∙ run-then c.args.terminal (kept.disc.units c.args.terminal)
    (sym c.seat-seat.ensures.runs ∙ (sym c.is_some.ensures ∙ c.if-is_some.true))

pub returns-else-is_some : goal.returns-else-is_some
returns-else-is_some g c =
    let kept = kept_in g.D.Disc.told c.args.keep.now in
    run-else c.args.terminal (kept.disc.units c.args.terminal)
    (sym c.seat-seat.ensures.runs ∙ (sym c.is_some.ensures ∙ c.if-is_some.false))
