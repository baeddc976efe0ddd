-- Where the only pending cause fails, none holds.
use Rattle.std.proofs.Common.{ap, sym, ◌∙◌}
use Rattle.pw_world_store.specs.Keeps.{kept_in}
use Rattle.pw_world_state.specs.Kept.{KeptTerminal}
use Rattle.pw_entry_tests.proofs.CauseFound.{only-pending}
use Rattle.pw_entry_tests.proofs.causes.pending_cause.Goals as goal

pub returns-else-branch : goal.returns-else-branch
returns-else-branch g c =
    only-pending c.args.keep.now.system (kept_in g.D.Disc.told c.args.keep.now) c.requires.known
    c.args.own.now c.requires.open c.in-Some.cause
    (sym (ap (λ (own : KeptTerminal). own.pending) c.seat.ensures.kept) ∙ c.in-Some.is)
    (λ told here. sym c.if-branch.false ∙ c.in_ok-holds.ensures told here)
