-- A cause is pending, or the program asks for a restart, or an older unit is met.
use Rattle.std.proofs.Common.{◌≡◌, Some, sym, subst, ◌∙◌}
use Rattle.std.proofs.lemmas.Result.{IfOk-weaker}
use Rattle.pw_world_store.specs.Keeps.{kept_in}
use Rattle.pw_entry_tests.proofs.CauseFound.{all-found}
use Rattle.pw_entry_tests.specs.Causes.{IsCauseFound, IsOlderCause, IsOneFound}
use Rattle.pw_entry_tests.proofs.causes.find_cause.Goals as goal

pub returns : goal.returns
returns g c =
    let system = c.args.keep.now.system in
    let kept = kept_in g.D.Disc.told c.args.keep.now in
    let own = c.args.own.now in
    IfOk-weaker c.older_cause.result (IsOneFound IsOlderCause system kept own)
    (IsCauseFound system kept own)
    (all-found system kept c.requires.known own c.requires.open
    (subst (IsOneFound (λ cause. (kept.terminals own.terminal).pending ≡ Some cause) system kept own)
    c.in_default.is c.in_ok-cause.ensures)
    (sym c.is_redo.ensures ∙ c.if-is_redo.false)) c.older_cause.ensures
