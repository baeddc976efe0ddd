use Rattle.std.proofs.Common.{◌∙◌, Err, ap, subst, sym}
use Rattle.pw_deck_runs.proofs.verify.replay.Goals as goal
use Rattle.pw_world_model.specs.Worlds.{IsDiscOf}
use Rattle.pw_tmf.specs.Starting.{told_at_start}
use Rattle.pw_world_model.proofs.Starts.{starts}

pub replay-requires-clause-disc : goal.replay-requires-clause-disc
replay-requires-clause-disc c κs =
    let system = c.into_parts-system.result.0 in
    let script = c.into_parts-system.result.1.lines in
    let same = c.system.ensures.system ∙ sym c.into_parts-system.ensures.system in
    subst (IsDiscOf system script) (sym (c.in-Ok.ensures ∙ ap told_at_start same)) (starts system script)

pub returns-in-Err-NotAStep : goal.returns-in-Err-NotAStep
returns-in-Err-NotAStep c =
    let n = c.in-Err-NotAStep.number in
    let first = c.in-Err-NotAStep.ensures.no_step n (ap Err c.in-Err-NotAStep.field-0-is) in (
      n,
      (
        rw (c.into_parts-system.ensures.system, c.into_parts-system.ensures.script) at first,
        c.in_ok-no_step_line-in-Err-NotAStep.ensures,
      ),
    )
