use Rattle.pathway.specs.Decks.{RunsBy}
use Rattle.pathway.proofs.Inputs.{run-long, of-bytes, of-long}
use Rattle.pathway.proofs.runs.run_output.Goals as goal

pub returns-in-Ok-Some-clause-ok : goal.returns-in-Ok-Some-clause-ok
returns-in-Ok-Some-clause-ok g c =
    let input = rw c.in-Ok-Some.field-0-is at c.in-Ok-Some.ensures.ok in
    let defined = rw c.as_slice.ensures at c.answer.ensures in
    of-bytes (RunsBy c.args.command) _ _ c.answer.result c.or_memory.result input defined c.or_memory.ensures.ok

pub returns-in-Ok-None-clause-ok : goal.returns-in-Ok-None-clause-ok
returns-in-Ok-None-clause-ok g c =
    let input = rw c.in-Ok-None.field-0-is at c.in-Ok-None.ensures.ok in
    of-long (RunsBy c.args.command) _ c.refused.result c.or_memory-in-Ok-None.result (run-long c.args.command) input c.refused.ensures c.or_memory-in-Ok-None.ensures.ok
