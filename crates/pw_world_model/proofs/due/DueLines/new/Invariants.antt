use Rattle.std.proofs.Common.{◌≡◌, ◌+◌, take}
use Rattle.pw_world_model.specs.Dues.{opened_from}
use Rattle.pw_world_model.proofs.due.DueLines.new.Given as goal

abbrev pub invariant-loop-line : goal.invariant-loop-line
invariant-loop-line l = record {
  lines : l.waiting.items ≡ opened_from 1 (take l.line-index l.script.lines);
  number : l.number ≡ l.line-index + 1;
}
