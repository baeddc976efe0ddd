-- The characters of the items of the programs so far.
use Rattle.std.proofs.Common.{◌≡◌, ◌≤◌, ◌*◌, ◌^◌, take}
use Rattle.std.specs.Prelude.{sum_by}
use Rattle.pw_code_meaning.specs.Calls.{items_of}
use Rattle.pw_machine.proofs.stack.active.Given as goal

abbrev pub invariant-loop-frame : goal.invariant-loop-frame
invariant-loop-frame l = record {
  total : l.total ≡ sum_by (items_of l.system) (take l.frame-index l.context.frames);
  bound : l.total ≤ l.frame-index * 2 ^ 64;
}
