-- What the index has of the things so far, and what those that are left would add, is all.
use Rattle.std.proofs.Common.{◌≡◌}
use Rattle.pw_operands.proofs.Indexes.{Leads}
use Rattle.pw_operands.proofs.index.index_of.Given as goal

abbrev pub invariant-loop-thing : goal.invariant-loop-thing
invariant-loop-thing g l = record {
  number : l.number ≡ l.thing-index;
  so_far : Leads g.T.IndexedByName.name_of l.things l.thing-index l.index;
}
