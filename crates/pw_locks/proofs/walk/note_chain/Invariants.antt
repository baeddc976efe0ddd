use Rattle.std.specs.Iterator.Adapters.{rev_source}
use Rattle.pw_locks.specs.Searches.{is_sought}
use Rattle.pw_locks.proofs.Walking.{Walked, earlier}
use Rattle.pw_locks.proofs.walk.note_chain.Given as goal

abbrev pub invariant-loop-run : goal.invariant-loop-run
invariant-loop-run l = record {
  can : (goal.iterator-loop-run).can_next l.run-iterator;
  finite : (goal.iterator-loop-run).is_finite l.run-iterator;
  walked : Walked (is_sought l.sought) l.locks l.fn.known l.found (earlier l.sought.span.now l.chain.runs) (rev_source l.run-iterator);
}
