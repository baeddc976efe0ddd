use Rattle.pw_laws.proofs.locking.operations.operation_laws.Goals as goal
use Rattle.pw_laws.proofs.seeing.Seeing.{operated_is_file, same_answer, same_changes, same_effect, same_span, uncovered_leaves}

pub returns : goal.returns
returns c = record {
  sees = λ n a b file other call agree. (same_answer n a b file other call agree, same_span n a b file other call agree, same_changes n a b file other call agree);
  does = λ n call a b key both same. same_effect n call a b key both same;
  leaves = uncovered_leaves;
  file = operated_is_file;
}
