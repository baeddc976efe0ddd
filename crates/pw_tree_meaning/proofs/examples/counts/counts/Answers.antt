use Rattle.std.proofs.Common.{refl}
use Rattle.pw_tree_meaning.proofs.examples.counts.counts.Goals as goal

pub returns : goal.returns
returns c = record {
  last = λ next s. refl;
  one_more = λ next s. refl;
  from_zero = λ verb next s answer. refl;
}
