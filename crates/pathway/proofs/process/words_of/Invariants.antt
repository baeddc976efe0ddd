-- The words so far, with those that are left, are all behind the first.
use Rattle.std.proofs.Common.{◌≡◌, ◌++◌, length, drop}
use Rattle.std.specs.Vec.Iter.{into_iter_items}
use Rattle.pathway.proofs.process.words_of.Given as goal

abbrev pub invariant-loop-word : goal.invariant-loop-word
invariant-loop-word l = l.words.items ++ into_iter_items l.arguments ≡ drop 1 (into_iter_items l.fn.arguments)

abbrev pub decreases-loop-word : goal.decreases-loop-word
decreases-loop-word l = length (into_iter_items l.arguments)
