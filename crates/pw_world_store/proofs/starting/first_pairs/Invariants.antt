use Rattle.pw_world_store.specs.Starting.{AreFirstPairs}
use Rattle.pw_world_store.proofs.starting.first_pairs.Given as goal

abbrev pub invariant-loop-tcp : goal.invariant-loop-tcp
invariant-loop-tcp l = AreFirstPairs l.system l.tcp l.pairs.items
