use Rattle.std.proofs.Common.{◌≡◌, map, take}
use Rattle.pw_event.proofs.Sentences.{texts}
use Rattle.pw_event.proofs.named.names_of.Given as goal

abbrev pub invariant-loop-thing : goal.invariant-loop-thing
invariant-loop-thing g l = texts l.names.keys ≡ take l.thing-index (map g.T.Named.name_of l.things)
