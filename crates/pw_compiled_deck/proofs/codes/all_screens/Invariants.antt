-- The screens so far are those of the requesters that were taken.
use Rattle.std.proofs.Common.{◌≡◌, ◌++◌, length, map}
use Rattle.std.specs.Vec.Iter.{into_iter_items, into_iter_len}
use Rattle.pw_compiler_laws.specs.Systems.{screens_of}
use Rattle.pw_compiled_deck.specs.Whole.{of_requester}
use Rattle.pw_compiled_deck.proofs.codes.all_screens.Given as goal

abbrev pub invariant-loop-requester : goal.invariant-loop-requester
invariant-loop-requester l = record {
  all : l.yielded ++ into_iter_items l.requester-iterator ≡ into_iter_items l.initial.requester-iterator;
  taken : l.screens ≡ screens_of (map of_requester l.yielded);
  left : into_iter_len l.requester-iterator ≡ length (into_iter_items l.requester-iterator);
}
