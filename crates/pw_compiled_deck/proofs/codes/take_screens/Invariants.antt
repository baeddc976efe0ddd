-- The screens so far are those before and those that were taken.
use Rattle.std.proofs.Common.{◌≡◌, ◌++◌, length}
use Rattle.std.specs.Vec.Iter.{into_iter_items, into_iter_len}
use Rattle.pw_compiled_deck.proofs.codes.take_screens.Given as goal

abbrev pub invariant-loop-screen : goal.invariant-loop-screen
invariant-loop-screen l = record {
  all : l.yielded ++ into_iter_items l.screen-iterator ≡ into_iter_items l.initial.screen-iterator;
  taken : l.screens ≡ l.initial.screens ++ l.yielded;
  left : into_iter_len l.screen-iterator ≡ length (into_iter_items l.screen-iterator);
}
