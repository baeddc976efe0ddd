-- The branch that is turned, and what the block is, have not changed.
use Rattle.std.proofs.Common.{◌≡◌, [], vec_len}
use Rattle.pw_forms.specs.Faults.{can_turn, else_turned}
use Rattle.pw_forms.specs.Tree.{Levels, AtElse}
use Rattle.pw_forms.specs.Blocks.{branches, stands}
use Rattle.pw_forms.proofs.branch.OpenParagraph.turn.Given as goal

abbrev pub invariant-loop-top : goal.invariant-loop-top
invariant-loop-top l = record {
  can : can_turn (branches l.self.open.items) ≡ can_turn (branches l.initial.self.open.items);
  branches : else_turned (branches l.self.open.items) ≡ else_turned (branches l.initial.self.open.items);
  stands : (x : Levels) → stands l.self (AtElse [] x) ≡ stands l.initial.self (AtElse [] x);
}

abbrev pub decreases-loop-top : goal.decreases-loop-top
decreases-loop-top l = vec_len l.self.open
