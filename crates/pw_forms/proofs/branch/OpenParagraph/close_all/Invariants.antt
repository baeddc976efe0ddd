-- What the block closes to has not changed.
use Rattle.std.proofs.Common.{◌≡◌, [], vec_len}
use Rattle.pw_forms.specs.Tree.{ParagraphsBehind, Closed}
use Rattle.pw_forms.specs.Blocks.{stands}
use Rattle.pw_forms.proofs.branch.OpenParagraph.close_all.Given as goal

abbrev pub invariant-loop-top : goal.invariant-loop-top
invariant-loop-top l = (behind : ParagraphsBehind) → stands l.self (Closed [] behind) ≡ stands l.initial.self (Closed [] behind)

abbrev pub decreases-loop-top : goal.decreases-loop-top
decreases-loop-top l = vec_len l.self.open
