-- One more.
use Rattle.std.specs.Option.{option_copied}
use Rattle.pw_image.specs.Image.{return_bytes}
use Rattle.pw_entry_tests.proofs.Left.{left-more-at}
use Rattle.pw_entry_tests.proofs.images.behind_returns.Goals as goal

pub loop-active-preserved : goal.loop-active-preserved
loop-active-preserved c =
    left-more-at return_bytes c.args.returns.now c.loop-active.active-index _ c.loop-active-test.true (option_copied c.args.left)
    (option_copied c.loop-active.rest) (option_copied c.behind_return-rest.result) c.loop-active.invariant c.behind_return-rest.ensures
