-- The characters are copied, and spaces follow.
use Rattle.std.proofs.Common.{take, drop}
use Rattle.pw_machine.proofs.MoveLemmas.{item_moved}
use Rattle.pw_machine.proofs.moves.item_to.Goals as goal

pub returns : goal.returns
returns c =
    item_moved c.args.storage.now c.copy_to.new.storage c.fill_with.new.storage _ c.args.from.at c.args.from.size c.sign_of.result c.min-sign.result
    c.args.to.size c.min-count.result c.args.to.at c.requires.from.inside c.requires.to.inside c.min-sign.ensures c.min-count.ensures c.copy_to.ensures c.fill_with.ensures
    (c.sign_of.ensures.sign c.args.from.size (take c.args.from.size (drop c.args.from.at c.args.storage.now)))
