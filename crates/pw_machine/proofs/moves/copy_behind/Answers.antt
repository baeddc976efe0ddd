-- The front stays, and the characters stand in the back.
use Rattle.pw_machine.proofs.MoveLemmas.{copied_behind}
use Rattle.pw_machine.proofs.moves.copy_behind.Goals as goal

pub returns : goal.returns
returns c =
    copied_behind c.args.storage.now c.split_at_mut-front.result.0.now c.split_at_mut-front.result.1.now c.chars_at.result.now c.write_at.new.storage
    c.args.from c.args.count c.args.to c.requires.apart c.split_at_mut-front.ensures.front c.split_at_mut-front.ensures.back c.chars_at.ensures.chars c.write_at.ensures
