use Rattle.pw_status.proofs.Telling.{class-counts}
use Rattle.pw_status.specs.Watching.{sys_in, watched}
use Rattle.pw_status.proofs.text.count_class.Goals as goal

pub returns : goal.returns
returns c =
    let w = c.args.world.now in
    class-counts w.keep.system (sys_in (watched w)) w.ledger.log c.args.tally.now c.requires.tally c.args.class
    (record { waiting = c.waiting.result; busy = c.busy.result; taken = c.taken.result; longest = c.longest.result }) c.requires.class
    c.waiting.ensures c.busy.ensures c.taken.ensures c.longest.ensures
