use Rattle.std.proofs.Common.{arith}
use Rattle.pw_status.proofs.Telling.{shown-is, terminal-counts}
use Rattle.pw_status.specs.Watching.{sys_in, watched}
use Rattle.pw_status.proofs.text.count_terminal.Goals as goal

pub overflow_cast-shown : goal.overflow_cast-shown
overflow_cast-shown c =
    let w = c.args.world.now in
    let is = shown-is w c.args.tally.now c.args.numbers.now c.requires.watch c.args.terminal c.count-shown.result c.requires.terminal c.count-shown.ensures in
    let few = c.number_laws.ensures.few (sys_in (watched w)) w.ledger.log c.args.terminal in
    let room = c.holds.ensures.room in
    let limit = c.requires.watch.limit in
    omega (arith, is, few, room, limit)

pub returns : goal.returns
returns c =
    terminal-counts c.args.world.now c.args.tally.now c.args.numbers.now c.requires.watch c.args.terminal
    (record { units = c.last_ended.result; restarts = c.restarts.result; entries = c.entries.result; shown = c.count-shown.result }) c.requires.terminal
    c.last_ended.ensures c.restarts.ensures c.entries.ensures c.count-shown.ensures
