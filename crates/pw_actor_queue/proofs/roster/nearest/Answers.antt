use Rattle.std.proofs.Common.{◌∙◌, sym}
use Rattle.pw_actor_queue.proofs.Placing.{found-nearest, found-waits, from-round, nearest-ahead, nobody-waits, waits-ahead}
use Rattle.pw_actor_queue.proofs.roster.nearest.Goals as goal

pub returns-in-Some-clause-waits : goal.returns-in-Some-clause-waits
returns-in-Some-clause-waits c =
    (waits-ahead c.args.notes.now c.args.round c.in-Some.ahead (from-round c.args.notes.now c.args.round c.first_waiting.result c.first_waiting.ensures ∙ c.in-Some.is)).1

pub returns-in-Some-clause-nearest : goal.returns-in-Some-clause-nearest
returns-in-Some-clause-nearest c =
    nearest-ahead c.args.notes.now c.args.round c.in-Some.ahead c.requires.size
    (from-round c.args.notes.now c.args.round c.first_waiting.result c.first_waiting.ensures ∙ c.in-Some.is)

pub returns-in-None-clause-none : goal.returns-in-None-clause-none
returns-in-None-clause-none c none place = nobody-waits c.args.notes.now place (sym c.first_waiting-in-None.ensures ∙ none)

pub returns-in-None-clause-waits : goal.returns-in-None-clause-waits
returns-in-None-clause-waits c = found-waits c.args.notes.now c.first_waiting-in-None.result c.first_waiting-in-None.ensures

pub returns-in-None-clause-nearest : goal.returns-in-None-clause-nearest
returns-in-None-clause-nearest c =
    found-nearest c.args.notes.now c.args.round c.first_waiting-in-None.result c.requires.size
    (from-round c.args.notes.now c.args.round c.first_waiting.result c.first_waiting.ensures ∙ c.in-None.is) c.first_waiting-in-None.ensures
