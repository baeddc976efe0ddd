use Rattle.std.proofs.Common.{sym}
use Rattle.pw_class.specs.Queue.{has_request}
use Rattle.pw_class.proofs.Finds.{is-place, none-any}
use Rattle.pw_class.proofs.classes.place_of.Goals as goal

pub returns-in-Some : goal.returns-in-Some
returns-in-Some c =
    is-place c.args.terminal c.args.classes.now c.in-Some.class c.index-classes-class.result c.place_of.result (sym c.in-Some.ensures)
    c.index-classes-class.is c.place_of.ensures.found c.place_of.ensures.place

pub returns-in-None : goal.returns-in-None
returns-in-None c = none-any (has_request c.args.terminal) c.args.classes.now (sym c.in-None.ensures)
