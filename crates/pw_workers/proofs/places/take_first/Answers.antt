use Rattle.std.proofs.Common.{◌∙◌, sym}
use Rattle.pw_workers.proofs.Taken.{not_gone, waiting}
use Rattle.pw_workers.proofs.places.take_first.Goals as goal

pub unreachable-requires : goal.unreachable-requires
unreachable-requires c =
    not_gone c.args.places.now c.in_ok-tcp.tcp c.index-places-tcp.result c.take.result (sym c.first_waiting.ensures ∙ c.in_ok-tcp.was) c.take.ensures.value c.in-None.is

pub returns-clause-found : goal.returns-clause-found
returns-clause-found c =
    waiting c.args.places.now c.in_ok-tcp.tcp c.index-places-tcp.result c.take.result c.in-Some.lane (sym c.first_waiting.ensures ∙ c.in_ok-tcp.was) c.take.ensures.value c.in-Some.is
