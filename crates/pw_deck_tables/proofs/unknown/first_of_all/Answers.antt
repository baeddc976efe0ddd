use Rattle.std.specs.Prelude.{flat_map}
use Rattle.pw_deck_tables.proofs.Noted.{noted_parts}
use Rattle.pw_deck_tables.specs.Unknown.{unknown_terminal, fault_in}
use Rattle.pw_deck_tables.proofs.unknown.first_of_all.Goals as goal

pub returns : goal.returns
returns c = λ known is. noted_parts known (flat_map (unknown_terminal c.args.system.now) c.args.sections.now) (fault_in c.args.fails.now) (fault_in c.args.events.now)
    c.args.adds c.noted_sections-best.result c.noted_in.result c.noted_in-2.result is c.noted_sections-best.ensures c.noted_in.ensures c.noted_in-2.ensures
