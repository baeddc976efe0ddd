use Rattle.std.proofs.Common.{sym, ◌∙◌}
use Rattle.pw_machine.proofs.KeyedLemmas.{decimals_behind, no_decimals}
use Rattle.pw_machine.proofs.keyed.decimals_in.Goals as goal

pub returns-in-Some : goal.returns-in-Some
returns-in-Some c = decimals_behind c.args.value.now c.in-Some.point (sym c.point_in.ensures.place ∙ c.in-Some.is)

pub returns-in-None : goal.returns-in-None
returns-in-None c = no_decimals c.args.value.now (sym c.point_in.ensures.place ∙ c.in-None.is)
