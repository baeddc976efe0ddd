use Rattle.std.proofs.Common.{◌∙◌, ◌==◌, ◌<◌, ap, length, subst, sym}
use Rattle.std.specs.Prelude.{All}
use Rattle.std.specs.List.{IsDistinct}
use Rattle.pw_world_store.specs.Keeps.{terminals_in}
use Rattle.pw_world_store.proofs.Failing.{members-low}
use Rattle.pw_world_store.proofs.keep.Keep.members.Goals as goal

pub returns-clause-terminals : goal.returns-clause-terminals
returns-clause-terminals g c = c.in_ok-terminals.ensures ∙ ap terminals_in c.pair.ensures.pair

pub returns-clause-known : goal.returns-clause-known
returns-clause-known g c = subst (All (λ t. t < length c.args.self.now.system.terminals)) (sym c.in_ok-terminals.ensures) (members-low c.pair.ensures.members)

pub returns-clause-distinct : goal.returns-clause-distinct
returns-clause-distinct g c = subst (IsDistinct (λ a b. a == b)) (sym c.in_ok-terminals.ensures) c.pair.ensures.members.distinct
