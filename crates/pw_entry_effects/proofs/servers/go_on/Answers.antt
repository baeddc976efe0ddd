use Rattle.std.proofs.Common.{◌∙◌, ap, rules, subst, sym}
use Rattle.std.specs.Prelude.{IsSome}
use Rattle.pw_class.specs.Queue.{at_process}
use Rattle.pw_world_state.specs.Changes.{free_process}
use Rattle.pw_world_state.specs.Kept.{Kept}
use Rattle.pw_entry_effects.proofs.servers.go_on.Goals as goal

pub free-requires-clause-busy : goal.free-requires-clause-busy
free-requires-clause-busy g c =
    let h = subst (λ (k : Kept). IsSome (at_process (k.queues c.args.class) c.args.process)) (sym c.go_behind.ensures.kept) c.requires.busy in
    search (rules, h)

pub returns : goal.returns
returns g c = record {
  system = c.free.ensures.system ∙ c.go_behind.ensures.system;
  kept = c.free.ensures.kept ∙ ap (free_process c.args.class c.args.process) c.go_behind.ensures.kept;
}
