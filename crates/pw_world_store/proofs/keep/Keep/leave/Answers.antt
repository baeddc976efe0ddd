use Rattle.std.proofs.Common.{◌∙◌, ap}
use Rattle.pw_world_state.specs.Changes.{cancel}
use Rattle.pw_world_store.proofs.keep.Keep.leave.Goals as goal

pub returns-clause-ok : goal.returns-clause-ok
returns-clause-ok g c = record {
  system = c.cancel.ensures.system ∙ c.in_ok-end_units.ensures.ok.system;
  kept = c.cancel.ensures.kept ∙ ap (cancel c.args.terminals.now) c.in_ok-end_units.ensures.ok.kept;
}
