-- What is left to be cancelled leads to all.
use Rattle.std.proofs.Common.{◌≡◌, drop}
use Rattle.pw_world_store.specs.Keeps.{kept_in}
use Rattle.pw_world_state.specs.Changes.{cancel}
use Rattle.pw_world_store.proofs.keep.Keep.cancel.Given as goal

abbrev pub invariant-loop-terminal : goal.invariant-loop-terminal
invariant-loop-terminal g l = record {
  system : l.self.system ≡ l.initial.self.system;
  leads : cancel (drop l.terminal-index l.terminals) (kept_in g.D.Disc.told l.self) ≡ cancel l.terminals (kept_in g.D.Disc.told l.initial.self);
}
