use Rattle.std.proofs.Common.{sym, subst}
use Rattle.pw_world_store.specs.Keeps.{kept_in}
use Rattle.pw_world_state.specs.Read.{AreValued}
use Rattle.pw_world.proofs.world.World.know_entry.Goals as goal

pub returns-in-Begin : goal.returns-in-Begin
returns-in-Begin g c =
    subst (AreValued c.args.self.now.keep.system (kept_in g.D.Disc.told c.args.self.now.keep)) (sym c.in-Begin.is) c.know_own-in-Begin.ensures
