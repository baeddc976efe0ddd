use Rattle.std.proofs.Common.{◌≡◌, ◌++◌, subst, sym}
use Rattle.std.specs.Prelude.{OnOk}
use Rattle.pw_event.specs.declared.event.Event.{Event}
use Rattle.pw_world_store.specs.Keeps.{kept_in}
use Rattle.pw_world.specs.Touched.{named}
use Rattle.pw_world.proofs.world.World.push_named.Goals as goal

pub returns-in-Restart : goal.returns-in-Restart
returns-in-Restart g c =
    subst (λ (entry : Event). OnOk c.push_restarted.result (c.push_restarted.new.actors.items ≡ c.args.actors.now.items ++ named c.args.self.now.keep.system (kept_in g.D.Disc.told c.args.self.now.keep) entry))
    (sym c.in-Restart.is) (c.push_restarted.ensures c.in-Restart.unit c.in-Restart.cause)
