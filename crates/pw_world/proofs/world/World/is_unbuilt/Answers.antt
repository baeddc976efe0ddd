use Rattle.std.proofs.Common.{◌∙◌, subst, sym}
use Rattle.std.specs.Prelude.{◌↔◌, IsTrue}
use Rattle.pw_event.specs.declared.event.Event.{Event}
use Rattle.pw_world_store.specs.Keeps.{kept_in}
use Rattle.pw_entry_tests.specs.Steps.{IsUnbuilt}
use Rattle.pw_world.proofs.world.World.is_unbuilt.Goals as goal

pub returns-in-Applied : goal.returns-in-Applied
returns-in-Applied g c =
    let keep = c.args.self.now.keep in
    subst (λ (e : Event). IsTrue c.waits_for_image.result ↔ IsUnbuilt keep.system (kept_in g.D.Disc.told keep) e) (sym c.in-Applied.is)
    ((λ waits. sym c.waits_for_image.ensures ∙ waits), (λ waits. c.waits_for_image.ensures ∙ waits))
