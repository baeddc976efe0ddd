use Rattle.std.proofs.Common.{subst, sym}
use Rattle.pw_world.specs.States.{seen}
use Rattle.pw_world_model.specs.Calls.{GivesBack}
use Rattle.pw_workers.specs.Locked.{Locked}
use Rattle.pw_workers.proofs.shared.Shared.give_back.Goals as goal

pub returns-clause-filed : goal.returns-clause-filed
returns-clause-filed g c = λ on.
    let told = g.D.Disc.told in
    let filed = c.file.ensures.filed on in (
      filed.0,
      subst (λ (l : Locked g.row.D.Denot). GivesBack (seen told c.args.self.now.world) c.args.done filed.0 (seen told l.world)) (sym c.put_lane.ensures) filed.1,
    )
