use Rattle.std.proofs.Common.{◌∙◌, length}
use Rattle.pw_world_store.proofs.Out.{out-is}
use Rattle.pw_world_store.proofs.keep.Keep.request_of.Goals as goal

pub returns-clause-found : goal.returns-clause-found
returns-clause-found g c =
    rw (← c.self.view_is)
    (c.request_of.ensures.found ∙ out-is c.self.inside.classes (length c.self.inside.system.classes) c.args.terminal c.self.invariant.classes)
