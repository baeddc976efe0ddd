use Rattle.std.proofs.Common.{◌∙◌, length}
use Rattle.pw_world_store.proofs.Out.{out-is}
use Rattle.pw_world_store.proofs.keep.Keep.is_out.Goals as goal

pub returns : goal.returns
returns g c =
    rw (← c.self.view_is)
    (c.is_some.ensures ∙ c.request_of.ensures.found ∙ out-is c.self.inside.classes (length c.self.inside.system.classes) c.args.terminal c.self.invariant.classes)
