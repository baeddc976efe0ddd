use Rattle.pw_status.proofs.Numbering.{is-forgotten}
use Rattle.pw_status.proofs.shown.Numbers.forget.Goals as goal

pub returns : goal.returns
returns c =
    is-forgotten c.self.inside.terminals.items c.args.self.now c.args.terminal c.args.number c.index_mut.result.now c.remove.new.self c.self.view_is c.requires c.index_mut.ensures.value
    c.remove.result c.remove.ensures.test c.remove.ensures.updates c.remove.ensures.len
