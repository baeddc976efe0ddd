use Rattle.pw_status.proofs.Numbering.{is-noted}
use Rattle.pw_status.proofs.shown.Numbers.note.Goals as goal

pub returns-clause-ok : goal.returns-clause-ok
returns-clause-ok c =
    is-noted c.self.inside.terminals.items c.args.self.now c.args.terminal c.args.number c.index_mut.result.now c.insert.new.self c.self.view_is c.requires c.index_mut.ensures.value
    c.in_ok-insert.field-0 c.in_ok-insert.ensures.added c.in_ok-insert.ensures.updates c.in_ok-insert.ensures.len
