use Rattle.pw_base.proofs.Plain.{on-ok}
use Rattle.pw_world_store.specs.Keeps.{kept_in}
use Rattle.pw_world_state.specs.Changes.{kept_send}
use Rattle.pw_world_state.specs.Entered.{entered_send}
use Rattle.pw_world_state.specs.Kept.{Kept}
use Rattle.pw_entry_effects.proofs.Answering.{sent-is}
use Rattle.pw_entry_effects.proofs.Changing.{changed-alike}
use Rattle.pw_entry_effects.proofs.terminals.send.Goals as goal

pub returns-clause-ok : goal.returns-clause-ok
returns-clause-ok g c =
    let system = c.args.keep.now.system in
    let kept : Kept = kept_in g.D.Disc.told c.args.keep.now in
    let t = c.args.terminal in
    on-ok c.send.result c.send.ensures.ok
    (changed-alike g.D.Disc.told (kept_send t c.args.unit c.args.class c.in_ok-message.message)
    (entered_send system t c.args.unit c.args.class) c.args.keep.now c.send.new.self
    (sent-is system t c.args.unit c.args.class kept c.requires c.in_ok-message.message (c.in_ok-message.ensures c.requires)))
