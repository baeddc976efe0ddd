use Rattle.std.proofs.Common.{◌∙◌, ap, rules}
use Rattle.pw_base.proofs.Plain.{on-ok}
use Rattle.pw_code.specs.declared.system.System.{System}
use Rattle.pw_world_store.specs.Keeps.{kept_in}
use Rattle.pw_world_state.specs.Changes.{kept_check}
use Rattle.pw_world_state.specs.Entered.{copied, entered_check_copy, tcp_of}
use Rattle.pw_world_state.specs.Kept.{Kept}
use Rattle.pw_pair.specs.declared.message.CheckKind.TheVariants as kind
use Rattle.pw_entry_effects.proofs.Carrying.{may-send, sent-is}
use Rattle.pw_entry_effects.proofs.Changing.{changed-alike}
use Rattle.pw_entry_effects.proofs.checkpoints.check_copy.Goals as goal

pub check-requires-clause-kind : goal.check-requires-clause-kind
check-requires-clause-kind g c =
    let kept : Kept = kept_in g.D.Disc.told c.args.keep.now in
    let h =
    may-send c.args.keep.now.system c.args.terminal c.pair_of-tcp.result kind.Copy c.requires.own c.in_ok-message.message kept
    (c.pair_of-tcp.ensures.pair ∙ ap (λ (s : System). tcp_of s c.args.terminal) c.system.ensures) (c.in_ok-message.ensures.is c.requires) c.requires.sends in
    search (rules, h)

pub returns-clause-ok : goal.returns-clause-ok
returns-clause-ok g c =
    let system = c.args.keep.now.system in
    let t = c.args.terminal in
    let kept : Kept = kept_in g.D.Disc.told c.args.keep.now in
    on-ok c.check.result c.check.ensures.ok
    (changed-alike g.D.Disc.told (kept_check c.pair_of-tcp.result c.in_ok-message.message) (entered_check_copy system t) c.args.keep.now c.check.new.self
    (sent-is system t c.pair_of-tcp.result kind.Copy (copied (kept.terminals t).start (kept.terminals t).context) c.requires.own c.in_ok-message.message kept
    (c.pair_of-tcp.ensures.pair ∙ ap (λ (s : System). tcp_of s c.args.terminal) c.system.ensures) (c.in_ok-message.ensures.is c.requires) c.requires.there))
