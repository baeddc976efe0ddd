use Rattle.std.proofs.Common.{◌∙◌, ℕ, None, sym, ap, subst, rules}
use Rattle.pw_base.proofs.Plain.{on-ok}
use Rattle.pw_world_store.specs.Keeps.{kept_in}
use Rattle.pw_world_state.specs.Changes.{unit_at}
use Rattle.pw_world_state.specs.Entered.{entered_reply, replies_last, replies_to}
use Rattle.pw_world_state.specs.Kept.{Kept}
use Rattle.pw_tmf.specs.Units.{IsRunning}
use Rattle.pw_entry_effects.specs.Verbs.{one_send}
use Rattle.pw_entry_effects.proofs.Answering.{one-send-is, replied-last, replied-on}
use Rattle.pw_entry_effects.proofs.Changing.{changed-alike}
use Rattle.pw_entry_effects.proofs.servers.reply_with.Goals as goal

pub end_send-requires-clause-runs : goal.end_send-requires-clause-runs
end_send-requires-clause-runs g c =
    let kept : Kept = kept_in g.D.Disc.told c.args.keep.now in
    let can = c.requires.can in
    let ends = one-send-is can.can.context c.in-Some.unit (ap one_send (sym can.can.ready) ∙ (sym c.one_send.ensures ∙ c.in-Some.is)) in
    let h = subst (λ (n : ℕ). IsRunning kept.disc (unit_at kept c.args.terminal n)) (sym ends.1) (can.replies.runs ends.0) in
    search (rules, h)

pub returns-in-Some-clause-ok : goal.returns-in-Some-clause-ok
returns-in-Some-clause-ok g c =
    let system = c.args.keep.now.system in
    on-ok c.end_send.result c.end_send.ensures.ok
    (changed-alike g.D.Disc.told (replies_last system c.args.class c.args.process c.args.terminal c.in-Some.unit c.in_ok-reply.reply)
    (entered_reply system c.args.class c.args.process c.args.terminal None) c.args.keep.now c.end_send.new.keep
    (replied-last system c.args.class c.args.process c.args.terminal c.in-Some.unit c.in_ok-reply.reply (kept_in g.D.Disc.told c.args.keep.now)
    c.in_ok-reply.ensures (sym c.one_send.ensures ∙ c.in-Some.is)))

pub returns-in-None-clause-ok : goal.returns-in-None-clause-ok
returns-in-None-clause-ok g c =
    let system = c.args.keep.now.system in
    changed-alike g.D.Disc.told (replies_to system c.args.class c.args.process c.args.terminal c.in_ok-reply.reply)
    (entered_reply system c.args.class c.args.process c.args.terminal None) c.args.keep.now c.go_on.new.keep
    (replied-on system c.args.class c.args.process c.args.terminal c.in_ok-reply.reply (kept_in g.D.Disc.told c.args.keep.now)
    c.in_ok-reply.ensures (sym c.one_send.ensures ∙ c.in-None.is))
    c.go_on.ensures
