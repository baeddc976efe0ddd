use Rattle.std.proofs.Common.{ℕ, Option, Some, None, sym, ap, subst, rules}
use Rattle.pw_base.proofs.Plain.{on-ok}
use Rattle.pw_world_store.specs.Keeps.{kept_in}
use Rattle.pw_world_state.specs.Entered.{entered_reply}
use Rattle.pw_world_state.specs.Kept.{Kept}
use Rattle.pw_entry_effects.specs.Can.{CanReply}
use Rattle.pw_entry_effects.proofs.Changing.{changed-alike}
use Rattle.pw_entry_effects.proofs.servers.reply.Goals as goal

pub reply_with-requires-clause-can : goal.reply_with-requires-clause-can
reply_with-requires-clause-can g c =
    let h = subst (CanReply c.args.keep.now.system (kept_in g.D.Disc.told c.args.keep.now) c.args.class c.args.process c.args.terminal) c.in-None.is c.requires.can in
    search (rules, h)

pub returns-in-None-clause-ok : goal.returns-in-None-clause-ok
returns-in-None-clause-ok g c =
    let system = c.args.keep.now.system in
    let kept : Kept = kept_in g.D.Disc.told c.args.keep.now in
    on-ok c.reply_with.result c.reply_with.ensures.ok
    (changed-alike g.D.Disc.told (entered_reply system c.args.class c.args.process c.args.terminal None)
    (entered_reply system c.args.class c.args.process c.args.terminal c.args.fault) c.args.keep.now c.reply_with.new.keep
    (ap (λ (o : Option ℕ). entered_reply system c.args.class c.args.process c.args.terminal o kept) (sym c.in-None.is)))

pub returns-in-Some-clause-ok : goal.returns-in-Some-clause-ok
returns-in-Some-clause-ok g c =
    let system = c.args.keep.now.system in
    let kept : Kept = kept_in g.D.Disc.told c.args.keep.now in
    changed-alike g.D.Disc.told (entered_reply system c.args.class c.args.process c.args.terminal (Some c.in-Some.code))
    (entered_reply system c.args.class c.args.process c.args.terminal c.args.fault) c.args.keep.now c.go_on.new.keep
    (ap (λ (o : Option ℕ). entered_reply system c.args.class c.args.process c.args.terminal o kept) (sym c.in-Some.is))
    (record { system = c.go_on.ensures.system; kept = c.go_on.ensures.kept })
