use Rattle.std.proofs.Common.{◌≡◌, ◌∙◌, ◌≤◌, ⊎_elim, ap, length}
use Rattle.std.proofs.lemmas.Bool.{cases_lt}
use Rattle.pw_world_state.specs.Entered.{tcp_of}
use Rattle.pw_world.proofs.Filing.{filed-monitor, gives-back, marked-monitor, marked-seen, none-back}
use Rattle.pw_world.specs.States.{WorldState, seen}
use Rattle.pw_world.proofs.world.World.give_back.Goals as goal

pub invariant_of-self : goal.invariant_of-self
invariant_of-self g c =
    let w : WorldState g.row.D.Denot = record { keep = c.self.inside.keep; first = c.self.inside.first.value; script = c.self.inside.script.lines; limit = c.self.inside.limit; failed = c.self.inside.failed; ledger = c.self.inside.ledger } in
    let k = c.give_back-filed.new.self in
    marked-monitor g.D.Disc.told (record w { keep = k }) c.wake.new.self
    (filed-monitor g.D.Disc.told w k c.tcp_of-tcp.result c.args.done.task.terminal c.give_back-filed.result c.give_back-filed.ensures.filed c.give_back-filed.ensures.late c.self.invariant)
    c.wake.ensures.rest c.wake.ensures.notes

pub returns-then-not-is_actor : goal.returns-then-not-is_actor
returns-then-not-is_actor g c =
    let w : WorldState g.row.D.Denot = record { keep = c.self.inside.keep; first = c.self.inside.first.value; script = c.self.inside.script.lines; limit = c.self.inside.limit; failed = c.self.inside.failed; ledger = c.self.inside.ledger } in
    let p = c.tcp_of-tcp.result in
    let own : p ≡ tcp_of w.keep.system c.args.done.task.terminal =
    c.tcp_of-tcp.ensures ∙ ap (λ s. tcp_of s c.terminal.result) c.system-system.ensures ∙ ap (tcp_of w.keep.system) c.terminal.ensures in
    let here : length c.system-system.result.now.tcps ≤ p =
    ⊎_elim (λ lt. absurd (cc (c.if-not-is_actor.true, c.is_actor.ensures.1 lt))) (λ past. past) (cases_lt p (length c.system-system.result.now.tcps)) in
    let past : length w.keep.system.tcps ≤ p = rw (← c.system-system.ensures) here in
    rw (← c.self.view_is) (none-back g.D.Disc.told w p c.args.done c.known_parts.ensures own past)

pub returns : goal.returns
returns g c =
    let w : WorldState g.row.D.Denot = record { keep = c.self.inside.keep; first = c.self.inside.first.value; script = c.self.inside.script.lines; limit = c.self.inside.limit; failed = c.self.inside.failed; ledger = c.self.inside.ledger } in
    let k = c.give_back-filed.new.self in
    let p = c.tcp_of-tcp.result in
    let own : p ≡ tcp_of w.keep.system c.args.done.task.terminal =
    c.tcp_of-tcp.ensures ∙ ap (λ s. tcp_of s c.terminal.result) c.system-system.ensures ∙ ap (tcp_of w.keep.system) c.terminal.ensures in
    rw (← c.self.view_is)
    (gives-back g.D.Disc.told w k (seen g.D.Disc.told (record w { keep = k; ledger = c.wake.new.self })) p c.args.done c.give_back-filed.result own
    c.give_back-filed.ensures.files c.give_back-filed.ensures.filed c.give_back-filed.ensures.late
    (marked-seen g.D.Disc.told (record w { keep = k }) c.wake.new.self c.wake.ensures.rest c.wake.ensures.notes))
