use Rattle.std.proofs.Common.{◌≡◌, ◌++◌, subst, sym}
use Rattle.std.specs.Prelude.{OnOk}
use Rattle.pw_event.specs.declared.event.Event.{Event}
use Rattle.pw_serial_order.specs.Entries.{blocks_given, shadow_behind}
use Rattle.pw_serial_order.proofs.order.SerialOrder.read.Goals as goal

pub returns-in-FailTcp-clause-kept : goal.returns-in-FailTcp-clause-kept
returns-in-FailTcp-clause-kept c =
    subst (λ (e : Event). OnOk c.fail.result (c.fail.new.self ≡ shadow_behind c.args.one_send e c.args.self.now)) (sym c.in-FailTcp.is) c.fail.ensures.kept

pub returns-in-FailTcp-clause-order : goal.returns-in-FailTcp-clause-order
returns-in-FailTcp-clause-order c =
    subst (λ (e : Event). OnOk c.fail.result (c.fail.new.order.items ≡ c.args.order.now.items ++ blocks_given c.args.self.now e)) (sym c.in-FailTcp.is) c.fail.ensures.order
