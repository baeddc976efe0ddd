use Rattle.std.proofs.Common.{◌≡◌, ◌+◌, ◌++◌, [], ◌∷◌, List, Some, subst}
use Rattle.std.specs.Prelude.{slice_get, take}
use Rattle.pw_event.specs.declared.event.Event.{Event}
use Rattle.pw_world.specs.States.{seen}
use Rattle.pw_world_model.specs.Seen.{sys_of}
use Rattle.pw_onecopy.specs.Behaviour.{Behaviour}
use Rattle.pw_paired.specs.Step.{IsRun}
use Rattle.pw_report.proofs.Reading.{flag-told, more, on-ok, read-on, run-to}
use Rattle.pw_serial_order.specs.Order.{blocks_behind}
use Rattle.pw_serial_order.specs.Shadow.{ShadowStands}
use Rattle.pw_report.proofs.order.read.Goals as goal

pub returns : goal.returns
returns g c =
    let sys : Behaviour = sys_of (seen g.D.Disc.told c.args.world.now) in
    let log : List Event = c.args.world.now.ledger.log in
    let entry : Event = c.entry_at-entry.result in
    let here : slice_get log c.args.place ≡ Some entry =
    subst (λ (l : List Event). slice_get l c.args.place ≡ Some entry) c.log.ensures.log c.entry_at-entry.ensures in
    on-ok
    (λ (grown : ShadowStands sys (take c.args.place log ++ entry ∷ []) c.push.new.self
    × (c.push.new.order.items ≡ c.args.order.now.items ++ blocks_behind sys (take c.args.place log) entry)).
    record {
      read = read-on sys log c.args.place entry _ c.push.new.self c.args.order.now.items c.push.new.order.items here c.requires.read.read grown;
    })
    c.push.result
    (c.push.ensures.reads sys c.holds.ensures.deck (take c.args.place log)
    (subst (IsRun sys) (more log c.args.place entry here) (run-to sys log (c.args.place + 1) c.holds.ensures.run))
    (flag-told sys log c.args.place entry c.one_send.result here c.one_send.ensures) c.requires.read.read.stands)
