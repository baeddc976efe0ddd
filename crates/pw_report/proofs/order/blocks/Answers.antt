use Rattle.std.proofs.Common.{◌≤◌, ◌∙◌, ◌++◌, List, length, ap, subst, sym}
use Rattle.pw_code.specs.declared.system.System.{System}
use Rattle.pw_event.specs.declared.event.Event.{Event}
use Rattle.pw_world.specs.States.{seen}
use Rattle.pw_world_model.specs.Seen.{sys_of}
use Rattle.pw_onecopy.specs.Behaviour.{Behaviour}
use Rattle.pw_serial_order.specs.Order.{last_order}
use Rattle.pw_serial_order.specs.Shadow.{IsOfSystem}
use Rattle.pw_serial_order.specs.declared.block.Block.{Block}
use Rattle.pw_report.proofs.Reading.{is-of, read-all}
use Rattle.pw_report.proofs.order.blocks.Goals as goal

pub loop-place-init : goal.loop-place-init
loop-place-init g c =
    let world = seen g.D.Disc.told c.args.world.now in
    let sys : Behaviour = sys_of world in
    record {
      read = record {
        stands = c.in_ok-reading.ensures sys (subst (λ (s : System). IsOfSystem s sys) (sym c.system.ensures.system) (is-of world.system world.script));
        blocks = c.new-order.ensures.items;
      };
    }

pub read-requires-clause-read : goal.read-requires-clause-read
read-requires-clause-read g c = λ _ _. c.loop-place.invariant

pub loop-place-preserved : goal.loop-place-preserved
loop-place-preserved g c = c.in_ok-read.ensures

pub returns : goal.returns
returns g c =
    let sys : Behaviour = sys_of (seen g.D.Disc.told c.args.world.now) in
    let log : List Event = c.args.world.now.ledger.log in
    let all : length log ≤ c.loop-place.place =
    subst (λ (l : List Event). length l ≤ c.loop-place.place) c.log-place-end.ensures.log c.loop-place-test.false in
    let read = read-all sys log c.loop-place.place c.loop-place.reading c.loop-place.order.items c.loop-place.invariant.read all in
    c.in_ok-end.ensures.ends sys log read.0
    ∙ (ap (λ (order : List Block). order ++ last_order sys log) read.1 ∙ c.orders_are_whole.ensures.whole sys log)
