use Rattle.std.proofs.Common.{◌≡◌, ◌<◌, ℕ, Option, ap, arith, length, refl}
use Rattle.std.specs.Prelude.{slice_index_or}
use Rattle.pw_code.specs.declared.system.System.{System}
use Rattle.pw_pair.specs.SeenTask.{SeenTask}
use Rattle.pw_world.specs.States.{seen}
use Rattle.pw_world_model.specs.Calls.{lent}
use Rattle.pw_workers.proofs.Asked.{as-many, one-more, rest-left}
use Rattle.pw_workers.proofs.places.lend_down.Goals as goal

pub loop-tcp-preserved : goal.loop-tcp-preserved
loop-tcp-preserved g c =
    let first = c.args.places.now in
    let now = c.loop-tcp.places in
    let n = c.loop-tcp.tcp in
    let new = c.lend_at.new.place in
    let task : ℕ → Option SeenTask = λ p. lent ((seen g.D.Disc.told c.args.world.now).kept.pairs p) in
    let pairs : length c.system-system.result.now.tcps ≡ length c.args.world.now.keep.system.tcps = ap (λ (s : System). length s.tcps) c.system-system.ensures.system in
    let end = c.len-tcp-end.ensures in
    let before = c.loop-tcp-test.true in
    let places = c.requires in
    let many = c.loop-tcp.invariant.as_many in
    let within : n < length now = omega arith in
    record {
      as_many = as-many first now n new many;
      done =
          one-more first now n new task (slice_index_or now n c.index-places-tcp.result) c.index-places-tcp.result within refl c.loop-tcp.invariant.done (c.loop-tcp.invariant.left n (omega arith)) c.in_ok-lend_at.ensures;
      left = rest-left first now n new c.loop-tcp.invariant.left;
    }
